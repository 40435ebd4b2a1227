-- The text of a strict answer.
use Rattle.std.specs.Prelude.{ℕ, List, [], ◌∷◌, ◌++◌, codes, decimal, length}
use Rattle.std.specs.List.{flat_map}
use Rattle.std.specs.Fmt.{signed_decimal}
use Rattle.log_moments.specs.declared.answer.LineMoment.{LineMoment}
use Rattle.log_moments.specs.declared.answer.StrictAnswer.{StrictAnswer}
use Rattle.log_moments.specs.declared.answer.StrictAnswer.TheVariants.{Strict, Crossed}
use Rattle.verdict_text.specs.Words.{ended, spaced}

-- LINE NANOS
abbrev pub line_text : LineMoment → List ℕ
line_text line = spaced (decimal line.line ∷ signed_decimal line.moment.0 ∷ [])

abbrev pub lines_text : List LineMoment → List ℕ
lines_text lines = flat_map (λ line. ended (line_text line)) lines

-- how many things there are, and then each of them
abbrev pub strict_text : List LineMoment → List ℕ
strict_text lines = ended (spaced (codes "strict" ∷ decimal (length lines) ∷ [])) ++ lines_text lines

-- the whole text of a strict answer
abbrev pub answer_text : StrictAnswer → List ℕ
answer_text (Strict lines) = strict_text lines
answer_text (Crossed first second) = ended (spaced (codes "crossed" ∷ decimal first ∷ decimal second ∷ []))
