-- What is said of the lines that are left out.
use Rattle.std.specs.Prelude.{ℕ, List, [], ◌∷◌, ◌++◌, length, codes, decimal}
use Rattle.std.specs.List.{flat_map}
use Rattle.audit_event.specs.Rules.{rank}
use Rattle.verdict_text.specs.Words.{spaced, ended}
use Rattle.log_sift.specs.declared.answer.LeftCause.{LeftCause}
use Rattle.log_sift.specs.declared.answer.LeftCause.TheVariants.{LineTooLong, Rule}
use Rattle.log_sift.specs.declared.answer.LeftLine.{LeftLine}
use Rattle.log_sift.specs.declared.answer.Sifting.{Sifting}

-- `limit line`, or M1 to M12
abbrev pub cause_text : LeftCause → List ℕ
cause_text LineTooLong = codes "limit line"
cause_text (Rule code) = codes "M" ++ decimal (rank code)

abbrev pub left_line_text : LeftLine → List ℕ
left_line_text left = spaced (decimal left.line ∷ cause_text left.cause ∷ [])

abbrev pub left_lines_text : List LeftLine → List ℕ
left_lines_text lines = flat_map (λ left. ended (left_line_text left)) lines

-- the lines that are left out, and then how many stay and how many don't
abbrev pub left_text : Sifting → List ℕ
left_text sifting =
    left_lines_text sifting.left
    ++ ended (spaced (codes "kept" ∷ decimal sifting.kept ∷ codes "left" ∷ decimal (length sifting.left) ∷ []))
