-- The answer of the program: a status and a text, of the words and the bytes of each name.
use Rattle.std.specs.Prelude.{◌≡◌, ◌⊎◌, ℕ, List, Option, Some, None, codes, map}
use Rattle.log_verdict.specs.Answers.{Answer, answer}
use Rattle.log_verdict.specs.Endings.{IsBrokenStatus, IsVerdictStatus}
use Rattle.companion.specs.Picturing.{IsPictured}
use Rattle.verdict_text.specs.Words.{ended}
use Rattle.companion_words.specs.Command.{Asked, Explain, IsAsked, Picture, Setup, Sift}
use Rattle.companion.specs.Making.{IsSetupAnswer}
use Rattle.companion.specs.Sifted.{IsSiftAnswer}

abbrev pub usage_answer : Answer
usage_answer = answer 2 (ended (codes "usage"))

abbrev pub IsAnswerTo : Option Asked → (List ℕ → List ℕ) → Answer → Type 0
IsAnswerTo None files answered = answered ≡ usage_answer
IsAnswerTo (Some (Explain text)) files answered = answered ≡ answer 0 text
IsAnswerTo (Some (Sift left log)) files answered = IsSiftAnswer left (files log) answered
IsAnswerTo (Some (Setup authorize time policy names)) files answered = IsSetupAnswer authorize time (files policy) names (map files names) answered
IsAnswerTo (Some (Picture setup log)) files answered = IsPictured (files setup) (files log) answered

-- the answer to the words, whose names have these bytes
abbrev pub IsAnswer : List (List ℕ) → (List ℕ → List ℕ) → Answer → Type 0
IsAnswer words files answered = (asked : Option Asked) × IsAsked words asked × IsAnswerTo asked files answered

-- the statuses that the table has for a command: a code is always explained, a log is sifted unless it passes a limit, and
-- a setup may be refused besides
abbrev pub IsStatusOf : Asked → ℕ → Type 0
IsStatusOf (Explain text) status = status ≡ 0
IsStatusOf (Sift left log) status = (status ≡ 0) ⊎ (status ≡ 7)
IsStatusOf (Setup authorize time policy files) status = (status ≡ 0) ⊎ (status ≡ 3) ⊎ (status ≡ 7)
IsStatusOf (Picture setup log) status = IsVerdictStatus status ⊎ IsBrokenStatus status ⊎ (status ≡ 7)

-- an answer of the table to the words, whatever was read: `usage` with 2 where they are no command, or some text with a
-- status of the command that they are
abbrev pub IsOfTable : List (List ℕ) → Answer → Type 0
IsOfTable words answered =
    (IsAsked words None × (answered ≡ usage_answer))
    ⊎ ((asked : Asked) × IsAsked words (Some asked) × IsStatusOf asked answered.status)
