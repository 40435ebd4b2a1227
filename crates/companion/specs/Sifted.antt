-- What a log comes to line by line, of its bytes alone.
use Rattle.std.specs.Prelude.{◌≡◌, ◌<◌, ◌≤◌, ◌⊎◌, ℕ, Bool, List, length, codes}
use Rattle.log_sift.specs.Named.{most_log, sifted_text}
use Rattle.log_sift.specs.Sifted.{IsSifting}
use Rattle.log_sift.specs.declared.answer.Fate.{Fate}
use Rattle.log_sift.specs.declared.answer.Sifting.{Sifting}
use Rattle.log_verdict.specs.Answers.{Answer, answer}
use Rattle.verdict_text.specs.Words.{ended}

-- what the bytes of a log come to: the limit comes first
abbrev pub IsSiftAnswer : Bool → List ℕ → Answer → Type 0
IsSiftAnswer left log answered =
    ((most_log < length log) × (answered ≡ answer 7 (ended (codes "limit input"))))
    ⊎ ((length log ≤ most_log) × ((fates : List Fate) × (sifting : Sifting) × IsSifting log fates sifting × (answered ≡ answer 0 (sifted_text left log sifting))))
