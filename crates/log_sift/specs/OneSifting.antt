-- Each line of a log becomes one thing.
use Rattle.std.specs.Prelude.{◌≡◌, ℕ, List}
use Rattle.log_sift.specs.declared.answer.Fate.{Fate}
use Rattle.log_sift.specs.Sift.{IsSifted}

abbrev pub OneSifting : Type 0
OneSifting = (log : List ℕ) (a b : List Fate) → IsSifted log a → IsSifted log b → a ≡ b
