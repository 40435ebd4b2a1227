-- The answer is a function of the words and of the bytes of each name.
use Rattle.std.specs.Prelude.{◌≡◌, ℕ, List}
use Rattle.log_verdict.specs.Answers.{Answer}
use Rattle.companion.specs.Program.{IsAnswer}

abbrev pub OneAnswer : Type 0
OneAnswer = (words : List (List ℕ)) (files : List ℕ → List ℕ) (a b : Answer) → IsAnswer words files a → IsAnswer words files b → a ≡ b
