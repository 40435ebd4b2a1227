-- A vector that was lent whole.
use Rattle.std.proofs.Common.{◌≡◌, ℕ, List, ◌++◌, length, take, drop, arith}
use Rattle.std.proofs.lemmas.Grind.{common_steps}

-- it holds what was written in place of its items
pub written : {X : Type 0} (n : ℕ) (new old : List X) → length old ≡ n → length new ≡ n → take n (new ++ drop (length new) old) ≡ new
written n new old long same = grind (arith, common_steps)
