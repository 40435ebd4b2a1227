-- Texts that are put behind others.
use Rattle.std.specs.Prelude.{◌≡◌, ◌++◌, ℕ, List}

-- what was there stays, and such a text is put behind it
pub record Appends (Is : List ℕ → Type 0) (old new : List ℕ) : Type 0 where
  pub told : List ℕ
  pub is : Is told
  pub behind : new ≡ old ++ told
