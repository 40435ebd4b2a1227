-- What an operation does to the size of a document, in numbers that stop at 2 ^ 64 - 1.
use Rattle.std.specs.Prelude.{◌≡◌, ℕ, ◌+◌, ◌-◌, ◌^◌, ◌<◌, ◌≤◌, ◌↔◌, min, max, Result, Err}
use Rattle.base_types.specs.Meaning.{Meaning}
use Rattle.json_patch.specs.declared.applying.Change.{Change}
use Rattle.json_patch.specs.declared.fault.ApplyFault.{ApplyFault}
use Rattle.json_patch.specs.declared.fault.ApplyFault.TheVariants.{Operation, OutOfMemory}
use Rattle.json_patch.specs.declared.size.Size.{Size}
use Rattle.json_patch.specs.Limits.{depth, values}

pub record IsChange (old new : Meaning) (change : Change) : Type 0 where
  pub came : ℕ
  pub went : ℕ
  pub deep : ℕ
  pub came_is : change.came ≡ min came (2 ^ 64 - 1)
  pub went_is : change.went ≡ min went (2 ^ 64 - 1)
  pub deep_is : change.depth ≡ min deep (2 ^ 64 - 1)
  pub counted : values new + went ≡ values old + came
  pub part : went ≤ values old
  pub shallow : depth new ≤ max (depth old) deep
  pub deeper : deep ≤ depth new

-- the document is within the limits, and has so many values
pub record IsWithin (t : Meaning) (count : ℕ) : Type 0 where
  pub counted : count ≡ values t
  pub small : values t ≤ 1_000_000
  pub shallow : depth t ≤ 127

-- the size tells what passes the limits, and how many values there are where they don't
pub record Tells (t : Meaning) (size : Size) : Type 0 where
  pub large : (1_000_000 < size.values) ↔ (1_000_000 < values t)
  pub deep : (127 < size.depth) ↔ (127 < depth t)
  pub counted : values t ≤ 1_000_000 → size.values ≡ values t

-- the fault is the one that the definition gives
abbrev pub IsFaultOf : Result Meaning ApplyFault → ApplyFault → Type 0
IsFaultOf made (Operation index cause) = made ≡ Err (Operation index cause)
IsFaultOf made OutOfMemory = Unit {0}
