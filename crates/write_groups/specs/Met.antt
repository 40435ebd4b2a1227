-- When an object meets what a request asks of it.
use Rattle.std.specs.Prelude.{◌==◌, ◌&&◌, ℕ, Bool, true, List, Option, Some, None, bytes_eq}
use Rattle.write_groups.specs.declared.event.Preconditions.{Preconditions}

abbrev pub asks_revision : Option ℕ → ℕ → Bool
asks_revision None revision = true
asks_revision (Some wanted) revision = wanted == revision

abbrev pub asks_uid : Option (List ℕ) → List ℕ → Bool
asks_uid None uid = true
asks_uid (Some wanted) uid = bytes_eq wanted uid

-- an object of this revision and uid meets the preconditions
abbrev pub are_met : Preconditions → ℕ → List ℕ → Bool
are_met asked revision uid = asks_revision asked.revision revision && asks_uid asked.uid uid
