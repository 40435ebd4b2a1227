-- When a request could have made the revision that it was answered with, or have found it there.
use Rattle.std.specs.Prelude.{◌&&◌, not, ℕ, Bool, true, Option, Some, None, if◌then◌else◌, bytes_eq, is_none, is_some, option_map}
use Rattle.base_types.specs.declared.verdict.claim.Reason.{Reason}
use Rattle.base_types.specs.declared.verdict.claim.Reason.TheVariants.{U4, U5, U6, U7, U8}
use Rattle.history_model.specs.Groups as model
use Rattle.history_model.specs.Histories.{History}
use Rattle.history_model.specs.Making.{IsOutOfReach}
use Rattle.history_model.specs.Windows.{lowest, highest}
use Rattle.write_groups.specs.declared.event.Item.{Item}
use Rattle.write_groups.specs.declared.event.LogEvent.{LogEvent}
use Rattle.write_groups.specs.declared.event.Preconditions.{Preconditions}
use Rattle.object_past.specs.declared.version.Version.{Version}
use Rattle.write_groups.specs.Met.{are_met, asks_revision, asks_uid}

-- the object meets the preconditions; no object meets those that ask for nothing
abbrev pub meets : Preconditions → Option Version → Bool
meets asked None = is_none asked.revision && is_none asked.uid
meets asked (Some v) = are_met asked v.revision v.uid

abbrev pub is_other : Item → Option Version → Bool
is_other item None = true
is_other item (Some v) = not (bytes_eq v.uid item.uid)

abbrev pub node_of : Option Version → Option ℕ
node_of before = option_map (λ v. v.node.0) before

-- the revision isn't one that the write can have made between its moments
abbrev pub IsOutside : History → model.Making → Type 0
IsOutside h m = IsOutOfReach (lowest h m.event.lo) (highest h m.event.hi) m.item.revision

abbrev pub asked_code : (met right : Bool) → Option Reason
asked_code met right = if met then (if right then None else Some U8) else Some U7

abbrev pub object_code : (created used present other : Bool) → Option Reason → Option Reason
object_code created used present other rest =
    if created then (if present then Some U4 else (if used then Some U5 else rest)) else (if other then Some U6 else rest)

-- the least fault of a write whose key isn't clouded, and which can have happened at its revision
abbrev pub clear_code : (ℕ → Option ℕ → Bool) → ℕ → LogEvent → Item → (created used : Bool) → Option Version → Option Reason
clear_code body number event item created used before = object_code created used (is_some before) (is_other item before)
    (asked_code (meets event.preconditions before) (body number (node_of before)))

-- the least code by which a write could not have found its answer and left it as it was
abbrev pub found_code : (ℕ → Option ℕ → Bool) → model.Making → Option Reason
found_code body m = if m.created then Some U4 else
    asked_code (asks_revision m.event.conditions.revision m.item.revision && asks_uid m.event.conditions.uid m.item.uid) (body m.number (Some m.item.tree))
