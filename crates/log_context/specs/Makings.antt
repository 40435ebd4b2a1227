-- Why the makers of revisions could not have made them, by the numbers of their events.
use Rattle.std.specs.Prelude.{◌≡◌, ℕ, List, Option, Some, None, length, slice_get, Contains}
use Rattle.std.specs.BTreeMap.{BTreeMap, get}
use Rattle.std.specs.Ordering.{nat_cmp}
use Rattle.base_types.specs.declared.verdict.claim.Reason.{Reason}
use Rattle.history_model.specs.Groups.{Making, IsMaking}
use Rattle.history_model.specs.Events.{Event}
use Rattle.history_model.specs.Histories.{History, Version, ByEvent, IsEvent}
use Rattle.history_model.specs.Making.{IsEntryBefore, IsLeastFault}
use Rattle.object_past.specs.Faulted.{IsFaultOf}
use Rattle.past_building.specs.declared.maker.JudgedWrite.{JudgedWrite}

abbrev pub Makings : Type 0
Makings = BTreeMap ℕ (Option Reason)

abbrev pub code_in : Option (Option Reason) → Option Reason
code_in None = None
code_in (Some code) = code

-- the code of the write of this number, or none
abbrev pub making_code : Makings → ℕ → Option Reason
making_code makings number = code_in (get nat_cmp makings number)

-- the number has the code of a write that was judged under it, or nothing was judged under it
abbrev pub IsCodeIn : List JudgedWrite → ℕ → Option (Option Reason) → Type 0
IsCodeIn judged number None = (one : JudgedWrite) → Contains judged one → one.number ≡ number → ⊥
IsCodeIn judged number (Some code) = (one : JudgedWrite) × Contains judged one × (one.number ≡ number) × (one.making ≡ code)

abbrev pub AreMakingsOf : List JudgedWrite → Makings → Type 0
AreMakingsOf judged makings = (number : ℕ) → IsCodeIn judged number (get nat_cmp makings number)

-- each maker's least code
abbrev pub AreMakersCodes : History → Makings → Type 0
AreMakersCodes h makings = (v : Version) (number : ℕ) → Contains h.versions v → v.maker ≡ ByEvent number
    → (m : Making) × (m.number ≡ number) × IsMaking h m × ((before : Option Version) × IsEntryBefore h m before × IsLeastFault h m before (making_code makings number))

-- the faults of the first n events
pub record AreFaultsUpTo (h : History) (n : ℕ) (faults : List (Option Reason)) : Type 0 where
  pub all : length faults ≡ n
  pub each : (number : ℕ) (event : Event) (fault : Option Reason) → IsEvent h number event → slice_get faults number ≡ Some fault → IsFaultOf h number event fault
