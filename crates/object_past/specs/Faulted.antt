-- Why a write could not have made its revision, or could not have found it.
use Rattle.std.specs.Prelude.{◌≡◌, ◌≤◌, ℕ, List, Option, Some, None, length, slice_get}
use Rattle.base_types.specs.declared.verdict.claim.Reason.{Reason}
use Rattle.base_types.specs.declared.verdict.claim.Reason.TheVariants.{U3}
use Rattle.history_model.specs.Events.{Event, Answer, Made, Removed, Opaque, Saw, SawNone, SawSome, SawOther, Listed, Free, Aside}
use Rattle.history_model.specs.Groups.{Making}
use Rattle.history_model.specs.Histories.{History, Version, IsEvent}
use Rattle.base_types.specs.Reasons.{code_number}
use Rattle.history_model.specs.Making.{IsEntryBefore, IsLeastFault, HasFoundFault, CouldHaveFound}
use Rattle.history_model.specs.Words.{Word, Makes, Removes, At, Strays, Nothing, word}

-- the least code by which a write could not have found its answer, or none where it could
abbrev pub IsLeastFoundFault : History → Making → Option Reason → Type 0
IsLeastFoundFault h m None = CouldHaveFound h m
IsLeastFoundFault h m (Some code) = HasFoundFault h m code × ((other : Reason) → HasFoundFault h m other → code_number code ≤ code_number other)

-- a write that found its revision
abbrev pub IsFindingFault : History → ℕ → Event → Answer → Option Reason → Type 0
IsFindingFault h number event (Made item created) fault = IsLeastFoundFault h (record { number = number; event = event; item = item; created = created }) fault
IsFindingFault h number event (Removed key uid) fault = fault ≡ None
IsFindingFault h number event (Opaque cover) fault = fault ≡ None
IsFindingFault h number event (Saw item) fault = fault ≡ None
IsFindingFault h number event (SawNone key) fault = fault ≡ None
IsFindingFault h number event (SawSome key) fault = fault ≡ None
IsFindingFault h number event (SawOther key) fault = fault ≡ None
IsFindingFault h number event (Listed listing) fault = fault ≡ None
IsFindingFault h number event Free fault = fault ≡ None
IsFindingFault h number event Aside fault = fault ≡ None

abbrev pub IsFaultBy : History → ℕ → Event → Word → Option Reason → Type 0
IsFaultBy h number event (Makes m) fault = (before : Option Version) → IsEntryBefore h m before → IsLeastFault h m before fault
IsFaultBy h number event (Removes removal) fault = fault ≡ None
IsFaultBy h number event At fault = IsFindingFault h number event event.answer fault
IsFaultBy h number event Strays fault = fault ≡ Some U3
IsFaultBy h number event Nothing fault = fault ≡ None

-- The least code by which a maker could not have made its revision, and by which another write could not have found
-- it; that of a stray; none for every other event.
abbrev pub IsFaultOf : History → ℕ → Event → Option Reason → Type 0
IsFaultOf h number event fault = IsFaultBy h number event (word h number event) fault

pub record AreFaults (h : History) (faults : List (Option Reason)) : Type 0 where
  pub all : length faults ≡ length h.events
  pub each : (number : ℕ) (event : Event) (fault : Option Reason) → IsEvent h number event → slice_get faults number ≡ Some fault → IsFaultOf h number event fault
