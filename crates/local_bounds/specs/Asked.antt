-- What is asked of the choices of the removals' places.
use Rattle.std.specs.Prelude.{◌≡◌, ◌<◌, ◌⊎◌, ◌↔◌, ℕ, Bool, List, [], ◌∷◌, Some, AllPairs, Contains, slice_get, if◌then◌else◌}
use Rattle.base_types.specs.Choices.{IsChoice, Meets, MeetsAll}
use Rattle.base_types.specs.declared.verdict.claim.Bound.{Bound}
use Rattle.base_types.specs.declared.kubernetes.key.ObjectKey.{ObjectKey}
use Rattle.history_model.specs.Bounding.{IsOpen}
use Rattle.history_model.specs.Events.{Event}
use Rattle.history_model.specs.Histories.{History, Removal, ranges}
use Rattle.history_model.specs.Local.{AnswerHolds}
use Rattle.local_bounds.specs.declared.asking.BoundDemand.{BoundDemand}
use Rattle.local_bounds.specs.declared.asking.BoundDemand.TheVariants as whole
use Rattle.local_bounds.specs.declared.asking.KeyDemand.{KeyDemand}
use Rattle.local_bounds.specs.declared.asking.KeyDemand.TheVariants.{Free, Under, Never}

abbrev pub settled : Bool → KeyDemand
settled holds = if holds then Free else Never

abbrev pub HoldsUnder : List ℕ → KeyDemand → Type 0
HoldsUnder choice Free = Unit {0}
HoldsUnder choice (Under bound) = Meets choice bound
HoldsUnder choice Never = ⊥

-- some places of the range meet the bound, and some don't
pub record IsDeciding (h : History) (bound : Bound) : Type 0 where
  pub has_room : IsOpen (ranges h) bound
  pub removal : Removal
  pub known : slice_get h.removals bound.range ≡ Some removal
  pub narrow : (removal.range.low < bound.low) ⊎ (bound.high < removal.range.high)

-- the bound's range is that of a removal of the key
abbrev pub IsOnKey : History → ObjectKey → Bound → Type 0
IsOnKey h key bound = (removal : Removal) → slice_get h.removals bound.range ≡ Some removal → removal.key ≡ key

-- what is asked for one object, so that this holds of the choice
abbrev pub IsKeyAsking : History → ObjectKey → (List ℕ → Type 0) → KeyDemand → Type 0
IsKeyAsking h key Holds Free = (choice : List ℕ) → IsChoice (ranges h) choice → Holds choice
IsKeyAsking h key Holds (Under bound) = IsDeciding h bound × IsOnKey h key bound × ((choice : List ℕ) → IsChoice (ranges h) choice → Holds choice ↔ Meets choice bound)
IsKeyAsking h key Holds Never = (choice : List ℕ) → IsChoice (ranges h) choice → Holds choice → ⊥

-- at most one bound for each range, by range
pub record AreDeciding (h : History) (bounds : List Bound) : Type 0 where
  pub rising : AllPairs (λ a b. a.range < b.range) bounds
  pub deciding : (bound : Bound) → Contains bounds bound → IsDeciding h bound

-- what is asked, so that this holds of the choice
abbrev pub IsAsking : History → (List ℕ → Type 0) → BoundDemand → Type 0
IsAsking h Holds whole.Free = (choice : List ℕ) → IsChoice (ranges h) choice → Holds choice
IsAsking h Holds (whole.Under bounds) = AreDeciding h bounds × ((choice : List ℕ) → IsChoice (ranges h) choice → Holds choice ↔ MeetsAll choice bounds)
IsAsking h Holds whole.Never = (choice : List ℕ) → IsChoice (ranges h) choice → Holds choice → ⊥

-- what the answer of an event asks
abbrev pub IsAskingOf : History → ℕ → Event → BoundDemand → Type 0
IsAskingOf h number event asking = IsAsking h (λ choice. AnswerHolds h choice number event) asking

abbrev pub bounds_of : BoundDemand → List Bound
bounds_of whole.Free = []
bounds_of (whole.Under bounds) = bounds
bounds_of whole.Never = []

-- what is asked of one object, as all that is asked
abbrev pub asking_from : KeyDemand → BoundDemand
asking_from Free = whole.Free
asking_from (Under bound) = whole.Under (bound ∷ [])
asking_from Never = whole.Never

abbrev pub HoldsAll : List ℕ → BoundDemand → Type 0
HoldsAll choice whole.Free = Unit {0}
HoldsAll choice (whole.Under bounds) = MeetsAll choice bounds
HoldsAll choice whole.Never = ⊥
