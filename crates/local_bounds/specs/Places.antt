-- The least place at which an answer is right.
use Rattle.std.specs.Prelude.{◌<◌, ◌≤◌, ℕ, List, Option, Some, None}
use Rattle.base_types.specs.declared.kubernetes.key.ObjectKey.{ObjectKey}
use Rattle.history_model.specs.Events.{Event}
use Rattle.history_model.specs.Histories.{History}
use Rattle.history_model.specs.Placed.{IsLeastPlace}
use Rattle.history_model.specs.Right.{IsRight}
use Rattle.history_model.specs.States.{state}
use Rattle.history_model.specs.Windows.{InWindow}
use Rattle.local_bounds.specs.declared.sight.Sight.{Sight}
use Rattle.local_bounds.specs.Sights.{IsSeen, IsSeenWithin}
use Rattle.write_groups.specs.declared.window.Window.{Window}

-- the least place of the event's window at which its answer is right under the choice, or none
abbrev pub IsLeastRight : History → List ℕ → ℕ → Event → Option ℕ → Type 0
IsLeastRight h choice number event None = (place : ℕ) → InWindow h event place → IsRight h number event place (state h choice place) → ⊥
IsLeastRight h choice number event (Some place) = IsLeastPlace h choice number event place

-- from the first place on the object is so somewhere up to the rest's end, and nowhere before the rest
pub record IsNarrowed (h : History) (choice : List ℕ) (key : ObjectKey) (sight : Sight) (first : ℕ) (rest : Window) : Type 0 where
  pub seen : IsSeenWithin h choice key sight first rest.high
  pub none : (place : ℕ) → first ≤ place → place < rest.low → IsSeen sight (state h choice place key) → ⊥
