-- The serial API machine: it holds one object for each key, and takes one step after the other.
use Rattle.std.specs.Prelude.{◌≡◌, ◌<◌, ℕ, ◌⊎◌, if◌then◌else◌, List, [], ◌∷◌, Option, Some, None, IfSome, All, slice_get, ◌-◌}
use Rattle.base_types.specs.declared.kubernetes.key.ObjectKey.{ObjectKey}
use Rattle.history_model.specs.Clouds.{IsCloudedWithin}
use Rattle.history_model.specs.Events.{Event}
use Rattle.history_model.specs.Groups.{Making, IsMaking}
use Rattle.history_model.specs.Histories.{History, Version, Removal, Maker, Snapshot, ByEvent, Unknown, IsEvent}
use Rattle.base_types.specs.Keys.{same_key}
use Rattle.history_model.specs.Making.{HasNoFault}
use Rattle.history_model.specs.Right.{IsRight}
use Rattle.history_model.specs.States.{Map, Cut, latest}

-- One atomic step: a write of a version at its revision, a removal at its place, or an answer at a place.
pub data Step : Type 0 where
  Put : Version → Step
  Remove : Cut → Step
  Reply : (number : ℕ) → (event : Event) → (place : ℕ) → Step

abbrev pub put_at : Map → ObjectKey → Option Version → Map
put_at map key entry = λ other. if same_key other key then entry else map other

-- what a step leaves
abbrev pub after : Map → Step → Map
after map (Put v) = put_at map v.key (Some v)
after map (Remove cut) = put_at map cut.removal.key None
after map (Reply number event place) = map

abbrev pub after_all : Map → List Step → Map
after_all map [] = map
after_all map (step ∷ steps) = after_all (after map step) steps

-- The machine begins with the snapshot: its objects are the versions up to the start.
abbrev pub snapshot_map : History → Map
snapshot_map h key = latest h.versions key h.start

-- the removal's conditions, where `last` is the revision of the object that it removes
pub record MeetsPreconditions (h : History) (event : Event) (removal : Removal) (last : ℕ) : Type 0 where
  pub uid : IfSome event.conditions.uid (λ wanted. wanted ≡ removal.uid)
  pub revision : IfSome event.conditions.revision (λ wanted. (wanted ≡ last)
      ⊎ IsCloudedWithin h removal.key (removal.range.low - 1) removal.range.high)

-- the object that is there is the one to remove
abbrev pub MayRemove : History → Event → Removal → Option Version → Type 0
MayRemove h event removal None = ⊥
MayRemove h event removal (Some v) = (v.uid ≡ removal.uid) × MeetsPreconditions h event removal v.revision

-- the write of a maker has no fault, the removal may remove, the answer is right; a version without a maker
-- of the log is never judged
abbrev pub IsAllowed : History → Map → Step → Type 0
IsAllowed h map (Put v) = (m : Making) → IsMaking h m → v.maker ≡ ByEvent m.number → HasNoFault h m (map v.key)
IsAllowed h map (Remove cut) = (event : Event) → IsEvent h cut.removal.range.event event → MayRemove h event cut.removal (map cut.removal.key)
IsAllowed h map (Reply number event place) = IsRight h number event place map

abbrev pub step_place : Step → ℕ
step_place (Put v) = v.revision
step_place (Remove cut) = cut.place
step_place (Reply number event place) = place

-- writes come before answers
abbrev pub step_rank : Step → ℕ
step_rank (Put v) = 0
step_rank (Remove cut) = 0
step_rank (Reply number event place) = 1

abbrev pub event_line : Option Event → ℕ
event_line None = 0
event_line (Some event) = event.line

abbrev pub maker_line : History → Maker → ℕ
maker_line h Snapshot = 0
maker_line h (ByEvent number) = event_line (slice_get h.events number)
maker_line h Unknown = 0

abbrev pub step_line : History → Step → ℕ
step_line h (Put v) = maker_line h v.maker
step_line h (Remove cut) = event_line (slice_get h.events cut.removal.range.event)
step_line h (Reply number event place) = event.line

-- by place, writes before answers, then by line
abbrev pub Precedes : History → Step → Step → Type 0
Precedes h a b = (step_place a < step_place b)
    ⊎ ((step_place a ≡ step_place b) × (step_rank a < step_rank b))
    ⊎ ((step_place a ≡ step_place b) × (step_rank a ≡ step_rank b) × (step_line h a < step_line h b))

abbrev pub InOrder : History → List Step → Type 0
InOrder h [] = Unit {0}
InOrder h (step ∷ steps) = All (Precedes h step) steps × InOrder h steps

-- each step that is judged is allowed on the map that the steps before it left
abbrev pub Runs : History → (Step → Type 0) → Map → List Step → Type 0
Runs h Judged map [] = Unit {0}
Runs h Judged map (step ∷ steps) = (Judged step → IsAllowed h map step) × Runs h Judged (after map step) steps
