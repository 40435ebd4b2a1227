-- The writes that were answered with one revision, and when the revision was written.
use Rattle.std.specs.Prelude.{◌≡◌, ◌≢◌, ◌<◌, ℕ, ℤ, ◌≤ℤ◌, ◌⊎◌, Bool, true, IsSomeAnd, AllPairs, Contains}
use Rattle.base_types.specs.declared.kubernetes.key.Cover.{Cover}
use Rattle.base_types.specs.declared.kubernetes.key.ObjectKey.{ObjectKey}
use Rattle.base_types.specs.Covers.{Covers}
use Rattle.history_model.specs.Events.{Item, Event, Made, Opaque}
use Rattle.history_model.specs.Histories.{History, Span, IsEvent}
use Rattle.history_model.specs.Judging.{IsJudgedBefore}

-- a write and the object that it was answered with
pub record Making : Type 0 where
  pub number : ℕ
  pub event : Event
  pub item : Item
  pub created : Bool

pub record IsMaking (h : History) (m : Making) : Type 0 where
  pub known : IsEvent h m.number m.event
  pub made : m.event.answer ≡ Made m.item m.created

-- the first in the order of judgement of the writes of which this holds
pub record IsFirstMaking (Holds : Making → Type 0) (m : Making) : Type 0 where
  pub holds : Holds m
  pub none_before : (other : Making) → Holds other → IsJudgedBefore other.event m.event → ⊥

pub record IsAnsweredWith (h : History) (revision : ℕ) (m : Making) : Type 0 where
  pub making : IsMaking h m
  pub at_revision : m.item.revision ≡ revision

-- The key of a revision is that of the first write that was answered with it. One revision belongs to one
-- key: a write of another key that was answered with it is a stray.
pub record IsKeyOf (h : History) (revision : ℕ) (key : ObjectKey) : Type 0 where
  pub m : Making
  pub first : IsFirstMaking (IsAnsweredWith h revision) m
  pub of_key : m.item.key ≡ key

-- a write of the group of the revision
pub record IsMember (h : History) (key : ObjectKey) (revision : ℕ) (m : Making) : Type 0 where
  pub making : IsMaking h m
  pub of_key : m.item.key ≡ key
  pub at_revision : m.item.revision ≡ revision

-- the event may stand for unrecorded writes of the key
abbrev pub Hides : ObjectKey → Event → Type 0
Hides key event = (cover : Cover) × (event.answer ≡ Opaque cover) × Covers cover key

-- a write that created, or had another revision as its condition, made what it was answered with
abbrev pub MadeSurely : Making → Type 0
MadeSurely m = (m.created ≡ true) ⊎ IsSomeAnd m.event.conditions.revision (λ wanted. wanted ≢ m.item.revision)

-- where no member surely made the revision, all may have found what an unrecorded write left
abbrev pub IsSure : History → ObjectKey → ℕ → Type 0
IsSure h key revision = (m : Making) × IsMember h key revision m × MadeSurely m

-- when the time of a member ended
abbrev pub IsEnd : History → ObjectKey → ℕ → ℤ → Type 0
IsEnd h key revision at = (m : Making) × IsMember h key revision m × (m.event.hi ≡ at)

-- when the time of a member began, or where none is sure that of an unrecorded write
abbrev pub IsBeginning : History → ObjectKey → ℕ → ℤ → Type 0
IsBeginning h key revision at = ((m : Making) × IsMember h key revision m × (m.event.lo ≡ at))
    ⊎ ((IsSure h key revision → ⊥) × ((number : ℕ) × (event : Event) × IsEvent h number event × Hides key event × (event.lo ≡ at)))

abbrev pub IsLeastMoment : (ℤ → Type 0) → ℤ → Type 0
IsLeastMoment Holds at = Holds at × ((other : ℤ) → Holds other → at ≤ℤ other)

-- a revision was written before each of its answers was sent, and not before each of its requests came
pub record IsSpan (h : History) (span : Span) : Type 0 where
  pub above : h.start < span.revision
  pub key : ObjectKey
  pub belongs : IsKeyOf h span.revision key
  pub end : IsLeastMoment (IsEnd h key span.revision) span.hi
  pub beginning : IsLeastMoment (IsBeginning h key span.revision) span.lo

-- the spans of all revisions above the start
pub record AreSpans (h : History) : Type 0 where
  pub rising : AllPairs (λ a b. a.revision < b.revision) h.spans
  pub sound : (span : Span) → Contains h.spans span → IsSpan h span
  pub full : (m : Making) → IsMaking h m → h.start < m.item.revision → (span : Span) × Contains h.spans span × (span.revision ≡ m.item.revision)
