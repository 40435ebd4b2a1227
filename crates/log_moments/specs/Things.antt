-- The things of a log that have a moment. Each stands at a moment of its event, and at a number: the write of revision m
-- is the number 2m, the gap between it and the next write 2m + 1.
use Rattle.std.specs.Prelude.{◌≡◌, ◌<◌, ◌≤◌, ◌+◌, ◌-◌, ◌*◌, ◌^◌, ◌↔◌, ℕ, false, List, AllPairs, Any, Contains}
use Rattle.base_types.specs.declared.kubernetes.key.ObjectKey.{ObjectKey}
use Rattle.history_model.specs.Clouds.{IsCloudedWithin}
use Rattle.history_model.specs.Events.{Answer, Made, Removed, Opaque, Saw, SawNone, SawSome, SawOther, Listed, Free, Aside}
use Rattle.history_model.specs.Events.{Event, Item, Listing, Reading, MostRecent, AnyVersion, NotOlderThan, Exactly, Checkpoint, is_checkpoint}
use Rattle.history_model.specs.Histories.{History, Version, IsEvent}
use Rattle.history_model.specs.Windows.{low_end, high_end}
use Rattle.history_model.specs.Words.{Word, Makes, Removes, At, Strays, Nothing, word}
use Rattle.log_moments.specs.declared.numbers.NumberRange.{NumberRange}
use Rattle.strict_order.specs.declared.thing.Thing.{Thing}

-- behind the numbers of all revisions
abbrev pub no_end : ℕ
no_end = 2 ^ 66

-- the key's first version behind the revision
pub record IsNextVersion (h : History) (key : ObjectKey) (revision : ℕ) (next : Version) : Type 0 where
  pub known : Contains h.versions next
  pub of_key : next.key ≡ key
  pub behind : revision < next.revision
  pub first : (v : Version) → Contains h.versions v → v.key ≡ key → revision < v.revision → next.revision ≤ v.revision

-- the key has no version behind the revision
abbrev pub HasNoNext : History → ObjectKey → ℕ → Type 0
HasNoNext h key revision = (v : Version) → Contains h.versions v → v.key ≡ key → v.revision ≤ revision

-- The last number at which the key's version of this revision is its latest: that of the gap before the next one, and
-- none where there is no next one.
pub data IsLastNumber (h : History) (key : ObjectKey) (revision number : ℕ) : Type 0 where
  before_next : (next : Version) → IsNextVersion h key revision next → number ≡ 2 * next.revision - 1 → IsLastNumber h key revision number
  without_end : HasNoNext h key revision → number ≡ no_end → IsLastNumber h key revision number

-- A read that asks for no most recent state may be answered of an old one, behind whatever was written meanwhile
-- (Kubernetes API concepts, "Resource versions", semantics for get and list).
abbrev pub greatest_for : Reading → ℕ → ℕ
greatest_for MostRecent last = last
greatest_for AnyVersion last = no_end
greatest_for (NotOlderThan revision) last = no_end
greatest_for (Exactly revision) last = no_end
greatest_for (Checkpoint revision) last = last

-- The answer shows a version of which all is known while the answer may have been given: it stands behind the version's
-- write, and before the next one of its key.
pub record ShowsVersion (h : History) (event : Event) (item : Item) (numbers : NumberRange) : Type 0 where
  pub known : Any (λ v. (v.key ≡ item.key) × (v.revision ≡ item.revision)) h.versions
  pub clear : IsCloudedWithin h item.key (low_end h event) (high_end h event) → ⊥
  pub least : numbers.least ≡ 2 * item.revision + 1
  pub last : ℕ
  pub is_last : IsLastNumber h item.key item.revision last
  pub greatest : numbers.greatest ≡ greatest_for event.reading last

-- the answer shows all objects of a scope at one revision: it stands in the gap behind that
pub record ShowsList (event : Event) (listing : Listing) (numbers : NumberRange) : Type 0 where
  pub least : numbers.least ≡ 2 * listing.revision + 1
  pub greatest : numbers.greatest ≡ greatest_for event.reading (2 * listing.revision + 1)

-- the numbers of an answer that stands at a place of its window
abbrev pub HasNumbersAt : History → Event → Answer → NumberRange → Type 0
HasNumbersAt h event (Made item created) numbers = ShowsVersion h event item numbers
HasNumbersAt h event (Removed key uid) numbers = ⊥
HasNumbersAt h event (Opaque cover) numbers = ⊥
HasNumbersAt h event (Saw item) numbers = ShowsVersion h event item numbers
HasNumbersAt h event (SawNone key) numbers = ⊥
HasNumbersAt h event (SawSome key) numbers = ⊥
HasNumbersAt h event (SawOther key) numbers = ⊥
HasNumbersAt h event (Listed listing) numbers = ShowsList event listing numbers
HasNumbersAt h event Free numbers = ⊥
HasNumbersAt h event Aside numbers = ⊥

-- The numbers of an event with this answer, which is this in a placement. The maker of a revision stands at its write; every
-- other write that is no stray found its version.
abbrev pub HasNumbers : History → Event → Answer → Word → NumberRange → Type 0
HasNumbers h event answer (Makes m) numbers = (numbers.least ≡ 2 * m.item.revision) × (numbers.greatest ≡ 2 * m.item.revision)
HasNumbers h event answer (Removes removal) numbers = ⊥
HasNumbers h event answer At numbers = HasNumbersAt h event answer numbers
HasNumbers h event answer Strays numbers = ⊥
HasNumbers h event answer Nothing numbers = ⊥

-- the thing is that of an event of the log, a checkpoint being none
pub record IsThingOf (h : History) (number : ℕ) (event : Event) (thing : Thing) : Type 0 where
  pub recorded : is_checkpoint event ≡ false
  pub line : thing.line ≡ event.line
  pub lo : thing.lo.0 ≡ event.lo
  pub hi : thing.hi.0 ≡ event.hi
  pub numbered : HasNumbers h event event.answer (word h number event) (record { least = thing.least; greatest = thing.greatest })

abbrev pub IsThing : History → Thing → Type 0
IsThing h thing = (number : ℕ) × (event : Event) × IsEvent h number event × IsThingOf h number event thing

-- all things of the log, by line
pub record AreThings (h : History) (things : List Thing) : Type 0 where
  pub rising : AllPairs (λ a b. a.line < b.line) things
  pub exact : (thing : Thing) → Contains things thing ↔ IsThing h thing
