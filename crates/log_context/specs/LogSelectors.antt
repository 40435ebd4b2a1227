-- The label selectors of whole lists, by the numbers of their events.
use Rattle.std.specs.Prelude.{◌≡◌, ◌==◌, ℕ, Bool, List, Option, Some, None, option_and_then, slice_get, if◌then◌else◌}
use Rattle.std.specs.BTreeMap.{BTreeMap, get}
use Rattle.std.specs.Ordering.{nat_cmp}
use Rattle.base_types.specs.Meaning.{Meaning}
use Rattle.label_select.specs.declared.selector.Requirement.{Requirement}
use Rattle.audit_event.specs.declared.event.Event.{Event}
use Rattle.setup_file.specs.declared.setup.Setup.{Setup}
use Rattle.answer_class.specs.Classes.{class_of}
use Rattle.answer_class.specs.Labels.{is_selected}
use Rattle.answer_class.specs.declared.answer.Answer.{Answer}
use Rattle.answer_class.specs.declared.answer.Answer.TheVariants.{Made, Removed, Opaque, Saw, SawNone, SawSome, SawOther, Listed, Free, Aside}

abbrev pub selector_in : Answer → Option (List Requirement)
selector_in (Made key revision uid tree created) = None
selector_in (Removed key uid) = None
selector_in (Opaque cover) = None
selector_in (Saw key revision uid tree) = None
selector_in (SawNone key) = None
selector_in (SawSome key) = None
selector_in (SawOther key) = None
selector_in (Listed group resource namespace revision whole items selector) = selector
selector_in Free = None
selector_in Aside = None

-- the selector of the event of this number
abbrev pub selector_at : Setup → List Event → ℕ → Option (List Requirement)
selector_at setup events number = option_and_then (λ event. selector_in (class_of setup event)) (slice_get events number)

abbrev pub Selectors : Type 0
Selectors = BTreeMap ℕ (List Requirement)

-- the map has the selector of each event that has one, and no other
abbrev pub AreSelectorsOf : Setup → List Event → Selectors → Type 0
AreSelectorsOf setup events selectors = (number : ℕ) → get nat_cmp selectors number ≡ selector_at setup events number

-- whether the list of the event of this number has an object of this tree
abbrev pub is_taken : Selectors → ℕ → Meaning → Bool
is_taken selectors number tree = is_selected (get nat_cmp selectors number) tree

abbrev pub or_else : Option (List Requirement) → Option (List Requirement) → Option (List Requirement)
or_else None before = before
or_else (Some selector) before = Some selector

-- the number has the selector, where there is one, and every other number what it had
abbrev pub AddsSelector : ℕ → Option (List Requirement) → Selectors → Selectors → Type 0
AddsSelector number selector old new =
    (other : ℕ) → get nat_cmp new other ≡ (if other == number then or_else selector (get nat_cmp old other) else get nat_cmp old other)
