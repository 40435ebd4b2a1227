-- What events are called, and the trees that their answers show.
use Rattle.std.proofs.Common.{◌≡◌, ◌≢◌, ℕ, zero, suc, ◌+◌, ◌-◌, ◌<◌, ◌≤◌, List, [], ◌∷◌, length, map, Option, Some, None, slice_get, option_map, refl, sym, ap, ◌∙◌, subst, arith}
use Rattle.std.proofs.lemmas.List.{length-map}
use Rattle.std.proofs.lemmas.Option.{same_Some, slice_get-map, slice_get_within}
use Rattle.answer_class.specs.Classes.{class_of}
use Rattle.answer_class.specs.declared.answer.Answer.{Answer}
use Rattle.answer_class.specs.declared.answer.Answer.TheVariants as class
use Rattle.audit_event.specs.declared.event.Event.{Event}
use Rattle.history_model.specs.Events as model
use Rattle.base_types.specs.Meaning.{Meaning}
use Rattle.setup_file.specs.declared.setup.Checkpoint.{Checkpoint}
use Rattle.setup_file.specs.declared.setup.Setup.{Setup}
use Rattle.setup_file.specs.declared.setup.SnapshotObject.{SnapshotObject}
use Rattle.write_groups.specs.Modelled.{answer_of, event_of, item_of}
use Rattle.write_groups.specs.declared.event.Item.{Item}
use Rattle.write_groups.specs.declared.event.LogEvent.{LogEvent}
use Rattle.write_groups.specs.declared.event.Shown.{Shown}
use Rattle.log_context.specs.Answered.{names, shown_trees}
use Rattle.log_context.specs.Logged.{AreLogged}
use Rattle.log_context.specs.Shown.{AreItemsOf, IsItemOf, IsShownAs, object_of}
use Rattle.log_context.proofs.LogLemmas.{Standing, look_left, look_right, of_checkpoint, of_event, standing}

pub alone_none : (x n : ℕ) → n ≢ 0 → slice_get (x ∷ []) n ≡ None
alone_none x zero other = absurd (other refl)
alone_none x (suc n) other = refl

pub listed_at : (items : List Item) (n : ℕ) → option_map (λ (item : Item). item.node.0) (slice_get items n) ≡ slice_get (map (λ (item : model.Item). item.tree) (map item_of items)) n
listed_at items n = go (slice_get items n) refl
  where
    go : (found : Option Item) → slice_get items n ≡ found → option_map (λ (item : Item). item.node.0) found ≡ slice_get (map (λ (item : model.Item). item.tree) (map item_of items)) n
    go None at = sym (slice_get-map (λ (item : model.Item). item.tree) (map item_of items) n
        ∙ ap (option_map (λ (item : model.Item). item.tree)) (slice_get-map item_of items n ∙ ap (option_map item_of) at))
    go (Some item) at = sym (slice_get-map (λ (item : model.Item). item.tree) (map item_of items) n
        ∙ ap (option_map (λ (item : model.Item). item.tree)) (slice_get-map item_of items n ∙ ap (option_map item_of) at))

-- the event of a number in the terms of the model of history
pub event_is : (log : List LogEvent) (n : ℕ) (found : LogEvent) (e : model.Event) → slice_get log n ≡ Some found → slice_get (map event_of log) n ≡ Some e → event_of found ≡ e
event_is log n found e at is = same_Some (event_of found) e (sym (slice_get-map event_of log n ∙ ap (option_map event_of) at) ∙ is)

pub name_of_event : (setup : Setup) (events : List Event) (n : ℕ) (event : Event) → slice_get events n ≡ Some event → slice_get (names setup events) n ≡ Some event.audit_id
name_of_event setup events n event at =
    let within : n < length events = slice_get_within events n event at in
    let long : length (map (λ (e : Event). e.audit_id) events) ≡ length events = length-map events (λ (e : Event). e.audit_id) in
    look_left (map (λ (e : Event). e.audit_id) events) (map (λ (c : Checkpoint). c.name) setup.checkpoints) n (omega arith)
    ∙ slice_get-map (λ (e : Event). e.audit_id) events n ∙ ap (option_map (λ (e : Event). e.audit_id)) at

pub name_of_checkpoint : (setup : Setup) (events : List Event) (n : ℕ) (checkpoint : Checkpoint) → length events ≤ n → slice_get setup.checkpoints (n - length events) ≡ Some checkpoint
    → slice_get (names setup events) n ≡ Some checkpoint.name
name_of_checkpoint setup events n checkpoint past at =
    let long : length (map (λ (e : Event). e.audit_id) events) ≡ length events = length-map events (λ (e : Event). e.audit_id) in
    let split : n ≡ length (map (λ (e : Event). e.audit_id) events) + (n - length events) = omega arith in
    ap (slice_get (names setup events)) split
    ∙ look_right (map (λ (e : Event). e.audit_id) events) (map (λ (c : Checkpoint). c.name) setup.checkpoints) (n - length events)
    ∙ slice_get-map (λ (c : Checkpoint). c.name) setup.checkpoints (n - length events) ∙ ap (option_map (λ (c : Checkpoint). c.name)) at

-- the numbers of an answer's trees are those of a pool
alone_within : (x k n bound : ℕ) → x < bound → slice_get (x ∷ []) k ≡ Some n → n < bound
alone_within x zero n bound within at = subst (λ y. y < bound) (same_Some x n at) within
alone_within x (suc k) n bound within at = absurd (cc at)

item_within : (trees : List Meaning) (object : SnapshotObject) (item : Item) → IsItemOf trees object item → item.node.0 < length trees
item_within trees object item is = slice_get_within trees item.node.0 object.tree is.tree

items_within : (trees : List Meaning) (objects : List SnapshotObject) (items : List Item) → AreItemsOf trees objects items → (k n : ℕ)
    → slice_get (map (λ (item : model.Item). item.tree) (map item_of items)) k ≡ Some n → n < length trees
items_within trees [] [] are k n at = absurd (cc at)
items_within trees [] (item ∷ items) are k n at = absurd are
items_within trees (object ∷ objects) [] are k n at = absurd are
items_within trees (object ∷ objects) (item ∷ items) are zero n at = subst (λ y. y < length trees) (same_Some item.node.0 n at) (item_within trees object item are.0)
items_within trees (object ∷ objects) (item ∷ items) are (suc k) n at = items_within trees objects items are.1 k n at

-- the trees of what an answer shows
abbrev trees_in : Shown → List ℕ
trees_in is = shown_trees (answer_of is)

shown_within : (trees : List Meaning) (answer : Answer) (is : Shown) → IsShownAs trees answer is → (k n : ℕ) → slice_get (trees_in is) k ≡ Some n → n < length trees
shown_within trees (class.Made key revision uid tree created) is shows k n at =
    alone_within shows.0.node.0 k n (length trees) (item_within trees (object_of key revision uid tree) shows.0 shows.2) (sym (ap (λ s. slice_get (trees_in s) k) shows.1) ∙ at)
shown_within trees (class.Removed key uid) is shows k n at = (let none : None ≡ Some n = sym (ap (λ s. slice_get (trees_in s) k) shows) ∙ at in absurd (cc none))
shown_within trees (class.Opaque cover) is shows k n at = (let none : None ≡ Some n = sym (ap (λ s. slice_get (trees_in s) k) shows) ∙ at in absurd (cc none))
shown_within trees (class.Saw key revision uid tree) is shows k n at =
    alone_within shows.0.node.0 k n (length trees) (item_within trees (object_of key revision uid tree) shows.0 shows.2) (sym (ap (λ s. slice_get (trees_in s) k) shows.1) ∙ at)
shown_within trees (class.SawNone key) is shows k n at = (let none : None ≡ Some n = sym (ap (λ s. slice_get (trees_in s) k) shows) ∙ at in absurd (cc none))
shown_within trees (class.SawSome key) is shows k n at = (let none : None ≡ Some n = sym (ap (λ s. slice_get (trees_in s) k) shows) ∙ at in absurd (cc none))
shown_within trees (class.SawOther key) is shows k n at = (let none : None ≡ Some n = sym (ap (λ s. slice_get (trees_in s) k) shows) ∙ at in absurd (cc none))
shown_within trees (class.Listed group resource namespace revision whole objects selector) is shows k n at =
    items_within trees objects shows.0.items shows.2.items k n (sym (ap (λ s. slice_get (trees_in s) k) shows.1) ∙ at)
shown_within trees class.Free is shows k n at = (let none : None ≡ Some n = sym (ap (λ s. slice_get (trees_in s) k) shows) ∙ at in absurd (cc none))
shown_within trees class.Aside is shows k n at = (let none : None ≡ Some n = sym (ap (λ s. slice_get (trees_in s) k) shows) ∙ at in absurd (cc none))

pub logged_within : (setup : Setup) (trees : List Meaning) (events : List Event) (logged : List LogEvent) → AreLogged setup trees events logged → (number : ℕ) (found : LogEvent) → slice_get logged number ≡ Some found
    → (k n : ℕ) → slice_get (shown_trees (answer_of found.answer)) k ≡ Some n → n < length trees
logged_within setup trees events logged are number found at k n shows = go (standing setup trees events logged are number found at)
  where
    go : Standing setup trees events number found → n < length trees
    go (of_event event here is) = shown_within trees (class_of setup event) found.answer is.answer k n shows
    go (of_checkpoint place checkpoint same here is) = items_within trees checkpoint.items is.answer.0.items is.answer.2.items k n (sym (ap (λ s. slice_get (trees_in s) k) is.answer.1) ∙ shows)
