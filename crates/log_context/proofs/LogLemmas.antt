-- What stands at each number of a log.
use Rattle.std.proofs.Common.{◌≡◌, ◌⊎◌, inl, inr, ℕ, zero, suc, ◌+◌, ◌-◌, ◌<◌, ◌≤◌, true, List, [], ◌∷◌, ◌++◌, length, Option, Some, None, codes, slice_get, option_and_then, refl, sym, ap, ◌∙◌, arith, length-append}
use Rattle.std.specs.BTreeMap.{get}
use Rattle.std.specs.Ordering.{nat_cmp}
use Rattle.std.proofs.lemmas.Bool.{cases_lt}
use Rattle.std.proofs.lemmas.Option.{slice_get_past, slice_get_within}
use Rattle.base_types.specs.Meaning.{Meaning}
use Rattle.audit_event.specs.declared.event.Event.{Event}
use Rattle.setup_file.specs.declared.setup.Checkpoint.{Checkpoint}
use Rattle.setup_file.specs.declared.setup.Setup.{Setup}
use Rattle.answer_class.specs.Bodies.{metadata_at}
use Rattle.answer_class.specs.Classes.{class_of}
use Rattle.answer_class.specs.Labels.{is_listable, is_selected}
use Rattle.answer_class.specs.declared.answer.Answer.{Answer}
use Rattle.answer_class.specs.declared.answer.Answer.TheVariants.{Made, Removed, Opaque, Saw, SawNone, SawSome, SawOther, Listed, Free, Aside}
use Rattle.label_select.specs.Meeting.{matches}
use Rattle.label_select.specs.declared.selector.Requirement.{Requirement}
use Rattle.write_groups.specs.declared.event.LogEvent.{LogEvent}
use Rattle.log_context.specs.Histories.{listable_by, listable_test}
use Rattle.log_context.specs.Logged.{IsLogged, IsLoggedCheckpoint, AreLogged}
use Rattle.log_context.specs.LogSelectors.{Selectors, AreSelectorsOf, selector_in, is_taken}

pub logged_length : (setup : Setup) (trees : List Meaning) (events : List Event) (logged : List LogEvent) → AreLogged setup trees events logged → length logged ≡ length events + length setup.checkpoints
logged_length setup trees events logged are =
    let first : length are.of_log ≡ length events = are.in_log.all in
    let second : length are.of_setup ≡ length setup.checkpoints = are.behind.all in
    omega (arith, ap length are.joined, length-append are.of_log are.of_setup)

-- a look-up in two lists that are joined
pub look_left : {X : Type 0} (a b : List X) (n : ℕ) → n < length a → slice_get (a ++ b) n ≡ slice_get a n
look_left [] b n within = absurd (omega arith)
look_left (x ∷ a) b zero within = refl
look_left (x ∷ a) b (suc n) within = look_left a b n (omega arith)

pub look_right : {X : Type 0} (a b : List X) (n : ℕ) → slice_get (a ++ b) (length a + n) ≡ slice_get b n
look_right [] b n = let same : 0 + n ≡ n = omega arith in ap (slice_get b) same
look_right (x ∷ a) b n = let same : suc (length a) + n ≡ suc (length a + n) = omega arith in ap (slice_get (x ∷ (a ++ b))) same ∙ look_right a b n

there : {X : Type 0} (xs : List X) (n : ℕ) → n < length xs → (x : X) × (slice_get xs n ≡ Some x)
there [] n within = absurd (omega arith)
there (x ∷ xs) zero within = (x, refl)
there (x ∷ xs) (suc n) within = there xs n (omega arith)

-- the event of a number, in the model's terms
pub event_at : (setup : Setup) (trees : List Meaning) (events : List Event) (logged : List LogEvent) → AreLogged setup trees events logged → (number : ℕ) (event : Event) → slice_get events number ≡ Some event
    → (found : LogEvent) × (slice_get logged number ≡ Some found) × IsLogged setup trees event found
event_at setup trees events logged are number event at =
    let long : length are.of_log ≡ length events = are.in_log.all in
    let within : number < length events = slice_get_within events number event at in
    let here : number < length are.of_log = omega arith in
    let found = there are.of_log number here in
    (found.0, ap (λ l. slice_get l number) are.joined ∙ look_left are.of_log are.of_setup number here ∙ found.1, are.in_log.each number event found.0 at found.1)

pub checkpoint_at : (setup : Setup) (trees : List Meaning) (events : List Event) (logged : List LogEvent) → AreLogged setup trees events logged → (number : ℕ) (checkpoint : Checkpoint)
    → slice_get setup.checkpoints number ≡ Some checkpoint → (found : LogEvent) × (slice_get logged (length events + number) ≡ Some found) × IsLoggedCheckpoint trees (number + 1) checkpoint found
checkpoint_at setup trees events logged are number checkpoint at =
    let long : length are.of_log ≡ length events = are.in_log.all in
    let all : length are.of_setup ≡ length setup.checkpoints = are.behind.all in
    let within : number < length setup.checkpoints = slice_get_within setup.checkpoints number checkpoint at in
    let found = there are.of_setup number (omega arith) in (
      found.0,
      ap (λ l. slice_get l (length events + number)) are.joined ∙ ap (λ n. slice_get (are.of_log ++ are.of_setup) (n + number)) (sym long) ∙ look_right are.of_log are.of_setup number ∙ found.1,
      are.behind.each number checkpoint found.0 at found.1,
    )

pub data Standing (setup : Setup) (trees : List Meaning) (events : List Event) (number : ℕ) (found : LogEvent) : Type 0 where
  of_event : (event : Event) → slice_get events number ≡ Some event → IsLogged setup trees event found → Standing setup trees events number found
  of_checkpoint : (place : ℕ) (checkpoint : Checkpoint) → number ≡ length events + place → slice_get setup.checkpoints place ≡ Some checkpoint → IsLoggedCheckpoint trees (place + 1) checkpoint found
      → Standing setup trees events number found

-- what stands at a number is an event or a checkpoint
pub standing : (setup : Setup) (trees : List Meaning) (events : List Event) (logged : List LogEvent) → AreLogged setup trees events logged → (number : ℕ) (found : LogEvent) → slice_get logged number ≡ Some found
    → Standing setup trees events number found
standing setup trees events logged are number found at = go (cases_lt number (length events))
  where
    go : (number < length events) ⊎ (length events ≤ number) → Standing setup trees events number found
    go (inl within) =
        let event = there events number within in
        let long : length are.of_log ≡ length events = are.in_log.all in
        let here : slice_get are.of_log number ≡ Some found = sym (look_left are.of_log are.of_setup number (omega arith)) ∙ sym (ap (λ l. slice_get l number) are.joined) ∙ at in
        of_event event.0 event.1 (are.in_log.each number event.0 found event.1 here)
    go (inr past) =
        let long : length are.of_log ≡ length events = are.in_log.all in
        let all : length are.of_setup ≡ length setup.checkpoints = are.behind.all in
        let split : length are.of_log + (number - length events) ≡ number = omega arith in
        let here : slice_get are.of_setup (number - length events) ≡ Some found =
        sym (look_right are.of_log are.of_setup (number - length events)) ∙ ap (slice_get (are.of_log ++ are.of_setup)) split ∙ sym (ap (λ l. slice_get l number) are.joined) ∙ at in
        let within : number - length events < length are.of_setup = slice_get_within are.of_setup (number - length events) found here in
        let checkpoint = there setup.checkpoints (number - length events) (omega arith) in
        of_checkpoint (number - length events) checkpoint.0 (omega arith) checkpoint.1 (are.behind.each (number - length events) checkpoint.0 found checkpoint.1 here)

-- a selector is all that an answer says of what is listable
selects : (answer : Answer) (tree : Meaning) → is_selected (selector_in answer) tree ≡ is_listable answer tree
selects (Made key revision uid object created) tree = refl
selects (Removed key uid) tree = refl
selects (Opaque cover) tree = refl
selects (Saw key revision uid object) tree = refl
selects (SawNone key) tree = refl
selects (SawSome key) tree = refl
selects (SawOther key) tree = refl
selects (Listed group resource namespace revision whole items selector) tree = refl
selects Free tree = refl
selects Aside tree = refl

pub taken_is_listable : (setup : Setup) (events : List Event) (selectors : Selectors) → AreSelectorsOf setup events selectors → (number : ℕ) (event : Event) (tree : Meaning) → slice_get events number ≡ Some event
    → is_taken selectors number tree ≡ is_listable (class_of setup event) tree
taken_is_listable setup events selectors are number event tree at =
    ap (λ selector. is_selected selector tree) (are number ∙ ap (option_and_then (λ e. selector_in (class_of setup e))) at) ∙ selects (class_of setup event) tree

module _ (setup : Setup) (events : List Event) (trees : List Meaning) (selectors : Selectors) (are : AreSelectorsOf setup events selectors) (number node : ℕ) where
  -- a selector says of an object's labels what the history says of the object
  pub labels_tell : (selector : List Requirement) → get nat_cmp selectors number ≡ Some selector → node < length trees
      → matches selector (option_and_then (metadata_at (codes "labels")) (slice_get trees node)) ≡ listable_test setup events trees number node
  labels_tell selector has within = go (slice_get events number) refl (slice_get trees node) refl
    where
      go : (e : Option Event) → slice_get events number ≡ e → (t : Option Meaning) → slice_get trees node ≡ t
          → matches selector (option_and_then (metadata_at (codes "labels")) t) ≡ listable_by setup e t
      go None at t is = absurd (cc (sym has ∙ are number ∙ ap (option_and_then (λ e. selector_in (class_of setup e))) at))
      go (Some event) at None is = absurd (cc (sym is ∙ (there trees node within).1))
      go (Some event) at (Some tree) is =
          ap (λ s. is_selected s tree) (sym has) ∙ taken_is_listable setup events selectors are number event tree at

  -- without one each object is listed
  pub all_without_selector : get nat_cmp selectors number ≡ None → listable_test setup events trees number node ≡ true
  all_without_selector none = go (slice_get events number) refl (slice_get trees node) refl
    where
      go : (e : Option Event) → slice_get events number ≡ e → (t : Option Meaning) → slice_get trees node ≡ t → listable_by setup e t ≡ true
      go None at t is = refl
      go (Some event) at None is = refl
      go (Some event) at (Some tree) is =
          sym (taken_is_listable setup events selectors are number event tree at) ∙ ap (λ s. is_selected s tree) none

  -- and so is what no tree has
  pub all_past_the_trees : length trees ≤ node → listable_test setup events trees number node ≡ true
  all_past_the_trees past = go (slice_get events number) (slice_get trees node) (slice_get_past trees node past)
    where
      go : (e : Option Event) (t : Option Meaning) → t ≡ None → listable_by setup e t ≡ true
      go None t is = refl
      go (Some event) None is = refl
      go (Some event) (Some tree) is = absurd (cc is)
