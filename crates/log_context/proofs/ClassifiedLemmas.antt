-- Events that were classified, and then put into the log one after another.
use Rattle.std.proofs.Common.{◌≡◌, ℕ, ◌+◌, List, Option, [], ◌∷◌, ◌++◌, length, refl, sym, ap, subst, ◌∙◌, arith, append_assoc, length-append}
use Rattle.std.proofs.lemmas.List.{append-nil}
use Rattle.std.proofs.lemmas.Slice.Zip.{AllZip-long}
use Rattle.base_types.specs.Meaning.{Meaning}
use Rattle.node_pool.specs.Subtrees.{Begins}
use Rattle.label_select.specs.declared.selector.Requirement.{Requirement}
use Rattle.audit_event.specs.declared.event.Event.{Event}
use Rattle.setup_file.specs.declared.setup.Setup.{Setup}
use Rattle.answer_class.specs.Classes.{class_of}
use Rattle.write_groups.specs.declared.event.LogEvent.{LogEvent}
use Rattle.log_context.specs.Classified.{IsClassified, IsLoggedAs, AreClassified, AddsLogged, AddsSelectors, classified_trees}
use Rattle.log_context.specs.LogSelectors.{Selectors, selector_in, AddsSelector, AreSelectorsOf}
use Rattle.log_context.specs.LogTrees.{answer_trees, event_trees}
use Rattle.log_context.specs.Logged.{IsLogged, AreLoggedEvents}
use Rattle.log_context.specs.Shown.{IsShownAs}
use Rattle.log_context.specs.declared.log.classifying.Classified.{Classified}
use Rattle.log_context.proofs.LoggedLemmas.{logged_more}
use Rattle.log_context.proofs.SelectorLemmas.{selectors_more}

logged_from : (setup : Setup) (trees : List Meaning) (event : Event) (classified : Classified) (logged : LogEvent) → IsClassified setup event classified → IsLoggedAs trees classified logged → IsLogged setup trees event logged
logged_from setup trees event classified logged is told = record {
  line = told.line ∙ is.line;
  lo = ap (λ moment. moment.0) told.lo ∙ is.lo;
  hi = ap (λ moment. moment.0) told.hi ∙ is.hi;
  reading = told.reading ∙ is.reading;
  preconditions = told.preconditions ∙ is.preconditions;
  answer = subst (λ answer. IsShownAs trees answer logged.answer) is.answer told.answer;
  other_level = told.other_level ∙ is.other_level;
  omitted_stage = told.omitted_stage ∙ is.omitted_stage;
  decision = told.decision ∙ is.decision;
}

pub event_trees_are : (setup : Setup) (events : List Event) (classified : List Classified) → AreClassified setup events classified → classified_trees classified ≡ event_trees setup events
event_trees_are setup [] [] each = refl
event_trees_are setup [] (one ∷ rest) each = absurd each
event_trees_are setup (event ∷ events) [] each = absurd each
event_trees_are setup (event ∷ events) (one ∷ rest) each =
    ap (λ answer. answer_trees answer ++ classified_trees rest) each.0.answer ∙ ap (λ trees. answer_trees (class_of setup event) ++ trees) (event_trees_are setup events rest each.1)

-- the last of those that are classified, and those before
record Parted (setup : Setup) (events : List Event) (front : List Classified) (one : Classified) : Type 0 where
  before : List Event
  last : Event
  joined : events ≡ before ++ last ∷ []
  fronts : AreClassified setup before front
  is : IsClassified setup last one

parted : (setup : Setup) (events : List Event) (front : List Classified) (one : Classified) → AreClassified setup events (front ++ one ∷ []) → Parted setup events front one
parted setup [] [] one each = absurd each
parted setup (event ∷ []) [] one each = record { before = []; last = event; joined = refl; fronts = tt; is = each.0 }
parted setup (event ∷ (other ∷ events)) [] one each = absurd each.1
parted setup [] (first ∷ front) one each = absurd each
parted setup (event ∷ events) (first ∷ front) one each =
    let rest = parted setup events front one each.1 in
    record { before = event ∷ rest.before; last = rest.last; joined = ap (λ l. event ∷ l) rest.joined; fronts = (each.0, rest.fronts); is = rest.is }

none_of : (setup : Setup) (events : List Event) → AreClassified setup events [] → events ≡ []
none_of setup [] each = refl
none_of setup (event ∷ events) each = absurd each

pub adds_no_events : (trees : List Meaning) (logged : List LogEvent) → AddsLogged trees trees [] logged logged
adds_no_events trees logged = record {
  adds = λ setup events more each are. subst (λ l. AreLoggedEvents setup trees l logged) (sym (ap (λ m. events ++ m) (none_of setup more each) ∙ append-nil events)) are;
}

pub adds_no_selectors : (before : List LogEvent) (selectors : Selectors) → AddsSelectors before [] selectors selectors
adds_no_selectors before selectors = record {
  adds = λ setup events more each long are. subst (λ l. AreSelectorsOf setup l selectors) (sym (ap (λ m. events ++ m) (none_of setup more each) ∙ append-nil events)) are;
}

pub adds_event : (old now new : List Meaning) (front : List Classified) (one : Classified) (before logged more : List LogEvent) (found : LogEvent) → Begins now new
    → AddsLogged old now front before logged → IsLoggedAs new one found → more ≡ logged ++ found ∷ [] → AddsLogged old new (front ++ one ∷ []) before more
adds_event old now new front one before logged more found begins front_adds told pushed = record {
  adds = λ setup events others each are.
      let parts = parted setup others front one each in
      let first = front_adds.adds setup events parts.before parts.fronts are in
      let all = logged_more setup now new begins (events ++ parts.before) logged parts.last found first (logged_from setup new parts.last one found parts.is told) in
      let whole : (events ++ parts.before) ++ parts.last ∷ [] ≡ events ++ others = append_assoc events parts.before (parts.last ∷ []) ∙ ap (λ l. events ++ l) (sym parts.joined) in
      subst (AreLoggedEvents setup new (events ++ others)) (sym pushed) (subst (λ l. AreLoggedEvents setup new l (logged ++ found ∷ [])) whole all);
}

pub adds_selector : (before : List LogEvent) (front : List Classified) (one : Classified) (number : ℕ) (selector : Option (List Requirement)) (old now new : Selectors) → number ≡ length before + length front
    → AddsSelectors before front old now → selector ≡ selector_in one.answer → AddsSelector number selector now new → AddsSelectors before (front ++ one ∷ []) old new
adds_selector before front one number selector old now new here front_adds is added = record {
  adds = λ setup events others each long are.
      let parts = parted setup others front one each in
      let first = front_adds.adds setup events parts.before parts.fronts long are in
      let fronts_long : length front ≡ length parts.before = AllZip-long (IsClassified setup) parts.before front parts.fronts in
      let at : number ≡ length (events ++ parts.before) = omega (arith, here, long, fronts_long, length-append events parts.before) in
      let of_last : selector ≡ selector_in (class_of setup parts.last) = is ∙ ap selector_in parts.is.answer in
      let next = subst (λ n. AddsSelector n (selector_in (class_of setup parts.last)) now new) at (subst (λ s. AddsSelector number s now new) of_last added) in
      let whole : (events ++ parts.before) ++ parts.last ∷ [] ≡ events ++ others = append_assoc events parts.before (parts.last ∷ []) ∙ ap (λ l. events ++ l) (sym parts.joined) in
      subst (λ l. AreSelectorsOf setup l new) whole (selectors_more setup (events ++ parts.before) parts.last now new first next);
}
