-- The events of batches, one batch after another: a batch is added while the next one is classified.
use Rattle.std.proofs.Common.{◌≡◌, ℕ, ◌+◌, ◌<◌, List, None, [], ◌∷◌, ◌++◌, ◌∙◌, ap, append_assoc, arith, length, length-append, refl, subst, sym}
use Rattle.std.proofs.lemmas.Grind.{flat_map-append}
use Rattle.std.proofs.lemmas.List.{append-nil, nil_from_length}
use Rattle.std.proofs.lemmas.Slice.Zip.{AllZip-long}
use Rattle.std.specs.BTreeMap.{get}
use Rattle.std.specs.List.{flat_map}
use Rattle.std.specs.Ordering.{nat_cmp}
use Rattle.node_pool.specs.Pooled.{Pooled}
use Rattle.audit_event.specs.declared.event.Event.{Event}
use Rattle.setup_file.specs.declared.setup.Setup.{Setup}
use Rattle.answer_class.specs.Classes.{class_of}
use Rattle.write_groups.specs.declared.event.LogEvent.{LogEvent}
use Rattle.log_context.specs.Classified.{AddsLogged, AddsSelectors, AreClassified, IsClassified, classified_trees}
use Rattle.log_context.specs.LogSelectors.{AreSelectorsOf, Selectors}
use Rattle.log_context.specs.LogTrees.{answer_trees, event_trees, with_trees}
use Rattle.log_context.specs.Logged.{AreLoggedEvents}
use Rattle.log_context.specs.declared.log.classifying.Classified.{Classified}
use Rattle.log_context.proofs.ClassifiedLemmas.{event_trees_are}
use Rattle.log_context.proofs.PoolLemmas.{IsGrown, flattened_join, grown_full, grown_more, grown_none, one_flattened}
use denote.Ref.{Bor}

abbrev pub all_of : List (Bor (List Event)) → List Event
all_of batches = flat_map (λ (batch : Bor (List Event)). batch.now) batches

pub all_with : (batches : List (Bor (List Event))) (batch : Bor (List Event)) → all_of (batches ++ batch ∷ []) ≡ all_of batches ++ batch.now
all_with batches batch = flat_map-append (λ (b : Bor (List Event)). b.now) batches (batch ∷ []) ∙ ap (λ l. all_of batches ++ l) (one_flattened (λ (b : Bor (List Event)). b.now) batch)

-- the events are in the log, and their trees in the pool
pub record AreAdded (setup : Setup) (old now : Pooled) (events : List Event) (log : List LogEvent) (chosen : Selectors) : Type 0 where
  pub logged : AreLoggedEvents setup now.trees events log
  pub selectors : AreSelectorsOf setup events chosen
  pub grown : IsGrown old now (event_trees setup events)

-- so they are, but for the last of them, which are classified
pub record AreAhead (setup : Setup) (old now : Pooled) (events : List Event) (log : List LogEvent) (chosen : Selectors) (ahead : List Classified) : Type 0 where
  pub before : List Event
  pub last : List Event
  pub split : events ≡ before ++ last
  pub classified : AreClassified setup last ahead
  pub added : AreAdded setup old now before log chosen

pub none_ahead : (setup : Setup) (pool : Pooled) (log : List LogEvent) (chosen : Selectors) (ahead : List Classified)
    → log ≡ [] → ((number : ℕ) → get nat_cmp chosen number ≡ None) → ahead ≡ [] → AreAhead setup pool pool [] log chosen ahead
none_ahead setup pool log chosen ahead no_log no_selector none = record {
  before = [];
  last = [];
  split = refl;
  classified = subst (AreClassified setup []) (sym none) tt;
  added = record {
    logged = subst (AreLoggedEvents setup pool.trees []) (sym no_log) (record { all = refl; each = λ number event found at_event at_found. absurd (cc) });
    selectors = no_selector;
    grown = grown_none pool;
  };
}

-- once those that are classified are added, all are
pub ahead_added : (setup : Setup) (old now new : Pooled) (events : List Event) (log more : List LogEvent) (chosen chosen_more : Selectors) (ahead : List Classified)
    → AreAhead setup old now events log chosen ahead → AddsLogged now.trees new.trees ahead log more → AddsSelectors log ahead chosen chosen_more → IsGrown now new (classified_trees ahead)
    → AreAdded setup old new events more chosen_more
ahead_added setup old now new events log more chosen chosen_more ahead are logs selects grown =
    let added = are.added in
    let joined = sym are.split in
    let here : IsGrown now new (event_trees setup are.last) = subst (IsGrown now new) (event_trees_are setup are.last ahead are.classified) grown in
    let joining = flattened_join (λ (event : Event). answer_trees (class_of setup event)) in
    record {
      logged = subst (λ l. AreLoggedEvents setup new.trees l more) joined (logs.adds setup are.before are.last are.classified added.logged);
      selectors = subst (λ l. AreSelectorsOf setup l chosen_more) joined (selects.adds setup are.before are.last are.classified added.logged.all added.selectors);
      grown = subst (IsGrown old new) (sym (joining.joins are.before are.last) ∙ ap (event_trees setup) joined)
          (grown_more old now new (event_trees setup are.before) (event_trees setup are.last) added.grown here);
    }

pub ahead_more : (setup : Setup) (old now : Pooled) (events batch all : List Event) (log : List LogEvent) (chosen : Selectors) (ahead : List Classified)
    → AreAdded setup old now events log chosen → AreClassified setup batch ahead → all ≡ events ++ batch → AreAhead setup old now all log chosen ahead
ahead_more setup old now events batch all log chosen ahead added each split = record { before = events; last = batch; split = split; classified = each; added = added }

-- a pool that is full after those that are classified is full after all
pub ahead_full : (setup : Setup) (old now : Pooled) (events rest all : List Event) (log : List LogEvent) (chosen : Selectors) (ahead : List Classified)
    → AreAhead setup old now events log chosen ahead → all ≡ events ++ rest → now.limit < length (with_trees now.trees (classified_trees ahead))
    → old.limit < length (with_trees old.trees (event_trees setup all))
ahead_full setup old now events rest all log chosen ahead are whole full =
    let here = subst (λ ts. now.limit < length (with_trees now.trees ts)) (event_trees_are setup are.last ahead are.classified) full in
    let joining = flattened_join (λ (event : Event). answer_trees (class_of setup event)) in
    let split : all ≡ are.before ++ (are.last ++ rest) = whole ∙ ap (λ l. l ++ rest) are.split ∙ append_assoc are.before are.last rest in
    let parts = joining.joins are.before (are.last ++ rest) ∙ ap (λ ts. event_trees setup are.before ++ ts) (joining.joins are.last rest) in
    subst (λ ts. old.limit < length (with_trees old.trees ts)) (sym (ap (event_trees setup) split ∙ parts))
    (grown_full old now (event_trees setup are.before) (event_trees setup are.last) (event_trees setup rest) are.added.grown here)

pub ahead_long : (setup : Setup) (old now : Pooled) (events : List Event) (log : List LogEvent) (chosen : Selectors) (ahead : List Classified)
    → AreAhead setup old now events log chosen ahead → length log + length ahead ≡ length events
ahead_long setup old now events log chosen ahead are =
    let each = AllZip-long (IsClassified setup) are.last ahead are.classified in
    let all = are.added.logged.all in
    omega (arith, each, all, ap length are.split, length-append are.before are.last)

-- and there is no event behind them
pub last_added : (setup : Setup) (old now new : Pooled) (events rest all : List Event) (log more : List LogEvent) (chosen chosen_more : Selectors) (ahead : List Classified)
    → AreAhead setup old now events log chosen ahead → all ≡ events ++ rest → length rest ≡ 0
    → AddsLogged now.trees new.trees ahead log more → AddsSelectors log ahead chosen chosen_more → IsGrown now new (classified_trees ahead) → AreAdded setup old new all more chosen_more
last_added setup old now new events rest all log more chosen chosen_more ahead are whole none logs selects grown =
    let same : events ≡ all = sym (whole ∙ ap (λ l. events ++ l) (nil_from_length rest none) ∙ append-nil events) in
    subst (λ l. AreAdded setup old new l more chosen_more) same (ahead_added setup old now new events log more chosen chosen_more ahead are logs selects grown)
