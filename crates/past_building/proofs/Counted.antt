-- How many versions and removals a log has at most.
use Rattle.std.proofs.Common.{◌≡◌, ◌<◌, ◌≤◌, ◌+◌, ◌⊎◌, ℕ, suc, Bool, false, List, [], ◌∷◌, ◌++◌, Option, length, map, inl, inr, ⊎_elim, refl, ap, ◌∙◌, subst, arith}
use Rattle.std.specs.Prelude.{All, AllPairs, Contains}
use Rattle.std.proofs.lemmas.List.{length-append, length-map}
use Rattle.std.proofs.lemmas.List.Elements.{Contains-append_cases, Contains-append_left, Contains-append_right}
use Rattle.std.proofs.lemmas.Option.{slice_get_within}
use Rattle.history_model.proofs.Members.{all_at, all_from, at_in, here, in_cons, pairs_head, pairs_tail, there}
use Rattle.history_model.proofs.Splits.{split_at}
use Rattle.history_model.specs.Events as model
use Rattle.history_model.specs.Events.{Answer, Made, Removed, Opaque, Saw, SawNone, SawSome, SawOther, Listed, Free, Aside}
use Rattle.history_model.specs.Groups.{Making, IsMember}
use Rattle.history_model.specs.Histories as past
use Rattle.history_model.specs.Histories.{History, Maker, Snapshot, ByEvent, Unknown}
use Rattle.history_model.specs.Incarnations.{AreRemovals}
use Rattle.history_model.specs.Makers.{AreVersions, IsMadeVersion, IsShowing, IsSnapshotVersion, item_of as shown_item}
use Rattle.write_groups.specs.Modelled.{event_of, item_of, span_of}
use Rattle.write_groups.specs.declared.event.Item.{Item}
use Rattle.write_groups.specs.declared.event.LogEvent.{LogEvent}
use Rattle.object_past.specs.Modelled.{recorded, version_of}
use Rattle.object_past.proofs.Looking.{in_map}
use Rattle.past_building.specs.Found.{HasFound, IsPastOf}
use Rattle.past_building.specs.declared.log_past.LogPast.{LogPast}

-- a number that stands in a list beside another one
beside : (x y : ℕ) (done rest : List ℕ) → x < y → Contains (done ++ x ∷ rest) y → Contains (done ++ rest) y
beside x y done rest above among = ⊎_elim
    (λ before. Contains-append_left done rest y before)
    (λ after. ⊎_elim
    (λ same. absurd (omega (arith, above, same)))
    (λ behind. Contains-append_right done rest y behind)
    (in_cons x rest y after))
    (Contains-append_cases done (x ∷ rest) y among)

-- items that rise by a number, which for each of them stands in a list, are no more than the list has
rising_within : {X : Type 0} (f : X → ℕ) (xs : List X) (numbers : List ℕ) → AllPairs (λ a b. f a < f b) xs → ((x : X) → Contains xs x → Contains numbers (f x))
    → length xs ≤ length numbers
rising_within f [] numbers rising among = omega arith
rising_within {X} f (x ∷ xs) numbers rising among =
    let split = split_at numbers (f x) (among x (here x xs)) in
    let done = split.0 in
    let rest = split.1 in
    let shorter = rising_within f xs (done ++ rest) (pairs_tail (λ a b. f a < f b) x xs rising) (λ y later.
    beside (f x) (f y) done rest (all_at (λ z. f x < f z) xs y (pairs_head (λ a b. f a < f b) x xs rising) later)
    (subst (λ l. Contains l (f y)) split.2.whole (among y (there x y xs later)))) in
    let long = ap length split.2.whole ∙ length-append done (f x ∷ rest) in
    let short = length-append done rest in
    omega (arith, shorter, long, short)

-- items that rise by a number below a bound
rising_from : {X : Type 0} (f : X → ℕ) (xs : List X) (low bound : ℕ) → low ≤ bound → AllPairs (λ a b. f a < f b) xs → All (λ x. low ≤ f x) xs → All (λ x. f x < bound) xs
    → low + length xs ≤ bound
rising_from f [] low bound room rising above below = omega (arith, room)
rising_from {X} f (x ∷ xs) low bound room rising above below =
    let first : low ≤ f x = all_at (λ y. low ≤ f y) (x ∷ xs) x above (here x xs) in
    let last : f x < bound = all_at (λ y. f y < bound) (x ∷ xs) x below (here x xs) in
    let rest = rising_from f xs (suc (f x)) bound last (pairs_tail (λ a b. f a < f b) x xs rising)
    (all_from (λ y. suc (f x) ≤ f y) xs (λ y later. all_at (λ z. f x < f z) xs y (pairs_head (λ a b. f a < f b) x xs rising) later))
    (all_from (λ y. f y < bound) xs (λ y later. all_at (λ z. f z < bound) (x ∷ xs) y below (there x y xs later))) in
    omega (arith, first, rest)

rising_below : {X : Type 0} (f : X → ℕ) (xs : List X) (bound : ℕ) → AllPairs (λ a b. f a < f b) xs → All (λ x. f x < bound) xs → length xs ≤ bound
rising_below f xs bound rising below =
    let room = rising_from f xs 0 bound (omega arith) rising (all_from (λ x. 0 ≤ f x) xs (λ x among. omega arith)) below in omega (arith, room)

-- the revision that a write was answered with
abbrev revision_in : Answer → ℕ
revision_in (Made item created) = item.revision
revision_in (Removed key uid) = 0
revision_in (Opaque cover) = 0
revision_in (Saw item) = 0
revision_in (SawNone key) = 0
revision_in (SawSome key) = 0
revision_in (SawOther key) = 0
revision_in (Listed listing) = 0
revision_in Free = 0
revision_in Aside = 0

-- the revisions of the snapshot, and those that the writes were answered with
abbrev shown_revisions : History → List ℕ
shown_revisions h = map (λ (item : model.Item). item.revision) h.snapshot ++ map (λ (event : model.Event). revision_in event.answer) h.events

member_shown : (h : History) (v : past.Version) (m : Making) → IsMember h v.key v.revision m → Contains (shown_revisions h) v.revision
member_shown h v m is =
    let revision : revision_in m.event.answer ≡ v.revision = ap revision_in is.making.made ∙ is.at_revision in
    Contains-append_right (map (λ (item : model.Item). item.revision) h.snapshot) (map (λ (event : model.Event). revision_in event.answer) h.events) v.revision
    (subst (Contains (map (λ (event : model.Event). revision_in event.answer) h.events)) revision
    (in_map (λ (event : model.Event). revision_in event.answer) h.events m.event (at_in h.events m.number m.event is.making.known)))

made_shown : (h : History) (v : past.Version) (m : Making) (maker : Maker) → IsShowing h v.key v.revision maker m → Contains (shown_revisions h) v.revision
made_shown h v m Snapshot shown = absurd shown
made_shown h v m (ByEvent number) shown = member_shown h v m shown.0
made_shown h v m Unknown shown = member_shown h v m shown.holds

is_shown : (h : History) (v : past.Version) → IsSnapshotVersion h v ⊎ IsMadeVersion h v → Contains (shown_revisions h) v.revision
is_shown h v (inl is) = Contains-append_left (map (λ (item : model.Item). item.revision) h.snapshot) (map (λ (event : model.Event). revision_in event.answer) h.events) v.revision
    (in_map (λ (item : model.Item). item.revision) h.snapshot (shown_item v) is.listed)
is_shown h v (inr is) = made_shown h v is.m v.maker is.shown

versions_within : (h : History) → AreVersions h → length h.versions ≤ length h.snapshot + length h.events
versions_within h are =
    let within = rising_within (λ (v : past.Version). v.revision) h.versions (shown_revisions h) are.rising (λ v among. is_shown h v (are.sound v among)) in
    let all = length-append (map (λ (item : model.Item). item.revision) h.snapshot) (map (λ (event : model.Event). revision_in event.answer) h.events) in
    let items = length-map h.snapshot (λ (item : model.Item). item.revision) in
    let events = length-map h.events (λ (event : model.Event). revision_in event.answer) in
    omega (arith, within, all, items, events)

removals_within : (h : History) → AreRemovals h → length h.removals ≤ length h.events
removals_within h are = rising_below (λ (r : past.Removal). r.range.event) h.removals (length h.events) are.rising
    (all_from (λ (r : past.Removal). r.range.event < length h.events) h.removals (λ r among.
    let is = are.sound r among in
    slice_get_within h.events r.range.event is.behind.event is.behind.first.known))

-- the history of a log with what was found of it
abbrev history_with : ℕ → List Item → List LogEvent → (ℕ → Option ℕ → Bool) → LogPast → History
history_with start snapshot events body found = record {
  start = start;
  lag = 0;
  snapshot = map item_of snapshot;
  events = map event_of events;
  order = found.order.items;
  spans = map span_of found.windows.spans;
  versions = map version_of found.versions;
  removals = map recorded found.removals;
  body = body;
  listable = λ event tree. false;
  decides = λ event places. false;
}

module _ (start : ℕ) (snapshot : List Item) (events : List LogEvent) (body : ℕ → Option ℕ → Bool) (found : LogPast)
    (says : (h : History) → HasFound start snapshot events body found h → IsPastOf events found h) where
  right : IsPastOf events found (history_with start snapshot events body found)
  right = says (history_with start snapshot events body found) (record {
    begins = refl;
    listed = refl;
    all = refl;
    bodies = refl;
    order = refl;
    spans = refl;
    versions = refl;
    removals = refl;
  })

  pub few_versions : length found.versions ≤ length snapshot + length events
  few_versions =
      let within = versions_within (history_with start snapshot events body found) right.versions in
      let versions = length-map found.versions version_of in
      let items = length-map snapshot item_of in
      let logged = length-map events event_of in
      omega (arith, within, versions, items, logged)

  pub few_removals : length found.removals ≤ length events
  few_removals =
      let within = removals_within (history_with start snapshot events body found) right.removals in
      let removals = length-map found.removals recorded in
      let logged = length-map events event_of in
      omega (arith, within, removals, logged)
