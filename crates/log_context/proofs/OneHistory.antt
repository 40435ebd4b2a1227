-- A setup and the events of a log tell one history.
use Rattle.std.proofs.Common.{◌≡◌, inl, inr, ℕ, ◌+◌, ◌<◌, Bool, true, false, ◌&&◌, nat_le, max, List, [], ◌∷◌, ◌++◌, map, Some, if◌then◌else◌, slice_get, refl, sym, ap, ap₂, ◌∙◌, subst, arith}
use Rattle.std.specs.Prelude.{fold}
use Rattle.std.specs.List.{filter_map, list_any}
use Rattle.std.specs.Ordering.{ordering_reverse}
use Rattle.std.specs.declared.cmp.Ordering.TheVariants.{Less, Greater}
use Rattle.std.proofs.lemmas.Option.{slice_get_within}
use Rattle.answer_class.specs.Classes.{class_of}
use Rattle.answer_class.specs.declared.answer.Answer.{Answer}
use Rattle.answer_class.specs.declared.answer.Answer.TheVariants.{Made, Removed, Opaque, Saw, SawNone, SawSome, SawOther, Listed, Free, Aside}
use Rattle.audit_event.specs.declared.event.Event.{Event}
use Rattle.base_types.specs.declared.kubernetes.key.ObjectKey.{ObjectKey}
use Rattle.clouds.proofs.Adding.{key_order_total}
use Rattle.history_model.proofs.OneList.{one_list_is}
use Rattle.history_model.proofs.OutcomeLaw.{get_within}
use Rattle.history_model.proofs.SameSorted.{same_by_get, same_sorted}
use Rattle.history_model.specs.Events as model
use Rattle.history_model.specs.Histories as past
use Rattle.history_model.specs.Histories.{History}
use Rattle.history_model.specs.Readable.{HaveOneLog}
use Rattle.history_model.specs.Windows.{low_end_of, high_end_of, lowest_of, highest_of}
use Rattle.base_types.specs.Meaning.{Meaning}
use Rattle.base_types.specs.Same.{same, same-Decides}
use Rattle.node_pool.proofs.Fronts.{AreDistinct-nil, AreDistinct-snoc}
use Rattle.node_pool.specs.Pooled.{AreDistinct}
use Rattle.node_pool.specs.Subtrees.{interned, subtrees, with_tree}
use Rattle.object_past.specs.Modelled.{maker_of, recorded, version_of}
use Rattle.object_past.specs.declared.removal.Removal.{Removal}
use Rattle.object_past.specs.declared.version.Maker.{Maker}
use Rattle.object_past.specs.declared.version.Maker.TheVariants as maker
use Rattle.object_past.specs.declared.version.Version.{Version}
use Rattle.past_building.specs.Hidden.{unrecorded_at, unrecorded_if, unrecorded_in}
use Rattle.clouds.specs.Kept.{key_order}
use Rattle.rbac_timeline.specs.Known as rbac
use Rattle.rbac_timeline.specs.Sound.{IsBefore}
use Rattle.rbac_timeline.specs.declared.version.RbacVersion.{RbacVersion}
use Rattle.setup_file.specs.declared.setup.Checkpoint.{Checkpoint}
use Rattle.setup_file.specs.declared.setup.Setup.{Setup}
use Rattle.setup_file.specs.declared.setup.SnapshotObject.{SnapshotObject}
use Rattle.time_windows.specs.declared.span.Span.{Span}
use Rattle.write_groups.specs.Modelled.{event_of, item_of, span_of}
use Rattle.write_groups.specs.declared.event.Item.{Item}
use Rattle.write_groups.specs.declared.event.Listing.{Listing}
use Rattle.write_groups.specs.declared.event.LogEvent.{LogEvent}
use Rattle.write_groups.specs.declared.event.Shown.{Shown}
use Rattle.write_groups.specs.declared.event.Shown.TheVariants as shown
use Rattle.log_context.specs.Histories.{body_test, decides_test, history_of, listable_test}
use Rattle.log_context.specs.Known.{Known}
use Rattle.log_context.specs.LogTrees.{pooled, stored_trees, with_trees}
use Rattle.log_context.specs.Logged.{AreLogged, AreLoggedCheckpoints, AreLoggedEvents, IsLogged, IsLoggedCheckpoint}
use Rattle.log_context.specs.Roles.{AreRoles, role_ends}
use Rattle.log_context.specs.Shown.{AreItemsOf, IsItemOf, IsListingOf, IsShownAs, IsShownByCheckpoint, object_of}
use Rattle.log_context.specs.Told.{IsTold}

-- each tree of a pool stands there once
with_tree-distinct : (trees : List Meaning) (tree : Meaning) → AreDistinct trees → AreDistinct (with_tree trees tree)
with_tree-distinct trees tree distinct = go (list_any (same tree) trees) refl
  where
    go : (b : Bool) → list_any (same tree) trees ≡ b → AreDistinct (if b then trees else trees ++ tree ∷ [])
    go true e = distinct
    go false e = AreDistinct-snoc same same-Decides trees tree distinct e

interned-distinct : (trees : List Meaning) (tree : Meaning) → AreDistinct trees → AreDistinct (interned trees tree)
interned-distinct trees tree distinct = folded trees (subtrees tree) distinct
  where
    folded : (xs ys : List Meaning) → AreDistinct xs → AreDistinct (fold with_tree xs ys)
    folded xs [] d = d
    folded xs (y ∷ ys) d = folded (with_tree xs y) ys (with_tree-distinct xs y d)

with_trees-distinct : (trees more : List Meaning) → AreDistinct trees → AreDistinct (with_trees trees more)
with_trees-distinct trees [] distinct = distinct
with_trees-distinct trees (tree ∷ more) distinct = with_trees-distinct (interned trees tree) more (interned-distinct trees tree distinct)

pub pooled_distinct : (setup : Setup) (events : List Event) → AreDistinct (pooled setup events)
pooled_distinct setup events = with_trees-distinct [] (stored_trees setup events) AreDistinct-nil

-- what an answer shows, by the numbers that its trees have
module _ (trees : List Meaning) (distinct : AreDistinct trees) where
  same_item : (object : SnapshotObject) (a b : Item) → IsItemOf trees object a → IsItemOf trees object b → a ≡ b
  same_item object a b x y = λ i. record { key = key i; revision = revision i; uid = uid i; node = record { 0 = node i } }
    where
      key : a.key ≡ b.key
      key = x.key ∙ sym y.key

      revision : a.revision ≡ b.revision
      revision = x.revision ∙ sym y.revision

      uid : a.uid ≡ b.uid
      uid = x.uid ∙ sym y.uid

      node : a.node.0 ≡ b.node.0
      node = distinct a.node.0 b.node.0 object.tree x.tree y.tree

  same_items : (objects : List SnapshotObject) (xs ys : List Item) → AreItemsOf trees objects xs → AreItemsOf trees objects ys → xs ≡ ys
  same_items [] [] [] x y = refl
  same_items [] [] (b ∷ ys) x y = absurd y
  same_items [] (a ∷ xs) ys x y = absurd x
  same_items (object ∷ objects) [] ys x y = absurd x
  same_items (object ∷ objects) (a ∷ xs) [] x y = absurd y
  same_items (object ∷ objects) (a ∷ xs) (b ∷ ys) x y = ap₂ (λ item items. item ∷ items) (same_item object a b x.0 y.0) (same_items objects xs ys x.1 y.1)

  same_listing : (group resource namespace : List ℕ) (revision : ℕ) (whole : Bool) (objects : List SnapshotObject) (a b : Listing)
      → IsListingOf trees group resource namespace revision whole objects a → IsListingOf trees group resource namespace revision whole objects b → a ≡ b
  same_listing group resource namespace revision whole objects a b x y = λ i. record {
    group = groups i;
    resource = resources i;
    namespace = namespaces i;
    revision = revisions i;
    whole = wholes i;
    items = items i;
  }
    where
      groups : a.group ≡ b.group
      groups = x.of_group ∙ sym y.of_group

      resources : a.resource ≡ b.resource
      resources = x.of_resource ∙ sym y.of_resource

      namespaces : a.namespace ≡ b.namespace
      namespaces = x.of_namespace ∙ sym y.of_namespace

      revisions : a.revision ≡ b.revision
      revisions = x.at_revision ∙ sym y.at_revision

      wholes : a.whole ≡ b.whole
      wholes = x.is_whole ∙ sym y.is_whole

      items : a.items ≡ b.items
      items = same_items objects a.items b.items x.items y.items

  same_shown : (answer : Answer) (a b : Shown) → IsShownAs trees answer a → IsShownAs trees answer b → a ≡ b
  same_shown (Made key revision uid tree created) a b x y = x.1 ∙ ap (λ item. shown.Made item created) (same_item (object_of key revision uid tree) x.0 y.0 x.2 y.2) ∙ sym y.1
  same_shown (Removed key uid) a b x y = x ∙ sym y
  same_shown (Opaque cover) a b x y = x ∙ sym y
  same_shown (Saw key revision uid tree) a b x y = x.1 ∙ ap (λ item. shown.Saw item) (same_item (object_of key revision uid tree) x.0 y.0 x.2 y.2) ∙ sym y.1
  same_shown (SawNone key) a b x y = x ∙ sym y
  same_shown (SawSome key) a b x y = x ∙ sym y
  same_shown (SawOther key) a b x y = x ∙ sym y
  same_shown (Listed group resource namespace revision whole objects selector) a b x y =
      x.1 ∙ ap (λ listing. shown.Listed listing) (same_listing group resource namespace revision whole objects x.0 y.0 x.2 y.2) ∙ sym y.1
  same_shown Free a b x y = x ∙ sym y
  same_shown Aside a b x y = x ∙ sym y

  same_by_checkpoint : (checkpoint : Checkpoint) (a b : Shown) → IsShownByCheckpoint trees checkpoint a → IsShownByCheckpoint trees checkpoint b → a ≡ b
  same_by_checkpoint checkpoint a b x y = x.1 ∙ ap (λ listing. shown.Listed listing)
      (same_listing checkpoint.group checkpoint.resource checkpoint.namespace checkpoint.revision true checkpoint.items x.0 y.0 x.2 y.2) ∙ sym y.1

  same_logged : (setup : Setup) (event : Event) (a b : LogEvent) → IsLogged setup trees event a → IsLogged setup trees event b → a ≡ b
  same_logged setup event a b x y = λ i. record {
    line = lines i;
    lo = record { 0 = los i };
    hi = record { 0 = his i };
    reading = readings i;
    preconditions = asked i;
    answer = answers i;
    other_level = levels i;
    omitted_stage = stages i;
    decision = decisions i;
  }
    where
      lines : a.line ≡ b.line
      lines = x.line ∙ sym y.line

      los : a.lo.0 ≡ b.lo.0
      los = x.lo ∙ sym y.lo

      his : a.hi.0 ≡ b.hi.0
      his = x.hi ∙ sym y.hi

      readings : a.reading ≡ b.reading
      readings = x.reading ∙ sym y.reading

      asked : a.preconditions ≡ b.preconditions
      asked = x.preconditions ∙ sym y.preconditions

      answers : a.answer ≡ b.answer
      answers = same_shown (class_of setup event) a.answer b.answer x.answer y.answer

      levels : a.other_level ≡ b.other_level
      levels = x.other_level ∙ sym y.other_level

      stages : a.omitted_stage ≡ b.omitted_stage
      stages = x.omitted_stage ∙ sym y.omitted_stage

      decisions : a.decision ≡ b.decision
      decisions = x.decision ∙ sym y.decision

  same_logged_checkpoint : (number : ℕ) (checkpoint : Checkpoint) (a b : LogEvent) → IsLoggedCheckpoint trees number checkpoint a → IsLoggedCheckpoint trees number checkpoint b → a ≡ b
  same_logged_checkpoint number checkpoint a b x y = λ i. record {
    line = lines i;
    lo = record { 0 = los i };
    hi = record { 0 = his i };
    reading = readings i;
    preconditions = asked i;
    answer = answers i;
    other_level = levels i;
    omitted_stage = stages i;
    decision = decisions i;
  }
    where
      lines : a.line ≡ b.line
      lines = x.line ∙ sym y.line

      los : a.lo.0 ≡ b.lo.0
      los = x.lo ∙ sym y.lo

      his : a.hi.0 ≡ b.hi.0
      his = x.hi ∙ sym y.hi

      readings : a.reading ≡ b.reading
      readings = x.reading ∙ sym y.reading

      asked : a.preconditions ≡ b.preconditions
      asked = x.preconditions ∙ sym y.preconditions

      answers : a.answer ≡ b.answer
      answers = same_by_checkpoint checkpoint a.answer b.answer x.answer y.answer

      levels : a.other_level ≡ b.other_level
      levels = x.other_level ∙ sym y.other_level

      stages : a.omitted_stage ≡ b.omitted_stage
      stages = x.omitted_stage ∙ sym y.omitted_stage

      decisions : a.decision ≡ b.decision
      decisions = x.decision ∙ sym y.decision

  same_events : (setup : Setup) (events : List Event) (xs ys : List LogEvent) → AreLoggedEvents setup trees events xs → AreLoggedEvents setup trees events ys → xs ≡ ys
  same_events setup events xs ys x y = same_by_get xs ys (x.all ∙ sym y.all) at
    where
      at : (i : ℕ) (a b : LogEvent) → slice_get xs i ≡ Some a → slice_get ys i ≡ Some b → a ≡ b
      at i a b p q = go (get_within events i (subst (λ n. i < n) x.all (slice_get_within xs i a p)))
        where
          go : (event : Event) × (slice_get events i ≡ Some event) → a ≡ b
          go (event, e) = same_logged setup event a b (x.each i event a e p) (y.each i event b e q)

  same_checkpoints : (checkpoints : List Checkpoint) (xs ys : List LogEvent) → AreLoggedCheckpoints trees checkpoints xs → AreLoggedCheckpoints trees checkpoints ys → xs ≡ ys
  same_checkpoints checkpoints xs ys x y = same_by_get xs ys (x.all ∙ sym y.all) at
    where
      at : (i : ℕ) (a b : LogEvent) → slice_get xs i ≡ Some a → slice_get ys i ≡ Some b → a ≡ b
      at i a b p q = go (get_within checkpoints i (subst (λ n. i < n) x.all (slice_get_within xs i a p)))
        where
          go : (checkpoint : Checkpoint) × (slice_get checkpoints i ≡ Some checkpoint) → a ≡ b
          go (checkpoint, e) = same_logged_checkpoint (i + 1) checkpoint a b (x.each i checkpoint a e p) (y.each i checkpoint b e q)

  same_log : (setup : Setup) (events : List Event) (xs ys : List LogEvent) → AreLogged setup trees events xs → AreLogged setup trees events ys → xs ≡ ys
  same_log setup events xs ys x y = x.joined ∙ ap₂ (λ front back. front ++ back)
      (same_events setup events x.of_log y.of_log x.in_log y.in_log) (same_checkpoints setup.checkpoints x.of_setup y.of_setup x.behind y.behind) ∙ sym y.joined

-- a function that keeps apart keeps lists apart
same_mapped : {X Y : Type 0} (f : X → Y) → ((a b : X) → f a ≡ f b → a ≡ b) → (xs ys : List X) → map f xs ≡ map f ys → xs ≡ ys
same_mapped f one [] [] e = refl
same_mapped f one [] (y ∷ ys) e = absurd (cc e)
same_mapped f one (x ∷ xs) [] e = absurd (cc e)
same_mapped f one (x ∷ xs) (y ∷ ys) e =
    let head : f x ≡ f y = cc e in
    let tail : map f xs ≡ map f ys = cc e in
    ap₂ (λ z zs. z ∷ zs) (one x y head) (same_mapped f one xs ys tail)

same_maker : (a b : Maker) → maker_of a ≡ maker_of b → a ≡ b
same_maker maker.Snapshot maker.Snapshot e = refl
same_maker maker.Snapshot (maker.Event number) e = absurd (cc e)
same_maker maker.Snapshot maker.Unknown e = absurd (cc e)
same_maker (maker.Event number) maker.Snapshot e = absurd (cc e)
same_maker (maker.Event number) (maker.Event other) e = let numbers : number ≡ other = cc e in ap (λ n. maker.Event n) numbers
same_maker (maker.Event number) maker.Unknown e = absurd (cc e)
same_maker maker.Unknown maker.Snapshot e = absurd (cc e)
same_maker maker.Unknown (maker.Event number) e = absurd (cc e)
same_maker maker.Unknown maker.Unknown e = refl

pub same_version : (a b : Version) → version_of a ≡ version_of b → a ≡ b
same_version a b e = λ i. record { key = keys i; revision = revisions i; uid = uids i; node = record { 0 = trees i }; maker = makers i }
  where
    keys : a.key ≡ b.key
    keys = ap (λ (v : past.Version). v.key) e

    revisions : a.revision ≡ b.revision
    revisions = ap (λ (v : past.Version). v.revision) e

    uids : a.uid ≡ b.uid
    uids = ap (λ (v : past.Version). v.uid) e

    trees : a.node.0 ≡ b.node.0
    trees = ap (λ (v : past.Version). v.tree) e

    makers : a.maker ≡ b.maker
    makers = same_maker a.maker b.maker (ap (λ (v : past.Version). v.maker) e)

same_removal : (a b : Removal) → recorded a ≡ recorded b → a ≡ b
same_removal a b e = λ i. record { key = keys i; uid = uids i; last = lasts i; range = ranges i }
  where
    keys : a.key ≡ b.key
    keys = ap (λ (r : past.Removal). r.key) e

    uids : a.uid ≡ b.uid
    uids = ap (λ (r : past.Removal). r.uid) e

    lasts : a.last ≡ b.last
    lasts = ap (λ (r : past.Removal). r.last) e

    ranges : a.range ≡ b.range
    ranges = ap (λ (r : past.Removal). r.range) e

same_span : (a b : Span) → span_of a ≡ span_of b → a ≡ b
same_span a b e = λ i. record { revision = revisions i; lo = record { 0 = los i }; hi = record { 0 = his i } }
  where
    revisions : a.revision ≡ b.revision
    revisions = ap (λ (s : past.Span). s.revision) e

    los : a.lo.0 ≡ b.lo.0
    los = ap (λ (s : past.Span). s.lo) e

    his : a.hi.0 ≡ b.hi.0
    his = ap (λ (s : past.Span). s.hi) e

-- roles and bindings rise strictly
pub not_both_less : (a b : ObjectKey) → key_order a b ≡ Less → key_order b a ≡ Less → ⊥
not_both_less a b less back = let turned : Less ≡ Greater = sym back ∙ key_order_total.antisymm b a ∙ ap ordering_reverse less in cc turned

not_less : (a b : ObjectKey) → a ≡ b → key_order a b ≡ Less → ⊥
not_less a b same less = not_both_less a b less (ap (λ k. key_order k a) (sym same) ∙ ap (key_order a) same ∙ less)

never_both : (a b : RbacVersion) → IsBefore a b → IsBefore b a → ⊥
never_both a b (inl less) (inl back) = not_both_less a.key b.key less back
never_both a b (inl less) (inr (same, above)) = not_less a.key b.key (sym same) less
never_both a b (inr (same, above)) (inl less) = not_less b.key a.key (sym same) less
never_both a b (inr (same, above)) (inr (other, below)) = omega (arith, above, below)

same_roles : (trees : List Meaning) (versions : List Version) (xs ys : List RbacVersion) → AreRoles trees versions xs → AreRoles trees versions ys → xs ≡ ys
same_roles trees versions xs ys x y = same_sorted IsBefore xs ys (λ a b c d. never_both a b) x.rising y.rising
    (λ r c. let s = x.sound r c in y.full s.0 r s.1 s.2) (λ r c. let s = y.sound r c in x.full s.0 r s.1 s.2)

-- unrecorded writes, where the revisions were written in the same spans
module _ (g h : History) (starts : g.start ≡ h.start) (spans : g.spans ≡ h.spans) where
  same_low : (event : model.Event) (reading : model.Reading) → low_end_of g event reading ≡ low_end_of h event reading
  same_low event model.MostRecent = λ i. lowest_of (starts i) (spans i) event.lo
  same_low event model.AnyVersion = starts
  same_low event (model.NotOlderThan revision) = ap (λ start. max start revision) starts
  same_low event (model.Exactly revision) = λ i. if nat_le (starts i) revision && nat_le revision (highest_of (spans i) event.hi) then revision else 1
  same_low event (model.Checkpoint revision) = refl

  same_high : (event : model.Event) (reading : model.Reading) → high_end_of g event reading ≡ high_end_of h event reading
  same_high event model.MostRecent = ap (λ s. highest_of s event.hi) spans
  same_high event model.AnyVersion = ap (λ s. highest_of s event.hi) spans
  same_high event (model.NotOlderThan revision) = ap (λ s. highest_of s event.hi) spans
  same_high event (model.Exactly revision) = λ i. if nat_le (starts i) revision && nat_le revision (highest_of (spans i) event.hi) then revision else 0
  same_high event (model.Checkpoint revision) = refl

  same_unrecorded : (event : LogEvent) (answer : Shown) → unrecorded_if g event answer ≡ unrecorded_if h event answer
  same_unrecorded event (shown.Made item created) = refl
  same_unrecorded event (shown.Removed key uid) = refl
  same_unrecorded event (shown.Opaque cover) = λ i. Some (record { cover = cover; low = lows i; high = highs i })
    where
      lows : low_end_of g (event_of event) (event_of event).reading ≡ low_end_of h (event_of event) (event_of event).reading
      lows = same_low (event_of event) (event_of event).reading

      highs : high_end_of g (event_of event) (event_of event).reading ≡ high_end_of h (event_of event) (event_of event).reading
      highs = same_high (event_of event) (event_of event).reading
  same_unrecorded event (shown.Saw item) = refl
  same_unrecorded event (shown.SawNone key) = refl
  same_unrecorded event (shown.SawSome key) = refl
  same_unrecorded event (shown.SawOther key) = refl
  same_unrecorded event (shown.Listed listing) = refl
  same_unrecorded event shown.Free = refl
  same_unrecorded event shown.Aside = refl

  all_unrecorded : (log : List LogEvent) → unrecorded_in g log ≡ unrecorded_in h log
  all_unrecorded log = λ i. filter_map (λ event. each event i) log
    where
      each : (event : LogEvent) → unrecorded_at g event ≡ unrecorded_at h event
      each event = same_unrecorded event event.answer

-- the same, said of a setup and events that are equal
abbrev told_by : Setup → List Event → Known → Known
told_by setup events known = record known { setup = setup; events = events }

module _ (a b : Known) (x : IsTold a) (y : IsTold (told_by a.setup a.events b)) where
  trees : a.trees ≡ b.trees
  trees = x.trees ∙ sym y.trees

  distinct : AreDistinct a.trees
  distinct = subst (λ (l : List Meaning). AreDistinct l) (sym x.trees) (pooled_distinct a.setup a.events)

  snapshot : a.snapshot ≡ b.snapshot
  snapshot = same_items a.trees distinct a.setup.snapshot a.snapshot b.snapshot x.snapshot (subst (λ l. AreItemsOf l a.setup.snapshot b.snapshot) (sym trees) y.snapshot)

  log : a.log ≡ b.log
  log = same_log a.trees distinct a.setup a.events a.log b.log x.logged (subst (λ l. AreLogged a.setup l a.events b.log) (sym trees) y.logged)

  bodies : body_test a.setup a.events a.log a.trees ≡ body_test a.setup a.events b.log b.trees
  bodies = λ i. body_test a.setup a.events (log i) (trees i)

  one_log : HaveOneLog (history_of a) (history_of (told_by a.setup a.events b))
  one_log = record { start = refl; snapshot = ap (map item_of) snapshot; events = ap (map event_of) log; body = bodies }

  lists : (a.order ≡ b.order) × ((history_of a).spans ≡ (history_of (told_by a.setup a.events b)).spans) × (map version_of a.versions ≡ map version_of b.versions) × (map recorded a.removals ≡ map recorded b.removals)
  lists = one_list_is (history_of a) (history_of (told_by a.setup a.events b)) one_log x.readable y.readable

  versions : a.versions ≡ b.versions
  versions = same_mapped version_of same_version a.versions b.versions lists.2

  removals : a.removals ≡ b.removals
  removals = same_mapped recorded same_removal a.removals b.removals lists.3

  roles : a.rbac.versions ≡ b.rbac.versions
  roles = same_roles a.trees a.versions a.rbac.versions b.rbac.versions x.roles
      (subst (λ l. AreRoles a.trees l b.rbac.versions) (sym versions) (subst (λ l. AreRoles l b.versions b.rbac.versions) (sym trees) y.roles))

  ends : a.rbac.ends ≡ b.rbac.ends
  ends = x.ends ∙ ap role_ends removals ∙ sym y.ends

  hidden : a.rbac.spans ≡ b.rbac.spans
  hidden = x.unrecorded ∙ all_unrecorded (history_of a) (history_of (told_by a.setup a.events b)) refl lists.1 a.log
      ∙ ap (unrecorded_in (history_of (told_by a.setup a.events b))) log ∙ sym y.unrecorded

  bypass : a.rbac.bypass ≡ b.rbac.bypass
  bypass = x.bypass ∙ sym y.bypass

  rights : a.rbac ≡ b.rbac
  rights = λ i. record { versions = roles i; ends = ends i; spans = hidden i; bypass = bypass i }

  same_history : history_of a ≡ history_of (told_by a.setup a.events b)
  same_history = λ i. record {
    start = a.setup.start;
    lag = a.setup.lag;
    snapshot = map item_of (snapshot i);
    events = map event_of (log i);
    order = lists.0 i;
    spans = lists.1 i;
    versions = lists.2 i;
    removals = lists.3 i;
    body = bodies i;
    listable = listable_test a.setup a.events (trees i);
    decides = decides_test a.events (log i) (rights i);
  }

  spans : a.spans ≡ b.spans
  spans = same_mapped span_of same_span a.spans b.spans lists.1

  alike : a ≡ record (told_by a.setup a.events b) { groups = a.groups }
  alike = λ i. record {
    setup = a.setup;
    events = a.events;
    trees = trees i;
    snapshot = snapshot i;
    log = log i;
    order = lists.0 i;
    groups = a.groups;
    spans = spans i;
    versions = versions i;
    removals = removals i;
    rbac = rights i;
  }

-- all that a context holds but its groups is told once
pub one_told : (a b : Known) → IsTold a → IsTold b → a.setup ≡ b.setup → a.events ≡ b.events → a ≡ record b { groups = a.groups }
one_told a b x y setups events = alike a b x (subst IsTold (sym moved) y) ∙ ap (λ (known : Known). record known { groups = a.groups }) moved
  where
    moved : told_by a.setup a.events b ≡ b
    moved = λ i. told_by (setups i) (events i) b

pub one_history : (a b : Known) → IsTold a → IsTold b → a.setup ≡ b.setup → a.events ≡ b.events → history_of a ≡ history_of b
one_history a b x y setups events = same_history a b x (subst IsTold (sym moved) y) ∙ ap history_of moved
  where
    moved : told_by a.setup a.events b ≡ b
    moved = λ i. told_by (setups i) (events i) b
