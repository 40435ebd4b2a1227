-- Each number in the trees of a sound log is one that can be read.
use Rattle.std.proofs.Common.{◌≡◌, ℕ, Bool, true, false, ◌&&◌, List, [], ◌∷◌, ◌++◌, Option, Some, None, if◌then◌else◌, All, refl, sym, subst}
use Rattle.std.specs.Prelude.{fold}
use Rattle.std.specs.List.{flat_map, list_any}
use Rattle.std.proofs.lemmas.List.Concat.{flat_map-cons}
use Rattle.std.proofs.lemmas.List.Elements.{All-nil, All-cons, All-head, All-tail, All-append, All-push, All-map}
use Rattle.base_types.specs.Meaning.{Meaning, null, flag, whole, words, items, members, Kids, no_kids, kid, Fields, no_fields, field}
use Rattle.base_types.specs.Same.{same}
use Rattle.base_types.specs.Values.{InRange, KidsInRange, FieldsInRange}
use Rattle.node_pool.specs.Subtrees.{inside, inside_kids, inside_fields, subtrees, with_tree, interned}
use Rattle.audit_event.specs.Bodies.{kept}
use Rattle.audit_event.specs.Events as audit
use Rattle.audit_event.specs.declared.event.Event.{Event}
use Rattle.setup_file.specs.Lists.{list_of}
use Rattle.setup_file.specs.Objects.{object_of}
use Rattle.setup_file.specs.Sound.{AreInRange, IsLaterList, IsSound}
use Rattle.setup_file.specs.declared.lists.ListRead.{ListRead}
use Rattle.setup_file.specs.declared.setup.Checkpoint.{Checkpoint}
use Rattle.setup_file.specs.declared.setup.Setup.{Setup}
use Rattle.setup_file.specs.declared.setup.SnapshotObject.{SnapshotObject}
use Rattle.setup_file.specs.declared.setup.Tracked.{Tracked}
use Rattle.base_types.proofs.Found.{found_both}
use Rattle.answer_class.specs.Bodies.{answered_object}
use Rattle.answer_class.specs.Covers.{cover_of}
use Rattle.answer_class.specs.Lists.{answered_list}
use Rattle.setup_file.specs.Requests.{tracked_of}
use Rattle.answer_class.specs.Requests.{verb_of, is_write, is_read, is_completing, effect_of, is_own, is_unknown, succeeds, is_code, is_done, is_open, is_empty}
use Rattle.answer_class.specs.Times.{is_early, is_before}
use Rattle.answer_class.specs.Classes.{saw, listed, read_by, read_class, is_missing, asked_name, is_taken, is_conflict, conflict_class, taken_class, refused_class, is_outside, is_out_of_sight, later_class, removed_uid, removed, is_made_by, made, made_class, is_hidden, is_dry, is_idle, succeeded_class, tracked_class, class_in, class_of}
use Rattle.answer_class.specs.declared.answer.Answer.{Answer}
use Rattle.answer_class.specs.declared.answer.Answer.TheVariants.{Made, Opaque, Free, Aside}
use Rattle.answer_class.specs.declared.request.Verb.{Verb}
use Rattle.answer_class.specs.declared.request.Verb.TheVariants.{Create, Update, Patch, Delete, DeleteCollection, Get, Listing, Other}
use Rattle.audit_event.proofs.BodyLemmas.{kept_in_range}
use Rattle.setup_file.proofs.SoundLists.{object_in_range, list_in_range}
use Rattle.log_context.specs.LogTrees.{object_trees, answer_trees, event_trees, checkpoint_trees, with_trees, pooled}

mutual
  inside_in_range : (t : Meaning) → InRange t → All InRange (inside t)
  inside_in_range null range = All-nil InRange
  inside_in_range (flag b) range = All-nil InRange
  inside_in_range (whole z) range = All-nil InRange
  inside_in_range (words s) range = All-nil InRange
  inside_in_range (items ts) range = kids_inside ts range
  inside_in_range (members ms) range = fields_inside ms range

  kids_inside : (ts : Kids) → KidsInRange ts → All InRange (inside_kids ts)
  kids_inside no_kids range = All-nil InRange
  kids_inside (kid t ts) range = All-append InRange (inside t ++ t ∷ []) (inside_kids ts) (All-push InRange (inside t) t (inside_in_range t range.0) range.0) (kids_inside ts range.1)

  fields_inside : (ms : Fields) → FieldsInRange ms → All InRange (inside_fields ms)
  fields_inside no_fields range = All-nil InRange
  fields_inside (field k t ms) range = All-append InRange (inside t ++ t ∷ []) (inside_fields ms) (All-push InRange (inside t) t (inside_in_range t range.0) range.0) (fields_inside ms range.1)

one_more : (ts : List Meaning) (t : Meaning) → All InRange ts → InRange t → All InRange (with_tree ts t)
one_more ts t all range = go (list_any (same t) ts)
  where
    go : (b : Bool) → All InRange (if b then ts else ts ++ t ∷ [])
    go true = all
    go false = All-push InRange ts t all range

more : (ts us : List Meaning) → All InRange ts → All InRange us → All InRange (fold with_tree ts us)
more ts [] all others = all
more ts (u ∷ us) all others = more (with_tree ts u) us (one_more ts u all (All-head InRange u us others)) (All-tail InRange u us others)

pooled_in_range : (ts us : List Meaning) → All InRange ts → All InRange us → All InRange (with_trees ts us)
pooled_in_range ts [] all others = all
pooled_in_range ts (u ∷ us) all others =
    let range = All-head InRange u us others in
    pooled_in_range (interned ts u) us (more ts (subtrees u) all (All-push InRange (inside u) u (inside_in_range u range) range)) (All-tail InRange u us others)

-- what holds of the trees of each item holds of those of all
flattened : {X : Type 0} (P : X → Type 0) (f : X → List Meaning) (xs : List X) → ((x : X) → P x → All InRange (f x)) → All P xs → All InRange (flat_map f xs)
flattened P f [] each all = All-nil InRange
flattened P f (x ∷ xs) each all = subst (All InRange) (sym (flat_map-cons f x xs))
    (All-append InRange (f x) (flat_map f xs) (each x (All-head P x xs all)) (flattened P f xs each (All-tail P x xs all)))

objects_in_range : (objects : List SnapshotObject) → AreInRange objects → All InRange (object_trees objects)
objects_in_range objects range = All-map InRange (λ (object : SnapshotObject). object.tree) objects range

abbrev Shows : Answer → Type 0
Shows answer = All InRange (answer_trees answer)

nothing : All InRange []
nothing = All-nil InRange

either : (b : Bool) (x y : Answer) → Shows x → Shows y → Shows (if b then x else y)
either true x y p q = p
either false x y p q = q

module _ (setup : Setup) (event : Event) (sound : audit.IsSound event) where
  module _ (tracked : Tracked) where
    answered : (object : SnapshotObject) → answered_object tracked event ≡ Some object → InRange object.tree
    answered object e =
        let body = found_both (kept event.response) (object_of tracked event.attrs.name event.attrs.namespace) object e in
        object_in_range tracked event.attrs.name event.attrs.namespace body.0 object (kept_in_range event.response body.0 sound.response body.1) body.2

    saw_shows : (o : Option SnapshotObject) → answered_object tracked event ≡ o → Shows (saw tracked event o)
    saw_shows None e = nothing
    saw_shows (Some object) e = All-cons InRange object.tree [] (answered object e) nothing

    listed_shows : (o : Option ListRead) → answered_list tracked event ≡ o → Shows (listed tracked event o)
    listed_shows None e = nothing
    listed_shows (Some list) e =
        let body = found_both (kept event.response) (list_of tracked event.attrs.name event.attrs.namespace) list e in
        objects_in_range list.items (list_in_range tracked event.attrs.name event.attrs.namespace body.0 list (kept_in_range event.response body.0 sound.response body.1) body.2)

    read_by_shows : (v : Verb) → Shows (read_by v tracked event)
    read_by_shows Create = nothing
    read_by_shows Update = nothing
    read_by_shows Patch = nothing
    read_by_shows Delete = nothing
    read_by_shows DeleteCollection = nothing
    read_by_shows Get = either (is_empty event.attrs.name) Aside (saw tracked event (answered_object tracked event)) nothing (saw_shows (answered_object tracked event) refl)
    read_by_shows Listing = either (is_own (effect_of tracked event.attrs)) (listed tracked event (answered_list tracked event)) Aside (listed_shows (answered_list tracked event) refl) nothing
    read_by_shows Other = nothing

    read_shows : Shows (read_class tracked event)
    read_shows = either (is_code 200 event.status.code) (read_by (verb_of event.attrs.verb) tracked event) Free (read_by_shows (verb_of event.attrs.verb)) nothing

    conflict_shows : Shows (conflict_class tracked event)
    conflict_shows = either (is_conflict tracked event) _ (read_class tracked event) nothing read_shows

    taken_shows : (o : Option (List ℕ)) → Shows (taken_class tracked event o)
    taken_shows None = conflict_shows
    taken_shows (Some name) = either (is_taken tracked event name) _ (conflict_class tracked event) nothing conflict_shows

    refused_shows : Shows (refused_class tracked event)
    refused_shows = either (is_missing tracked event) _ (taken_class tracked event (asked_name event)) nothing (taken_shows (asked_name event))

    later_shows : Shows (later_class setup tracked event)
    later_shows =
        either (is_outside setup tracked event) Aside _ nothing
        (either (is_read (verb_of event.attrs.verb) && is_unknown (effect_of tracked event.attrs)) Aside _ nothing
        (either (is_read (verb_of event.attrs.verb) && is_out_of_sight setup event) Aside (refused_class tracked event) nothing refused_shows))

    removed_shows : (o : Option (List ℕ)) → Shows (removed setup tracked event o)
    removed_shows None = nothing
    removed_shows (Some uid) = either (is_early setup event) _ _ nothing nothing

    made_shows : (o : Option SnapshotObject) → answered_object tracked event ≡ o → Shows (made_class setup tracked event o)
    made_shows None e = removed_shows (removed_uid (verb_of event.attrs.verb) event None)
    made_shows (Some object) e =
        either (is_done event.status.code && is_made_by (verb_of event.attrs.verb) object.tree) (made setup event object) (removed setup tracked event (removed_uid (verb_of event.attrs.verb) event (Some object)))
        (either _ (Made object.key object.revision object.uid object.tree (is_code 201 event.status.code)) Aside (All-cons InRange object.tree [] (answered object e) nothing) nothing)
        (removed_shows (removed_uid (verb_of event.attrs.verb) event (Some object)))

    tracked_shows : Shows (tracked_class setup tracked event)
    tracked_shows =
        either (is_dry event) Free _ nothing
        (either (is_idle tracked event) Free _ nothing
        (either (is_write (verb_of event.attrs.verb) && is_before setup event) Aside _ nothing
        (either (is_write (verb_of event.attrs.verb) && is_open event.status.code) (Opaque (cover_of tracked event)) _ nothing
        (either (is_write (verb_of event.attrs.verb) && succeeds event.status.code) (succeeded_class setup tracked event) (later_class setup tracked event)
        (either (is_hidden setup tracked event) (Opaque (cover_of tracked event)) (made_class setup tracked event (answered_object tracked event)) nothing (made_shows (answered_object tracked event) refl))
        later_shows))))

  class_shows : (o : Option Tracked) → Shows (class_in setup o event)
  class_shows None = nothing
  class_shows (Some tracked) = either (is_completing event.stage) (tracked_class setup tracked event) Aside (tracked_shows tracked) nothing

-- the pool of a sound setup and sound events
pub numbers_are : (setup : Setup) (events : List Event) → IsSound setup → All audit.IsSound events → All InRange (pooled setup events)
numbers_are setup events sound all = pooled_in_range [] (object_trees setup.snapshot ++ (event_trees setup events ++ checkpoint_trees setup.checkpoints)) nothing
    (All-append InRange (object_trees setup.snapshot) (event_trees setup events ++ checkpoint_trees setup.checkpoints) (objects_in_range setup.snapshot sound.trees)
    (All-append InRange (event_trees setup events) (checkpoint_trees setup.checkpoints)
    (flattened audit.IsSound (λ (event : Event). answer_trees (class_of setup event)) events (λ event is. class_shows setup event is (tracked_of setup event.attrs)) all)
    (flattened (IsLaterList setup.start setup.resources) (λ (checkpoint : Checkpoint). object_trees checkpoint.items) setup.checkpoints (λ checkpoint is. objects_in_range checkpoint.items is.trees) sound.checkpoints)))
