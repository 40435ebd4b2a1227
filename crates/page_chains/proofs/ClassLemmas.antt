-- What the class of an event tells of a list: its resource is tracked, one that was continued isn't below the start, and
-- its items are those of the answer.
use Rattle.std.proofs.Common.{◌≡◌, ℕ, ◌≤◌, Bool, true, false, ◌&&◌, ◌||◌, List, Option, Some, None, refl, ap, subst, ◌∙◌, if◌then◌else◌, codes, arith}
use Rattle.std.specs.Prelude.{IsSome, ⊤, is_some}
use Rattle.std.proofs.lemmas.Bool.{false≢true, or_parts, ltb-false}
use Rattle.base_types.specs.Parts.{member_of}
use Rattle.base_types.specs.Texts.{◌>>=◌, revision_at}
use Rattle.audit_event.specs.declared.event.Event.{Event}
use Rattle.setup_file.specs.Lists.{list_of}
use Rattle.setup_file.specs.Resources.{tracked_as}
use Rattle.setup_file.specs.declared.lists.ListRead.{ListRead}
use Rattle.setup_file.specs.declared.setup.Setup.{Setup}
use Rattle.setup_file.specs.declared.setup.SnapshotObject.{SnapshotObject}
use Rattle.setup_file.specs.declared.setup.Tracked.{Tracked}
use Rattle.base_types.proofs.Found.{found_both, where_true}
use Rattle.audit_event.specs.Bodies.{kept}
use Rattle.answer_class.specs.Bodies.{answered_object}
use Rattle.answer_class.specs.Covers.{cover_of}
use Rattle.answer_class.specs.Lists.{answered_list, answered_at, is_below, is_old_list, asks_revision, is_odd}
use Rattle.setup_file.specs.Requests.{tracked_of}
use Rattle.answer_class.specs.Requests.{verb_of, is_write, is_read, is_completing, effect_of, is_own, is_unknown, has_filled, first_value, succeeds, is_code, is_done, is_open, is_empty}
use Rattle.answer_class.specs.Times.{is_early, is_before}
use Rattle.answer_class.specs.Classes.{saw, listed, read_by, read_class, is_missing, asked_name, is_taken, is_conflict, conflict_class, taken_class, refused_class, is_outside, is_out_of_sight, later_class, removed_uid, removed, is_made_by, made, made_class, is_hidden, is_dry, is_idle, succeeded_class, tracked_class, class_in, class_of}
use Rattle.answer_class.specs.declared.answer.Answer.{Answer}
use Rattle.answer_class.specs.declared.answer.Answer.TheVariants.{Made, Removed, Opaque, Saw, SawNone, SawSome, SawOther, Listed, Free, Aside}
use Rattle.answer_class.specs.declared.request.Verb.{Verb}
use Rattle.answer_class.specs.declared.request.Verb.TheVariants.{Create, Update, Patch, Delete, DeleteCollection, Get, Listing, Other}
use Rattle.page_chains.proofs.ListLemmas.{list_is_read}

-- the items are those of the list that the answer is
abbrev pub AreAnswered : Event → List SnapshotObject → Type 0
AreAnswered event items = (tracked : Tracked) × (list : ListRead) × (answered_list tracked event ≡ Some list) × (items ≡ list.items)

pub record IsLikelyList (setup : Setup) (event : Event) (group resource : List ℕ) (revision : ℕ) (items : List SnapshotObject) : Type 0 where
  pub tracked : IsSome (tracked_as setup.resources group resource)
  pub late : has_filled (codes "continue") event.attrs ≡ true → setup.start ≤ revision
  pub answered : AreAnswered event items

abbrev pub IsLikely : Setup → Event → Answer → Type 0
IsLikely setup event (Made key revision uid object created) = ⊤
IsLikely setup event (Removed key uid) = ⊤
IsLikely setup event (Opaque cover) = ⊤
IsLikely setup event (Saw key revision uid object) = ⊤
IsLikely setup event (SawNone key) = ⊤
IsLikely setup event (SawSome key) = ⊤
IsLikely setup event (SawOther key) = ⊤
IsLikely setup event (Listed group resource scope revision whole items selector) = IsLikelyList setup event group resource revision items
IsLikely setup event Free = ⊤
IsLikely setup event Aside = ⊤

-- a list's revision is the one at which it was answered
answered : (tracked : Tracked) (event : Event) (list : ListRead) → answered_list tracked event ≡ Some list → answered_at event ≡ Some list.revision
answered tracked event list e =
    let body = found_both (kept event.response) (list_of tracked event.attrs.name event.attrs.namespace) list e in
    let read = list_is_read tracked event.attrs.name event.attrs.namespace body.0 list body.2 in
    ap (λ o. o >>= member_of (codes "metadata") >>= revision_at (codes "resourceVersion")) body.1
    ∙ ap (λ o. o >>= revision_at (codes "resourceVersion")) read.has
    ∙ read.revision

module _ (setup : Setup) (event : Event) where
  either : (b : Bool) (x y : Answer) → (b ≡ true → IsLikely setup event x) → (b ≡ false → IsLikely setup event y) → IsLikely setup event (if b then x else y)
  either true x y f g = f refl
  either false x y f g = g refl

  module _ (tracked : Tracked) (is_tracked : IsSome (tracked_as setup.resources event.attrs.group event.attrs.resource)) where
    listed_likely : (o : Option ListRead) → answered_list tracked event ≡ o → is_old_list setup Listing event ≡ false → IsLikely setup event (listed tracked event o)
    listed_likely None is young = tt
    listed_likely (Some list) is young = record {
      tracked = is_tracked;
      late = λ continued. not_below (has_filled (codes "continue") event.attrs) (asks_revision (first_value (codes "resourceVersion") event.attrs)) (answered_at event) continued (answered tracked event list is) young;
      answered = (tracked, list, is, refl);
    }
      where
        not_below : (c a : Bool) (o : Option ℕ) → c ≡ true → o ≡ Some list.revision → ((c || a) && is_below setup.start o) ≡ false → setup.start ≤ list.revision
        not_below true a (Some revision) t e h = let same : revision ≡ list.revision = cc in let le : setup.start ≤ revision = omega (arith, ltb-false revision setup.start h) in subst (λ r. setup.start ≤ r) same le
        not_below true a None t e h = absurd (cc)
        not_below false a o t e h = absurd (false≢true t)

    saw_likely : (o : Option SnapshotObject) → IsLikely setup event (saw tracked event o)
    saw_likely None = tt
    saw_likely (Some object) = tt

    young_list : (v : Verb) → v ≡ Listing → (is_read v && (is_odd (first_value (codes "resourceVersion") event.attrs) || is_old_list setup v event)) ≡ false → is_old_list setup Listing event ≡ false
    young_list v e h =
        let h' = subst (λ v. (is_read v && (is_odd (first_value (codes "resourceVersion") event.attrs) || is_old_list setup v event)) ≡ false) e h in
        (or_parts (is_odd (first_value (codes "resourceVersion") event.attrs)) (is_old_list setup Listing event) h').1

    module _ (sight : (is_read (verb_of event.attrs.verb) && is_out_of_sight setup event) ≡ false) where
      read_by_likely : (v : Verb) → verb_of event.attrs.verb ≡ v → IsLikely setup event (read_by v tracked event)
      read_by_likely Create e = tt
      read_by_likely Update e = tt
      read_by_likely Patch e = tt
      read_by_likely Delete e = tt
      read_by_likely DeleteCollection e = tt
      read_by_likely Get e = either (is_empty event.attrs.name) Aside (saw tracked event (answered_object tracked event)) (λ _. tt) (λ _. saw_likely (answered_object tracked event))
      read_by_likely Listing e =
          either (is_own (effect_of tracked event.attrs)) (listed tracked event (answered_list tracked event)) Aside
          (λ _. listed_likely (answered_list tracked event) refl (young_list (verb_of event.attrs.verb) e sight)) (λ _. tt)
      read_by_likely Other e = tt

      read_likely : IsLikely setup event (read_class tracked event)
      read_likely = either (is_code 200 event.status.code) (read_by (verb_of event.attrs.verb) tracked event) Free (λ _. read_by_likely (verb_of event.attrs.verb) refl) (λ _. tt)

      conflict_likely : IsLikely setup event (conflict_class tracked event)
      conflict_likely = either (is_conflict tracked event) _ (read_class tracked event) (λ _. tt) (λ _. read_likely)

      taken_likely : (o : Option (List ℕ)) → IsLikely setup event (taken_class tracked event o)
      taken_likely None = conflict_likely
      taken_likely (Some name) = either (is_taken tracked event name) _ (conflict_class tracked event) (λ _. tt) (λ _. conflict_likely)

      refused_likely : IsLikely setup event (refused_class tracked event)
      refused_likely = either (is_missing tracked event) _ (taken_class tracked event (asked_name event)) (λ _. tt) (λ _. taken_likely (asked_name event))

    later_likely : IsLikely setup event (later_class setup tracked event)
    later_likely =
        either (is_outside setup tracked event) Aside _ (λ _. tt) (λ _.
        either (is_read (verb_of event.attrs.verb) && is_unknown (effect_of tracked event.attrs)) Aside _ (λ _. tt) (λ _.
        either (is_read (verb_of event.attrs.verb) && is_out_of_sight setup event) Aside (refused_class tracked event) (λ _. tt) (λ sight. refused_likely sight)))

    removed_likely : (o : Option (List ℕ)) → IsLikely setup event (removed setup tracked event o)
    removed_likely None = tt
    removed_likely (Some uid) = either (is_early setup event) _ _ (λ _. tt) (λ _. tt)

    made_likely : (o : Option SnapshotObject) → IsLikely setup event (made_class setup tracked event o)
    made_likely None = removed_likely (removed_uid (verb_of event.attrs.verb) event None)
    made_likely (Some object) =
        either (is_done event.status.code && is_made_by (verb_of event.attrs.verb) object.tree) (made setup event object) (removed setup tracked event (removed_uid (verb_of event.attrs.verb) event (Some object)))
        (λ _. either _ (Made object.key object.revision object.uid object.tree (is_code 201 event.status.code)) Aside (λ _. tt) (λ _. tt))
        (λ _. removed_likely (removed_uid (verb_of event.attrs.verb) event (Some object)))

    tracked_likely : IsLikely setup event (tracked_class setup tracked event)
    tracked_likely =
        either (is_dry event) Free _ (λ _. tt) (λ _.
        either (is_idle tracked event) Free _ (λ _. tt) (λ _.
        either (is_write (verb_of event.attrs.verb) && is_before setup event) Aside _ (λ _. tt) (λ _.
        either (is_write (verb_of event.attrs.verb) && is_open event.status.code) (Opaque (cover_of tracked event)) _ (λ _. tt) (λ _.
        either (is_write (verb_of event.attrs.verb) && succeeds event.status.code) (succeeded_class setup tracked event) (later_class setup tracked event)
        (λ _. either (is_hidden setup tracked event) (Opaque (cover_of tracked event)) (made_class setup tracked event (answered_object tracked event)) (λ _. tt) (λ _. made_likely (answered_object tracked event)))
        (λ _. later_likely)))))

  in_likely : (o : Option Tracked) → tracked_of setup event.attrs ≡ o → IsLikely setup event (class_in setup o event)
  in_likely None e = tt
  in_likely (Some tracked) e =
      either (is_completing event.stage) (tracked_class setup tracked event) Aside
      (λ _. tracked_likely tracked (ap is_some (where_true event.attrs.is_resource (tracked_as setup.resources event.attrs.group event.attrs.resource) tracked e).1)) (λ _. tt)

  pub class_likely : IsLikely setup event (class_of setup event)
  class_likely = in_likely (tracked_of setup event.attrs) refl
