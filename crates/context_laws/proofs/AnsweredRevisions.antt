-- The revisions that answers show are revisions of the cluster's sequence.
use Rattle.std.proofs.Common.{◌≡◌, ℕ, ◌-◌, ◌^◌, Bool, true, false, ◌&&◌, ◌||◌, not, List, Option, Some, None, bytes_eq, nat_lt, nat_le, codes, decimal, refl, subst, if◌then◌else◌}
use Rattle.std.specs.Prelude.{⊤}
use Rattle.std.specs.Str.Parse.{digits_value}
use Rattle.std.proofs.lemmas.Bool.{and_parts, leb-true, ltb-true}
use Rattle.base_types.specs.Revisions.{IsRevision, revision_of, spells_revision}
use Rattle.base_types.specs.Meaning.{Meaning}
use Rattle.base_types.specs.Parts.{member_of}
use Rattle.base_types.specs.Texts.{text_at, filled_at, revision_at}
use Rattle.audit_event.specs.Bodies.{kept}
use Rattle.audit_event.specs.declared.event.Event.{Event}
use Rattle.base_types.proofs.Found.{found_both, same_some, where_true}
use Rattle.setup_file.specs.Lists.{list_of}
use Rattle.setup_file.specs.Objects.{is_in_namespace, is_of_kind, is_under, namespace_in, object_of}
use Rattle.setup_file.specs.Requests.{tracked_of}
use Rattle.setup_file.specs.declared.lists.ListRead.{ListRead}
use Rattle.setup_file.specs.declared.setup.Setup.{Setup}
use Rattle.setup_file.specs.declared.setup.SnapshotObject.{SnapshotObject}
use Rattle.setup_file.specs.declared.setup.Tracked.{Tracked}
use Rattle.answer_class.specs.Bodies.{answered_object}
use Rattle.answer_class.specs.Classes.{asked_name, class_in, class_of, conflict_class, is_conflict, is_dry, is_hidden, is_idle, is_made_by, is_missing, is_outside, is_out_of_sight, is_taken, later_class, listed, made, made_class, read_by, read_class, refused_class, removed, removed_uid, saw, succeeded_class, taken_class, tracked_class}
use Rattle.answer_class.specs.Covers.{cover_of}
use Rattle.answer_class.specs.Lists.{answered_list}
use Rattle.answer_class.specs.Requests.{effect_of, is_code, is_completing, is_done, is_empty, is_open, is_own, is_read, is_unknown, is_write, succeeds, verb_of}
use Rattle.answer_class.specs.Times.{is_before, is_early}
use Rattle.answer_class.specs.declared.answer.Answer.{Answer}
use Rattle.answer_class.specs.declared.answer.Answer.TheVariants.{Made, Removed, Opaque, Saw, SawNone, SawSome, SawOther, Listed, Free, Aside}
use Rattle.answer_class.specs.declared.request.Verb.{Verb}
use Rattle.answer_class.specs.declared.request.Verb.TheVariants.{Create, Update, Patch, Delete, DeleteCollection, Get, Listing, Other}
use Rattle.page_chains.proofs.ListLemmas.{list_is_read}

-- what a text spells
text_revision : (text : List ℕ) (revision : ℕ) → revision_of text ≡ Some revision → IsRevision revision
text_revision text revision e =
    let number = digits_value 10 text in
    let spelled = where_true (spells_revision text number) (Some number) revision e in
    let parts = and_parts (nat_lt 0 number && nat_le number (2 ^ 64 - 2)) (bytes_eq text (decimal number)) spelled.0 in
    let within = and_parts (nat_lt 0 number) (nat_le number (2 ^ 64 - 2)) parts.0 in
    subst IsRevision (same_some number revision spelled.1) (ltb-true 0 number within.0, leb-true number (2 ^ 64 - 2) within.1)

pub member_revision : (name : List ℕ) (tree : Meaning) (revision : ℕ) → revision_at name tree ≡ Some revision → IsRevision revision
member_revision name tree revision e = let text = found_both (text_at name tree) revision_of revision e in text_revision text.0 revision text.2

object_revision : (tracked : Tracked) (name namespace : List ℕ) (tree : Meaning) (object : SnapshotObject) → object_of tracked name namespace tree ≡ Some object → IsRevision object.revision
object_revision tracked name namespace tree object e =
    let metadata = found_both (member_of (codes "metadata") tree) _ object e in
    let own_name = found_both (filled_at (codes "name") metadata.0) _ object metadata.2 in
    let uid = found_both (filled_at (codes "uid") metadata.0) _ object own_name.2 in
    let revision = found_both (revision_at (codes "resourceVersion") metadata.0) _ object uid.2 in
    let own_namespace = found_both (namespace_in tracked metadata.0) _ object revision.2 in
    let fits = where_true (is_of_kind tracked tree && is_under name own_name.0 && is_in_namespace tracked namespace own_namespace.0) _ object own_namespace.2 in
    subst (λ (found : SnapshotObject). IsRevision found.revision) (same_some _ object fits.1) (member_revision (codes "resourceVersion") metadata.0 revision.0 revision.1)

pub list_revision : (tracked : Tracked) (name namespace : List ℕ) (tree : Meaning) (list : ListRead) → list_of tracked name namespace tree ≡ Some list → IsRevision list.revision
list_revision tracked name namespace tree list e =
    let read = list_is_read tracked name namespace tree list e in
    member_revision (codes "resourceVersion") read.metadata list.revision read.revision

-- the revision of what a write made, or of a list
abbrev pub ShowsRevision : Answer → Type 0
ShowsRevision (Made key revision uid object created) = IsRevision revision
ShowsRevision (Removed key uid) = ⊤
ShowsRevision (Opaque cover) = ⊤
ShowsRevision (Saw key revision uid object) = ⊤
ShowsRevision (SawNone key) = ⊤
ShowsRevision (SawSome key) = ⊤
ShowsRevision (SawOther key) = ⊤
ShowsRevision (Listed group resource scope revision whole items selector) = IsRevision revision
ShowsRevision Free = ⊤
ShowsRevision Aside = ⊤

one_of : (b : Bool) (x y : Answer) → ShowsRevision x → ShowsRevision y → ShowsRevision (if b then x else y)
one_of true x y f g = f
one_of false x y f g = g

module _ (setup : Setup) (event : Event) (tracked : Tracked) where
  listed_shows : (o : Option ListRead) → answered_list tracked event ≡ o → ShowsRevision (listed tracked event o)
  listed_shows None e = tt
  listed_shows (Some list) e =
      let body = found_both (kept event.response) (list_of tracked event.attrs.name event.attrs.namespace) list e in
      list_revision tracked event.attrs.name event.attrs.namespace body.0 list body.2

  saw_shows : (o : Option SnapshotObject) → ShowsRevision (saw tracked event o)
  saw_shows None = tt
  saw_shows (Some object) = tt

  read_by_shows : (verb : Verb) → ShowsRevision (read_by verb tracked event)
  read_by_shows Create = tt
  read_by_shows Update = tt
  read_by_shows Patch = tt
  read_by_shows Delete = tt
  read_by_shows DeleteCollection = tt
  read_by_shows Get = one_of (is_empty event.attrs.name) Aside (saw tracked event (answered_object tracked event)) tt (saw_shows (answered_object tracked event))
  read_by_shows Listing = one_of (is_own (effect_of tracked event.attrs)) (listed tracked event (answered_list tracked event)) Aside (listed_shows (answered_list tracked event) refl) tt
  read_by_shows Other = tt

  read_shows : ShowsRevision (read_class tracked event)
  read_shows = one_of (is_code 200 event.status.code) (read_by (verb_of event.attrs.verb) tracked event) Free (read_by_shows (verb_of event.attrs.verb)) tt

  conflict_shows : ShowsRevision (conflict_class tracked event)
  conflict_shows = one_of (is_conflict tracked event) _ (read_class tracked event) tt read_shows

  taken_shows : (o : Option (List ℕ)) → ShowsRevision (taken_class tracked event o)
  taken_shows None = conflict_shows
  taken_shows (Some name) = one_of (is_taken tracked event name) _ (conflict_class tracked event) tt conflict_shows

  refused_shows : ShowsRevision (refused_class tracked event)
  refused_shows = one_of (is_missing tracked event) _ (taken_class tracked event (asked_name event)) tt (taken_shows (asked_name event))

  later_shows : ShowsRevision (later_class setup tracked event)
  later_shows =
      one_of (is_outside setup tracked event) Aside _ tt
      (one_of (is_read (verb_of event.attrs.verb) && is_unknown (effect_of tracked event.attrs)) Aside _ tt
      (one_of (is_read (verb_of event.attrs.verb) && is_out_of_sight setup event) Aside (refused_class tracked event) tt refused_shows))

  removed_shows : (o : Option (List ℕ)) → ShowsRevision (removed setup tracked event o)
  removed_shows None = tt
  removed_shows (Some uid) = one_of (is_early setup event) _ _ tt tt

  made_shows : (object : SnapshotObject) → IsRevision object.revision → ShowsRevision (made setup event object)
  made_shows object is = one_of (nat_lt setup.start object.revision || not (is_early setup event)) (Made object.key object.revision object.uid object.tree (is_code 201 event.status.code)) Aside is tt

  written_shows : (o : Option SnapshotObject) → answered_object tracked event ≡ o → ShowsRevision (made_class setup tracked event o)
  written_shows None e = removed_shows (removed_uid (verb_of event.attrs.verb) event None)
  written_shows (Some object) e =
      let body = found_both (kept event.response) (object_of tracked event.attrs.name event.attrs.namespace) object e in
      let is = object_revision tracked event.attrs.name event.attrs.namespace body.0 object body.2 in
      let uid = removed_uid (verb_of event.attrs.verb) event (Some object) in
      one_of (is_done event.status.code && is_made_by (verb_of event.attrs.verb) object.tree) (made setup event object) (removed setup tracked event uid) (made_shows object is) (removed_shows uid)

  succeeded_shows : ShowsRevision (succeeded_class setup tracked event)
  succeeded_shows = one_of (is_hidden setup tracked event) (Opaque (cover_of tracked event)) (made_class setup tracked event (answered_object tracked event)) tt (written_shows (answered_object tracked event) refl)

  tracked_shows : ShowsRevision (tracked_class setup tracked event)
  tracked_shows =
      one_of (is_dry event) Free _ tt
      (one_of (is_idle tracked event) Free _ tt
      (one_of (is_write (verb_of event.attrs.verb) && is_before setup event) Aside _ tt
      (one_of (is_write (verb_of event.attrs.verb) && is_open event.status.code) (Opaque (cover_of tracked event)) _ tt
      (one_of (is_write (verb_of event.attrs.verb) && succeeds event.status.code) (succeeded_class setup tracked event) (later_class setup tracked event) succeeded_shows later_shows))))

class_shows : (setup : Setup) (event : Event) (o : Option Tracked) → ShowsRevision (class_in setup o event)
class_shows setup event None = tt
class_shows setup event (Some tracked) = one_of (is_completing event.stage) (tracked_class setup tracked event) Aside (tracked_shows setup event tracked) tt

pub shows_revision : (setup : Setup) (event : Event) → ShowsRevision (class_of setup event)
shows_revision setup event = class_shows setup event (tracked_of setup event.attrs)
