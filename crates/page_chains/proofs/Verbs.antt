-- An event of another verb than `list` is no page, whatever else it says.
use Rattle.std.proofs.Common.{◌≡◌, ℕ, Bool, true, false, ◌&&◌, List, Option, Some, None, refl, sym, ap, if◌then◌else◌, codes}
use Rattle.std.specs.Prelude.{bytes_eq}
use Rattle.std.proofs.lemmas.Bool.{true≢false}
use Rattle.audit_event.specs.declared.event.Event.{Event}
use Rattle.setup_file.specs.declared.setup.Setup.{Setup}
use Rattle.setup_file.specs.declared.setup.SnapshotObject.{SnapshotObject}
use Rattle.setup_file.specs.declared.setup.Tracked.{Tracked}
use Rattle.setup_file.specs.Requests.{tracked_of}
use Rattle.answer_class.specs.Bodies.{answered_object}
use Rattle.answer_class.specs.Covers.{cover_of}
use Rattle.answer_class.specs.Requests.{verb_of, is_write, is_read, is_completing, effect_of, is_unknown, succeeds, is_code, is_done, is_open, is_empty}
use Rattle.answer_class.specs.Table.{is_list}
use Rattle.answer_class.specs.Times.{is_early, is_before}
use Rattle.answer_class.specs.Classes.{saw, read_by, read_class, is_missing, asked_name, is_taken, is_conflict, conflict_class, taken_class, refused_class, is_outside, is_out_of_sight, later_class, removed_uid, removed, is_made_by, made, made_class, is_hidden, is_dry, is_idle, succeeded_class, tracked_class, class_in, class_of}
use Rattle.answer_class.specs.declared.answer.Answer.{Answer}
use Rattle.answer_class.specs.declared.answer.Answer.TheVariants.{Made, Opaque, Free, Aside}
use Rattle.answer_class.specs.declared.request.Verb.{Verb}
use Rattle.answer_class.specs.declared.request.Verb.TheVariants.{Create, Update, Patch, Delete, DeleteCollection, Get, Listing, Other}
use Rattle.page_chains.specs.Pages.{is_selective, page_in}
use Rattle.page_chains.specs.Parts.{part_in, part_of}

-- the verbs before it in the table are no lists either
other_verb : (a b c d e f g : Bool) → g ≡ false
    → is_list (if a then Create else (if b then Update else (if c then Patch else (if d then Delete else (if e then DeleteCollection else (if f then Get else (if g then Listing else Other))))))) ≡ false
other_verb true b c d e f g no_list = refl
other_verb false true c d e f g no_list = refl
other_verb false false true d e f g no_list = refl
other_verb false false false true e f g no_list = refl
other_verb false false false false true f g no_list = refl
other_verb false false false false false true g no_list = refl
other_verb false false false false false false true no_list = absurd (true≢false no_list)
other_verb false false false false false false false no_list = refl

verb_apart : (text : List ℕ) → bytes_eq text (codes "list") ≡ false → is_list (verb_of text) ≡ false
verb_apart text no_list =
    other_verb (bytes_eq text (codes "create")) (bytes_eq text (codes "update")) (bytes_eq text (codes "patch")) (bytes_eq text (codes "delete"))
    (bytes_eq text (codes "deletecollection")) (bytes_eq text (codes "get")) (bytes_eq text (codes "list")) no_list

module _ (setup : Setup) (event : Event) where
  abbrev IsNoPage : Answer → Type 0
  IsNoPage answer = page_in event answer ≡ None

  either : (b : Bool) (x y : Answer) → IsNoPage x → IsNoPage y → IsNoPage (if b then x else y)
  either true x y f g = f
  either false x y f g = g

  module _ (tracked : Tracked) where
    saw_apart : (o : Option SnapshotObject) → IsNoPage (saw tracked event o)
    saw_apart None = refl
    saw_apart (Some object) = refl

    read_by_apart : (v : Verb) → is_list v ≡ false → IsNoPage (read_by v tracked event)
    read_by_apart Create no_list = refl
    read_by_apart Update no_list = refl
    read_by_apart Patch no_list = refl
    read_by_apart Delete no_list = refl
    read_by_apart DeleteCollection no_list = refl
    read_by_apart Get no_list = either (is_empty event.attrs.name) Aside (saw tracked event (answered_object tracked event)) refl (saw_apart (answered_object tracked event))
    read_by_apart Listing no_list = absurd (true≢false no_list)
    read_by_apart Other no_list = refl

    removed_apart : (o : Option (List ℕ)) → IsNoPage (removed setup tracked event o)
    removed_apart None = refl
    removed_apart (Some uid) = either (is_early setup event) _ _ refl refl

    made_apart : (o : Option SnapshotObject) → IsNoPage (made_class setup tracked event o)
    made_apart None = removed_apart (removed_uid (verb_of event.attrs.verb) event None)
    made_apart (Some object) =
        either (is_done event.status.code && is_made_by (verb_of event.attrs.verb) object.tree) (made setup event object) (removed setup tracked event (removed_uid (verb_of event.attrs.verb) event (Some object)))
        (either _ (Made object.key object.revision object.uid object.tree (is_code 201 event.status.code)) Aside refl refl)
        (removed_apart (removed_uid (verb_of event.attrs.verb) event (Some object)))

    module _ (no_list : bytes_eq event.attrs.verb (codes "list") ≡ false) where
      read_apart : IsNoPage (read_class tracked event)
      read_apart =
          either (is_code 200 event.status.code) (read_by (verb_of event.attrs.verb) tracked event) Free
          (read_by_apart (verb_of event.attrs.verb) (verb_apart event.attrs.verb no_list)) refl

      conflict_apart : IsNoPage (conflict_class tracked event)
      conflict_apart = either (is_conflict tracked event) _ (read_class tracked event) refl read_apart

      taken_apart : (o : Option (List ℕ)) → IsNoPage (taken_class tracked event o)
      taken_apart None = conflict_apart
      taken_apart (Some name) = either (is_taken tracked event name) _ (conflict_class tracked event) refl conflict_apart

      refused_apart : IsNoPage (refused_class tracked event)
      refused_apart = either (is_missing tracked event) _ (taken_class tracked event (asked_name event)) refl (taken_apart (asked_name event))

      later_apart : IsNoPage (later_class setup tracked event)
      later_apart =
          either (is_outside setup tracked event) Aside _ refl
          (either (is_read (verb_of event.attrs.verb) && is_unknown (effect_of tracked event.attrs)) Aside _ refl
          (either (is_read (verb_of event.attrs.verb) && is_out_of_sight setup event) Aside (refused_class tracked event) refl refused_apart))

      tracked_apart : IsNoPage (tracked_class setup tracked event)
      tracked_apart =
          either (is_dry event) Free _ refl
          (either (is_idle tracked event) Free _ refl
          (either (is_write (verb_of event.attrs.verb) && is_before setup event) Aside _ refl
          (either (is_write (verb_of event.attrs.verb) && is_open event.status.code) (Opaque (cover_of tracked event)) _ refl
          (either (is_write (verb_of event.attrs.verb) && succeeds event.status.code) (succeeded_class setup tracked event) (later_class setup tracked event)
          (either (is_hidden setup tracked event) (Opaque (cover_of tracked event)) (made_class setup tracked event (answered_object tracked event)) refl (made_apart (answered_object tracked event)))
          later_apart))))

  module _ (no_list : bytes_eq event.attrs.verb (codes "list") ≡ false) where
    in_apart : (o : Option Tracked) → IsNoPage (class_in setup o event)
    in_apart None = refl
    in_apart (Some tracked) = either (is_completing event.stage) (tracked_class setup tracked event) Aside (tracked_apart tracked no_list) refl

    pub unlisted : page_in event (class_of setup event) ≡ None
    unlisted = in_apart (tracked_of setup event.attrs)

    pub unlisted_part : None ≡ part_of setup event
    unlisted_part = by_selector (is_selective event.attrs)
      where
        by_selector : (b : Bool) → None ≡ part_in (if b then None else page_in event (class_of setup event))
        by_selector true = refl
        by_selector false = ap part_in (sym unlisted)
