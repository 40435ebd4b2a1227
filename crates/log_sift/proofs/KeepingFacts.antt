-- What the events of a line leave of the kept ones.
use Rattle.std.proofs.Common.{◌≡◌, ℕ, ◌≤◌, inl, inr, List, [], ◌∷◌, ◌++◌, length, Option, Some, None, Result, Ok, Err, IfOk, Bool, true, refl, sym, ap, subst, ◌∙◌, append_assoc}
use Rattle.std.proofs.lemmas.List.{append-nil}
use Rattle.std.specs.Map.{lookup}
use Rattle.line_reader.specs.Lines.{longest_line}
use Rattle.audit_event.specs.declared.event.Event.{Event}
use Rattle.audit_event.specs.Keeping.{WasKept}
use Rattle.batch_decode.specs.declared.decoded.Decoded.{Decoded}
use Rattle.batch_decode.specs.Batches.{IsDecoded}
use Rattle.log_intake.specs.Steps.{InOrder}
use Rattle.log_intake.proofs.StepFacts.{in_order_push, in_order_stopped}
use Rattle.log_sift.specs.declared.answer.LeftCause.{LeftCause}
use Rattle.log_sift.specs.declared.recalling.EventIdentity.{EventIdentity}
use Rattle.log_sift.specs.Recalling.{Compares, Moves, Steps, entries_of, identity_of}
use Rattle.log_sift.specs.Sift.{KeepsDecoded, KeepsEvent, KeepsLine}
use Rattle.log_sift.proofs.FoundFacts.{IsFound, absent, entries_push, found, one_stage}

abbrev Entry : Type 0
Entry = EventIdentity × Event

pub if_ok : {T E : Type 0} (answer : Result T E) (P Q : T → Type 0) → ((value : T) → P value → Q value) → IfOk answer P → IfOk answer Q
if_ok {T} {E} (Ok value) P Q then p = then value p
if_ok {T} {E} (Err fault) P Q then p = tt

-- an event whose identity is found, as it compares with the event that was kept under it
pub compared : (eq : EventIdentity → EventIdentity → Bool) → ((x y : EventIdentity) → eq x y ≡ true → x ≡ y) → (entries : List Entry) (identity : EventIdentity) (earlier event : Event) (cause : Option LeftCause)
    → lookup (eq identity) entries ≡ Some earlier → identity ≡ identity_of event → Compares earlier event cause → Moves entries entries (λ kept. KeepsEvent kept event) cause
compared eq means entries identity earlier event cause there is compares = record {
  more = [];
  grows = sym (append-nil entries);
  steps = λ kept are. by cause kept are (found eq means identity earlier kept (subst (λ es. lookup (eq identity) es ≡ Some earlier) are there)) compares;
}
  where
    by : (cause : Option LeftCause) (kept : List Event) → entries ≡ entries_of kept → IsFound kept identity earlier → Compares earlier event cause → Steps entries (KeepsEvent kept event) cause
    by None kept are at compares =
        let was : WasKept kept event earlier = record { among = at.among; one = one_stage earlier event (sym at.is ∙ is) } in
        (kept, are, inr ((earlier, was, compares), refl))
    by (Some cause) kept are at compares =
        let was : WasKept kept event earlier = record { among = at.among; one = one_stage earlier event (sym at.is ∙ is) } in
        ((earlier, was, compares.0), compares.1)

-- an event whose identity isn't found
pub kept_new : (eq : EventIdentity → EventIdentity → Bool) → ((x y : EventIdentity) → x ≡ y → eq x y ≡ true) → (entries after : List Entry) (identity : EventIdentity) (event : Event)
    → lookup (eq identity) entries ≡ None → identity ≡ identity_of event → after ≡ entries ++ (identity, event) ∷ [] → Moves entries after (λ kept. KeepsEvent kept event) None
kept_new eq tells entries after identity event none is grows = record {
  more = (identity, event) ∷ [];
  grows = grows;
  steps = λ kept are. (
    kept ++ event ∷ [],
    grows ∙ (λ i. are i ++ (is i, event) ∷ []) ∙ sym (entries_push kept event),
    inl (absent eq tells event kept (subst (λ es. lookup (eq (identity_of event)) es ≡ None) are (subst (λ i. lookup (eq i) entries ≡ None) is none)), refl),
  );
}

grows_both : (a b c first second : List Entry) → b ≡ a ++ first → c ≡ b ++ second → c ≡ a ++ (first ++ second)
grows_both a b c first second x y = y ∙ ap (λ es. es ++ second) x ∙ append_assoc a first second

-- the next event
pub moves_push : (a b c : List Entry) (done : List Event) (event : Event) → Moves a b (λ kept. InOrder KeepsEvent kept done) None
    → Moves b c (λ kept. KeepsEvent kept event) None → Moves a c (λ kept. InOrder KeepsEvent kept (done ++ event ∷ [])) None
moves_push a b c done event first second = record {
  more = first.more ++ second.more;
  grows = grows_both a b c first.more second.more first.grows second.grows;
  steps = λ kept are.
      let middle = first.steps kept are in
      let last = second.steps middle.0 middle.1 in
      (last.0, last.1, in_order_push KeepsEvent kept middle.0 last.0 done event middle.2 last.2);
}

-- an event that isn't kept, whatever comes behind it
pub moves_stopped : (a b c : List Entry) (done more all : List Event) (event : Event) (cause : LeftCause) → Moves a b (λ kept. InOrder KeepsEvent kept done) None
    → Moves b c (λ kept. KeepsEvent kept event) (Some cause) → all ≡ done ++ event ∷ more → Moves a c (λ kept. InOrder KeepsEvent kept all) (Some cause)
moves_stopped a b c done more all event cause first second is = record {
  more = first.more ++ second.more;
  grows = grows_both a b c first.more second.more first.grows second.grows;
  steps = λ kept are.
      let middle = first.steps kept are in
      let stopped = second.steps middle.0 middle.1 in
      subst (λ events. InOrder KeepsEvent kept events (Err cause)) (sym is) (in_order_stopped KeepsEvent kept middle.0 done more event cause middle.2 stopped);
}

-- a line that is decoded
pub line_decoded : (a b : List Entry) (line : List ℕ) (decoded : Decoded) (cause : Option LeftCause) → length line ≤ longest_line → IsDecoded line decoded
    → Moves a b (λ kept. KeepsDecoded kept decoded) cause → Moves a b (λ kept. KeepsLine kept line) cause
line_decoded a b line decoded None short is moves = record {
  more = moves.more;
  grows = moves.grows;
  steps = λ kept are. let next = moves.steps kept are in (next.0, next.1, inr (short, (decoded, is, next.2)));
}
line_decoded a b line decoded (Some cause) short is moves = record {
  more = moves.more;
  grows = moves.grows;
  steps = λ kept are. inr (short, (decoded, is, moves.steps kept are));
}
