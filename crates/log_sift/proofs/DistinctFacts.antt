-- Kept events, of which no two are of one request and stage.
use Rattle.std.proofs.Common.{◌≡◌, ℕ, ◌<◌, ◌≤◌, ◌⊎◌, inl, inr, List, length, get_or, Result, Ok, Err, sym, ◌∙◌, ap, subst, arith}
use Rattle.std.specs.List.{AllPairs}
use Rattle.std.proofs.lemmas.Bool.{cases_lt}
use Rattle.std.proofs.lemmas.List.{get_or_default}
use Rattle.std.proofs.lemmas.List.Elements.{All-contains}
use Rattle.std.proofs.lemmas.List.Quantifiers.{all_pairs_push}
use Rattle.audit_event.specs.declared.event.Event.{Event}
use Rattle.audit_event.specs.Keeping.{AreOfOneStage, SameButLine, WasKept}
use Rattle.log_intake.specs.Log.{Differs, IsNew, Repeats}
use Rattle.log_sift.specs.declared.answer.LeftCause.{LeftCause}
use Rattle.log_sift.specs.Sift.{KeepsEvent}

abbrev pub IsDistinct : List Event → Type 0
IsDistinct kept = AllPairs (λ a b. ¬ AreOfOneStage a b) kept

-- of two kept events of one request and stage none is before the other
not_before : (kept : List Event) (event e f : Event) (i j : ℕ) → IsDistinct kept → i < j → j < length kept → get_or kept i e ≡ e → get_or kept j f ≡ f → AreOfOneStage e event → AreOfOneStage f event → ⊥
not_before kept event e f i j distinct below within first second one other =
    let there : get_or kept j e ≡ f = get_or_default kept j e f within ∙ second in
    distinct i j e below within (subst (λ x. AreOfOneStage x (get_or kept j e)) (sym first) (subst (λ x. AreOfOneStage e x) (sym there) (one ∙ sym other)))

-- one kept event is of a request and stage
same_found : (kept : List Event) (event e f : Event) → IsDistinct kept → WasKept kept event e → WasKept kept event f → e ≡ f
same_found kept event e f distinct a b = go (cases_lt a.among.0 b.among.0)
  where
    go : (a.among.0 < b.among.0) ⊎ (b.among.0 ≤ a.among.0) → e ≡ f
    go (inl below) = absurd (not_before kept event e f a.among.0 b.among.0 distinct below b.among.1 a.among.2 b.among.2 a.one b.one)
    go (inr above) = elim (cases_lt b.among.0 a.among.0) [
      | inl below ↦ absurd (not_before kept event f e b.among.0 a.among.0 distinct below a.among.1 b.among.2 a.among.2 b.one a.one)
      | inr level ↦ (let same : a.among.0 ≡ b.among.0 = omega (arith, above, level) in
          sym a.among.2 ∙ ap (λ k. get_or kept k e) same ∙ get_or_default kept b.among.0 e f b.among.1 ∙ b.among.2)
    ]

pub event_keeps : (kept after : List Event) (event : Event) → IsDistinct kept → KeepsEvent kept event (Ok after) → IsDistinct after
event_keeps kept after event distinct (inl (new, is)) = subst IsDistinct (sym is) (all_pairs_push (λ a b. ¬ AreOfOneStage a b) kept event distinct new)
event_keeps kept after event distinct (inr (repeats, is)) = subst IsDistinct (sym is) distinct

-- no new event is of the request and stage of a kept one
not_new : (kept : List Event) (event earlier : Event) → IsNew kept event → WasKept kept event earlier → ⊥
not_new kept event earlier new was = All-contains (λ other. ¬ AreOfOneStage other event) kept earlier new was.among was.one

not_both : (kept : List Event) (event : Event) → IsDistinct kept → Repeats kept event → Differs kept event → ⊥
not_both kept event distinct repeats differs =
    let same = same_found kept event repeats.0 differs.0 distinct repeats.1 differs.1 in
    differs.2 (subst (λ e. SameButLine e event) same repeats.2)

pub event_once : (kept : List Event) (event : Event) (a b : Result (List Event) LeftCause) → IsDistinct kept → KeepsEvent kept event a → KeepsEvent kept event b → a ≡ b
event_once kept event (Ok a) (Ok b) distinct (inl x) (inl y) = ap Ok (x.1 ∙ sym y.1)
event_once kept event (Ok a) (Ok b) distinct (inl x) (inr y) = absurd (not_new kept event y.0.0 x.0 y.0.1)
event_once kept event (Ok a) (Ok b) distinct (inr x) (inl y) = absurd (not_new kept event x.0.0 y.0 x.0.1)
event_once kept event (Ok a) (Ok b) distinct (inr x) (inr y) = ap Ok (x.1 ∙ sym y.1)
event_once kept event (Ok a) (Err b) distinct (inl x) y = absurd (not_new kept event y.0.0 x.0 y.0.1)
event_once kept event (Ok a) (Err b) distinct (inr x) y = absurd (not_both kept event distinct x.0 y.0)
event_once kept event (Err a) (Ok b) distinct x (inl y) = absurd (not_new kept event x.0.0 y.0 x.0.1)
event_once kept event (Err a) (Ok b) distinct x (inr y) = absurd (not_both kept event distinct y.0 x.0)
event_once kept event (Err a) (Err b) distinct x y = ap Err (x.1 ∙ sym y.1)
