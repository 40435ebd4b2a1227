-- A log reads as one list of events, or is refused in one way.
use Rattle.std.proofs.Common.{◌≡◌, ℕ, ◌+◌, ◌-◌, ◌<◌, ◌≤◌, ◌⊎◌, inl, inr, List, [], ◌∷◌, ◌++◌, length, get_or, take, Option, Some, None, Result, Ok, Err, sym, ◌∙◌, ap, subst, arith, length-append}
use Rattle.std.specs.List.{AllPairs}
use Rattle.std.proofs.Math.ListN.{get_or-append}
use Rattle.std.proofs.Math.Seq.{get_or-append_seam}
use Rattle.std.proofs.lemmas.Bool.{cases_lt}
use Rattle.std.proofs.lemmas.List.{get_or_default}
use Rattle.std.proofs.lemmas.List.Elements.{All-contains}
use Rattle.audit_event.specs.declared.event.Event.{Event}
use Rattle.audit_event.specs.Keeping.{AreOfOneStage, SameButLine, WasKept}
use Rattle.batch_decode.specs.declared.decoded.Decoded.{Decoded}
use Rattle.batch_decode.specs.declared.decoded.ItemFault.{ItemFault}
use Rattle.batch_decode.proofs.Alone.{one_decoding}
use Rattle.line_reader.specs.Lines.{NumberedLine, lines_from}
use Rattle.log_intake.specs.declared.stop.LogStop.{LogStop}
use Rattle.log_intake.specs.Log.{Differs, IsLogRead, IsNew, LogState, Repeats, TakesDecoded, TakesEvent, TakesLine, behind_events, cut_lines, kept_of, most_input, nothing_read, numbered_events, past_limit, unless_fault}
use Rattle.log_intake.specs.Steps.{InOrder}
use Rattle.log_intake.proofs.StepFacts.{in_order_keeps, in_order_once}

abbrev IsDistinct : List Event → Type 0
IsDistinct kept = AllPairs (λ a b. ¬ AreOfOneStage a b) kept

-- the event at a place, whatever stands for one that is missing
at_place : (kept : List Event) (e d : Event) (k : ℕ) → k < length kept → get_or kept k e ≡ e → get_or kept k d ≡ e
at_place kept e d k within is = get_or_default kept k d e within ∙ is

-- of two kept events of one request and stage none is before the other
not_before : (kept : List Event) (event e f : Event) (i j : ℕ) → IsDistinct kept → i < j → j < length kept → get_or kept i e ≡ e → get_or kept j f ≡ f → AreOfOneStage e event → AreOfOneStage f event → ⊥
not_before kept event e f i j distinct below within first second one other =
    let here : get_or kept i e ≡ e = first in
    let there : get_or kept j e ≡ f = at_place kept f e j within second in
    distinct i j e below within (subst (λ x. AreOfOneStage x (get_or kept j e)) (sym here) (subst (λ x. AreOfOneStage e x) (sym there) (one ∙ sym other)))

-- one kept event is of a request and stage
same_found : (kept : List Event) (event e f : Event) → IsDistinct kept → WasKept kept event e → WasKept kept event f → e ≡ f
same_found kept event e f distinct a b = go (cases_lt a.among.0 b.among.0)
  where
    go : (a.among.0 < b.among.0) ⊎ (b.among.0 ≤ a.among.0) → e ≡ f
    go (inl below) = absurd (not_before kept event e f a.among.0 b.among.0 distinct below b.among.1 a.among.2 b.among.2 a.one b.one)
    go (inr above) = elim (cases_lt b.among.0 a.among.0) [
      | inl below ↦ absurd (not_before kept event f e b.among.0 a.among.0 distinct below a.among.1 b.among.2 a.among.2 b.one a.one)
      | inr level ↦ (let same : a.among.0 ≡ b.among.0 = omega (arith, above, level) in
          sym a.among.2 ∙ ap (λ k. get_or kept k e) same ∙ at_place kept f e b.among.0 b.among.1 b.among.2)
    ]

push : (kept : List Event) (event : Event) → IsDistinct kept → IsNew kept event → IsDistinct (kept ++ event ∷ [])
push xs y pairs last i j d below within =
    let long = length-append xs (y ∷ []) in
    elim (cases_lt j (length xs)) [
      | inl inside ↦ (
          let first : get_or (xs ++ y ∷ []) i d ≡ get_or xs i d = get_or-append xs (y ∷ []) d i (omega arith) in
          let second : get_or (xs ++ y ∷ []) j d ≡ get_or xs j d = get_or-append xs (y ∷ []) d j inside in
          subst (λ a. ¬ AreOfOneStage a (get_or (xs ++ y ∷ []) j d)) (sym first) (subst (λ b. ¬ AreOfOneStage (get_or xs i d) b) (sym second) (pairs i j d below inside)))
      | inr past ↦ (
          let end : j ≡ length xs = omega arith in
          let first : get_or (xs ++ y ∷ []) i d ≡ get_or xs i d = get_or-append xs (y ∷ []) d i (omega arith) in
          let second : get_or (xs ++ y ∷ []) j d ≡ y = ap (λ n. get_or (xs ++ y ∷ []) n d) end ∙ get_or-append_seam xs y [] d in
          subst (λ a. ¬ AreOfOneStage a (get_or (xs ++ y ∷ []) j d)) (sym first) (subst (λ b. ¬ AreOfOneStage (get_or xs i d) b) (sym second) (last i d (omega arith))))
    ]

event_keeps : (kept after : List Event) (event : Event) → IsDistinct kept → TakesEvent kept event (Ok after) → IsDistinct after
event_keeps kept after event distinct (inl (new, room, is)) = subst IsDistinct (sym is) (push kept event distinct new)
event_keeps kept after event distinct (inr (repeats, is)) = subst IsDistinct (sym is) distinct

-- no new event is of the request and stage of a kept one
not_new : (kept : List Event) (event earlier : Event) → IsNew kept event → WasKept kept event earlier → ⊥
not_new kept event earlier new was = All-contains (λ other. ¬ AreOfOneStage other event) kept earlier new was.among was.one

not_both : (kept : List Event) (event : Event) → IsDistinct kept → Repeats kept event → Differs kept event → ⊥
not_both kept event distinct repeats differs =
    let same = same_found kept event repeats.0 differs.0 distinct repeats.1 differs.1 in
    differs.2 (subst (λ e. SameButLine e event) same repeats.2)

event_once : (kept : List Event) (event : Event) (a b : Result (List Event) LogStop) → IsDistinct kept → TakesEvent kept event a → TakesEvent kept event b → a ≡ b
event_once kept event (Ok a) (Ok b) distinct (inl x) (inl y) = ap Ok (x.2 ∙ sym y.2)
event_once kept event (Ok a) (Ok b) distinct (inl x) (inr y) = absurd (not_new kept event y.0.0 x.0 y.0.1)
event_once kept event (Ok a) (Ok b) distinct (inr x) (inl y) = absurd (not_new kept event x.0.0 y.0 x.0.1)
event_once kept event (Ok a) (Ok b) distinct (inr x) (inr y) = ap Ok (x.1 ∙ sym y.1)
event_once kept event (Ok a) (Err b) distinct (inl x) (inl y) = absurd (not_new kept event y.0.0 x.0 y.0.1)
event_once kept event (Ok a) (Err b) distinct (inl x) (inr y) = absurd (let few = x.1 in let many = y.1 in omega (arith, few, many))
event_once kept event (Ok a) (Err b) distinct (inr x) (inl y) = absurd (not_both kept event distinct x.0 y.0)
event_once kept event (Ok a) (Err b) distinct (inr x) (inr y) = absurd (not_new kept event x.0.0 y.0 x.0.1)
event_once kept event (Err a) (Ok b) distinct (inl x) (inl y) = absurd (not_new kept event x.0.0 y.0 x.0.1)
event_once kept event (Err a) (Ok b) distinct (inr x) (inl y) = absurd (let few = y.1 in let many = x.1 in omega (arith, few, many))
event_once kept event (Err a) (Ok b) distinct (inl x) (inr y) = absurd (not_both kept event distinct y.0 x.0)
event_once kept event (Err a) (Ok b) distinct (inr x) (inr y) = absurd (not_new kept event y.0.0 x.0 y.0.1)
event_once kept event (Err a) (Err b) distinct (inl x) (inl y) = ap Err (x.1 ∙ sym y.1)
event_once kept event (Err a) (Err b) distinct (inl x) (inr y) = absurd (not_new kept event x.0.0 y.0 x.0.1)
event_once kept event (Err a) (Err b) distinct (inr x) (inl y) = absurd (not_new kept event y.0.0 x.0 y.0.1)
event_once kept event (Err a) (Err b) distinct (inr x) (inr y) = ap Err (x.2 ∙ sym y.2)

decoded_once : (state : LogState) (first : ℕ) (decoded : Decoded) (a b : Result LogState LogStop) → IsDistinct state.kept → TakesDecoded state first decoded a → TakesDecoded state first decoded b → a ≡ b
decoded_once state first decoded a b distinct x y =
    let same = in_order_once TakesEvent IsDistinct event_keeps event_once state.kept (numbered_events first decoded.events) x.0 y.0 distinct x.1 y.1 in
    x.2 ∙ ap (behind_events first decoded state.extra) same ∙ sym y.2

behind_distinct : (first extra : ℕ) (decoded : Decoded) (fault : Option ItemFault) (kept : List Event) (after : LogState) → IsDistinct kept → Ok after ≡ unless_fault first fault (record { extra = extra; kept = kept }) → IsDistinct after.kept
behind_distinct first extra decoded None kept after distinct is =
    let same : after ≡ record { extra = extra; kept = kept } = cc in
    subst IsDistinct (sym (ap (λ (s : LogState). s.kept) same)) distinct
behind_distinct first extra decoded (Some fault) kept after distinct is = absurd cc

decoded_keeps : (state after : LogState) (first : ℕ) (decoded : Decoded) (events : Result (List Event) LogStop) → IsDistinct state.kept → InOrder TakesEvent state.kept (numbered_events first decoded.events) events → Ok after ≡ behind_events first decoded state.extra events → IsDistinct after.kept
decoded_keeps state after first decoded (Ok kept) distinct takes is =
    behind_distinct first (state.extra + (decoded.taken - 1)) decoded decoded.fault kept after (in_order_keeps TakesEvent IsDistinct event_keeps state.kept kept (numbered_events first decoded.events) distinct takes) is
decoded_keeps state after first decoded (Err stop) distinct takes is = absurd cc

line_keeps : (state after : LogState) (line : NumberedLine) → IsDistinct state.kept → TakesLine state line (Ok after) → IsDistinct after.kept
line_keeps state after line distinct (inl (long, is)) = absurd cc
line_keeps state after line distinct (inr (short, (decoded, decodes, takes))) = decoded_keeps state after (line.number + state.extra) decoded takes.0 distinct takes.1 takes.2

line_once : (state : LogState) (line : NumberedLine) (a b : Result LogState LogStop) → IsDistinct state.kept → TakesLine state line a → TakesLine state line b → a ≡ b
line_once state line a b distinct (inl x) (inl y) = x.1 ∙ sym y.1
line_once state line a b distinct (inl x) (inr y) = absurd (let long = x.0 in let short = y.0 in omega (arith, long, short))
line_once state line a b distinct (inr x) (inl y) = absurd (let short = x.0 in let long = y.0 in omega (arith, long, short))
line_once state line a b distinct (inr (short, (d, is, takes))) (inr (short', (d', is', takes'))) =
    let same = one_decoding line.bytes d' d is' is in
    decoded_once state (line.number + state.extra) d a b distinct takes (subst (λ e. TakesDecoded state (line.number + state.extra) e b) same takes')

lines_once : (lines : List NumberedLine) (a b : Result LogState LogStop) → InOrder TakesLine nothing_read lines a → InOrder TakesLine nothing_read lines b → a ≡ b
lines_once lines a b x y =
    in_order_once TakesLine (λ (s : LogState). IsDistinct s.kept) line_keeps line_once nothing_read lines a b (λ i j d below within. absurd (omega (arith, within))) x y

pub one_reading : (bytes : List ℕ) (a b : Result (List Event) LogStop) → IsLogRead bytes a → IsLogRead bytes b → a ≡ b
one_reading bytes a b (inl (short, x)) (inl (short', y)) = x.2 ∙ ap kept_of (lines_once (lines_from 0 bytes) x.0 y.0 x.1 y.1) ∙ sym y.2
one_reading bytes a b (inl (short, x)) (inr (long, y)) = absurd (omega (arith, short, long))
one_reading bytes a b (inr (long, x)) (inl (short, y)) = absurd (omega (arith, short, long))
one_reading bytes a b (inr (long, x)) (inr (long', y)) = x.2 ∙ ap past_limit (lines_once (cut_lines (take most_input bytes)) x.0 y.0 x.1 y.1) ∙ sym y.2
