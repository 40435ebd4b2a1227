-- Events that are kept, and the numbers of those to come.
use Rattle.std.proofs.Common.{◌≡◌, ℕ, ◌+◌, ◌<◌, ◌≤◌, inl, inr, List, [], ◌∷◌, ◌++◌, length, Option, Some, None, Result, Ok, Err, OnOk, IfSome, IfNone, refl, sym, ◌∙◌, ap, subst, arith, append_assoc}
use Rattle.std.proofs.lemmas.List.Elements.{All-push}
use Rattle.audit_event.specs.declared.event.Event.{Event}
use Rattle.audit_event.specs.Events.{IsSound}
use Rattle.line_reader.specs.declared.line.Line.{Line}
use Rattle.batch_decode.specs.declared.decoded.Decoded.{Decoded}
use Rattle.serde_json.specs.Data.{Data}
use Rattle.std.specs.Prelude.{Bool}
use Rattle.batch_decode.specs.Batches.{DecodesValues, IsDecoded, IsDecodedLine, IsFaultBehind}
use Rattle.batch_decode.specs.Lists.{heading_of, list_items, values_of}
use Rattle.batch_decode.specs.declared.decoded.ItemFault.{ItemFault}
use Rattle.log_intake.specs.Kept.{AreBefore}
use Rattle.log_intake.specs.declared.stop.LogStop.{LogStop}
use Rattle.log_intake.specs.Log.{TakesEvent, numbered_events}
use Rattle.log_intake.specs.Steps.{InOrder}
use Rattle.log_intake.proofs.StepFacts.{in_order_push, in_order_stopped}

pub before_more : (a b : ℕ) (events : List Event) → a ≤ b → AreBefore a events → AreBefore b events
before_more a b events more are = record {
  sound = are.sound;
  first = are.first;
  before = λ k d within. let less = are.before k d within in omega (arith, less, more);
  few = are.few;
}

pub before_kept : (number : ℕ) (kept : List Event) (event : Event) → AreBefore number kept → IsSound event → 1 ≤ number → length (kept ++ record event { line = number } ∷ []) ≤ 4194304 → AreBefore (number + 1) (kept ++ record event { line = number } ∷ [])
before_kept number kept event are sound some few =
    let now : Event = record event { line = number } in
    let more = before_more number (number + 1) kept (omega arith) are in
    record {
      sound = All-push IsSound kept now are.sound record { times = sound.times; request = sound.request; response = sound.response };
      first = All-push (λ (e : Event). 1 ≤ e.line) kept now are.first some;
      before = All-push (λ (e : Event). e.line < number + 1) kept now more.before (omega arith);
      few = few;
    }

pub numbered_events-append : (number : ℕ) (xs ys : List Event) → numbered_events number (xs ++ ys) ≡ numbered_events number xs ++ numbered_events (number + length xs) ys
numbered_events-append number [] ys = ap (λ n. numbered_events n ys) (let e : number ≡ number + 0 = omega arith in e)
numbered_events-append number (x ∷ xs) ys =
    let next = numbered_events-append (number + 1) xs ys in
    let e : number + 1 + length xs ≡ number + length (x ∷ xs) = omega arith in
    ap (λ l. record x { line = number } ∷ l) (next ∙ ap (λ n. numbered_events (number + 1) xs ++ numbered_events n ys) e)

-- the next event, as a step of its line
pub events_step : (first number : ℕ) (kept middle after done : List Event) (event : Event) → number ≡ first + length done → InOrder TakesEvent kept (numbered_events first done) (Ok middle)
    → TakesEvent middle record event { line = number } (Ok after) → InOrder TakesEvent kept (numbered_events first (done ++ event ∷ [])) (Ok after)
events_step first number kept middle after done event is takes step =
    let last : numbered_events first (done ++ event ∷ []) ≡ numbered_events first done ++ record event { line = number } ∷ [] =
    numbered_events-append first done (event ∷ []) ∙ ap (λ n. numbered_events first done ++ record event { line = n } ∷ []) (sym is) in
    subst (λ events. InOrder TakesEvent kept events (Ok after)) (sym last) (in_order_push TakesEvent kept middle after (numbered_events first done) record event { line = number } takes step)

-- an event that is refused, whatever comes behind it
pub events_stopped : (first number : ℕ) (kept middle done more all : List Event) (event : Event) (stop : LogStop) → number ≡ first + length done → InOrder TakesEvent kept (numbered_events first done) (Ok middle)
    → all ≡ done ++ event ∷ more → TakesEvent middle record event { line = number } (Err stop) → InOrder TakesEvent kept (numbered_events first all) (Err stop)
events_stopped first number kept middle done more all event stop is takes whole step =
    let cut : numbered_events first all ≡ numbered_events first done ++ record event { line = number } ∷ numbered_events (number + 1) more =
    ap (numbered_events first) whole ∙ numbered_events-append first done (event ∷ more) ∙ ap (λ n. numbered_events first done ++ record event { line = n } ∷ numbered_events (n + 1) more) (sym is) in
    subst (λ events. InOrder TakesEvent kept events (Err stop)) (sym cut)
    (in_order_stopped TakesEvent kept middle (numbered_events first done) (numbered_events (number + 1) more) record event { line = number } stop takes step)

pub fresh_before : (number : ℕ) (kept after : List Event) (event : Event) → AreBefore number kept → IsSound event → 1 ≤ number → after ≡ kept ++ record event { line = number } ∷ [] → length after ≤ 4194304 → AreBefore (number + 1) after
fresh_before number kept after event are sound some is few =
    subst (AreBefore (number + 1)) (sym is) (before_kept number kept event are sound some (let long = ap length is in omega (arith, few, long)))

-- an item goes from those to come to those that were taken
pub one_further : {X : Type 0} (all done rest more : List X) (x : X) → all ≡ done ++ rest → rest ≡ x ∷ more → all ≡ (done ++ x ∷ []) ++ more
one_further all done rest more x is next = is ∙ ap (λ l. done ++ l) next ∙ sym (append_assoc done (x ∷ []) more)

pub on_ok : {T E : Type 0} (answer : Result T E) (P Q : Type 0) → (P → Q) → OnOk answer P → OnOk answer Q
on_ok {T} {E} (Ok value) P Q then p = then p
on_ok {T} {E} (Err fault) P Q then p = tt

-- where a line has no fault, it has no more events than it takes numbers; else they stand before the fault
few_values : (heading : Data → Bool) (values : List Data) (decoded : Decoded) (fault : Option ItemFault) → decoded.fault ≡ fault → DecodesValues heading values decoded → IfSome decoded.fault (λ f. f.index < decoded.taken) → length decoded.events ≤ decoded.taken
few_values heading values decoded None is decodes within =
    let all : length decoded.events ≡ length values = subst (λ f. IfNone f (length decoded.events ≡ length values)) is decodes.events.all in
    let taken = decodes.taken in
    omega (arith, all, taken)
few_values heading values decoded (Some fault) is decodes within =
    let behind : IsFaultBehind heading values decoded.events fault = subst (λ f. IfSome f (IsFaultBehind heading values decoded.events)) is decodes.events.stops in
    let below : fault.index < decoded.taken = subst (λ f. IfSome f (λ f. f.index < decoded.taken)) is within in
    let at = behind.index in
    omega (arith, below, at)

pub few_events : (line : Line) (decoded : Decoded) → IsDecodedLine line decoded → length decoded.events ≤ decoded.taken
few_events line decoded is = go is.decoded_is
  where
    go : IsDecoded line.bytes decoded → length decoded.events ≤ decoded.taken
    go (inl (none, same)) = let e : length decoded.events ≡ 0 = ap (λ d. length d.events) same in omega (arith, e)
    go (inr (value, one, decodes)) = few_values (heading_of (list_items value)) (values_of (list_items value) value) decoded decoded.fault refl decodes is.numbered.fault
