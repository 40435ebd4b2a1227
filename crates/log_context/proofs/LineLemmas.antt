-- The lines of events and checkpoints.
use Rattle.std.proofs.Common.{◌≡◌, ◌⊎◌, inl, inr, ℕ, ◌+◌, ◌-◌, ◌<◌, ◌≤◌, List, [], ◌∷◌, ◌++◌, length, get_or, sym, ap, subst, ◌∙◌, arith, length-append}
use Rattle.std.specs.List.{All, AllPairs}
use Rattle.std.proofs.lemmas.Bool.{cases_lt}
use Rattle.std.proofs.lemmas.List.{get_or-append-add, get_or_append_left}
use Rattle.std.proofs.lemmas.Option.{slice_get-get_or}
use Rattle.base_types.specs.Meaning.{Meaning}
use Rattle.audit_event.specs.declared.event.Event.{Event}
use Rattle.setup_file.specs.declared.setup.Checkpoint.{Checkpoint}
use Rattle.setup_file.specs.declared.setup.Setup.{Setup}
use Rattle.write_groups.specs.declared.event.LogEvent.{LogEvent}
use Rattle.log_context.specs.Log.{AreLines, RiseByLine}
use Rattle.log_context.specs.Logged.{AreLoggedEvents, AreLoggedCheckpoints, AreLogged, last_line}

-- an item of a list that has a place
pub some_of : {X : Type 0} (xs : List X) (i : ℕ) → i < length xs → X
some_of [] i within = absurd (omega arith)
some_of (x ∷ xs) i within = x

event_line : (setup : Setup) (trees : List Meaning) (events : List Event) (logged : List LogEvent) → AreLoggedEvents setup trees events logged
    → (i : ℕ) (e : Event) (d : LogEvent) → i < length events → (get_or logged i d).line ≡ (get_or events i e).line
event_line setup trees events logged are i e d within =
    let long : length logged ≡ length events = are.all in
    (are.each i (get_or events i e) (get_or logged i d) (slice_get-get_or events i e within) (slice_get-get_or logged i d (omega arith))).line

checkpoint_line : (trees : List Meaning) (checkpoints : List Checkpoint) (logged : List LogEvent) → AreLoggedCheckpoints trees checkpoints logged
    → (i : ℕ) (d : LogEvent) → i < length logged → (get_or logged i d).line ≡ last_line + (i + 1)
checkpoint_line trees checkpoints logged are i d within =
    let long : length logged ≡ length checkpoints = are.all in
    let here : i < length checkpoints = omega arith in
    let c = some_of checkpoints i here in
    (are.each i (get_or checkpoints i c) (get_or logged i d) (slice_get-get_or checkpoints i c here) (slice_get-get_or logged i d within)).line

-- the lines of events, and those of the checkpoints behind them
front_line : (a b : List LogEvent) (i : ℕ) (d : LogEvent) → i < length a → (get_or (a ++ b) i d).line ≡ (get_or a i d).line
front_line a b i d within = ap (λ (e : LogEvent). e.line) (get_or_append_left a b d i within)

back_line : (a b : List LogEvent) (i : ℕ) (d : LogEvent) → length a ≤ i → (get_or (a ++ b) i d).line ≡ (get_or b (i - length a) d).line
back_line a b i d past =
    let split : length a + (i - length a) ≡ i = omega arith in
    subst (λ k. (get_or (a ++ b) k d).line ≡ (get_or b (i - length a) d).line) split (ap (λ (e : LogEvent). e.line) (get_or-append-add a b (i - length a) d))

rises : (setup : Setup) (trees : List Meaning) (events : List Event) (a b : List LogEvent) → AreLoggedEvents setup trees events a → AreLoggedCheckpoints trees setup.checkpoints b → AreLines events
    → AllPairs (λ x y. x.line < y.line) (a ++ b)
rises setup trees events a b of_log of_setup lines = λ i j d rising within. go i j d rising within (cases_lt i (length a)) (cases_lt j (length a))
  where
    go : (i j : ℕ) (d : LogEvent) → i < j → j < length (a ++ b) → (i < length a) ⊎ (length a ≤ i) → (j < length a) ⊎ (length a ≤ j)
        → (get_or (a ++ b) i d).line < (get_or (a ++ b) j d).line
    go i j d rising within (inl p) (inl q) =
        let long : length a ≡ length events = of_log.all in
        let here : i < length events = omega arith in
        let e = some_of events i here in
        let x = front_line a b i d p ∙ event_line setup trees events a of_log i e d here in
        let y = front_line a b j d q ∙ event_line setup trees events a of_log j e d (omega arith) in
        let up = lines.rising i j e rising (omega arith) in
        omega (arith, x, y, up)
    go i j d rising within (inl p) (inr q) =
        let long : length a ≡ length events = of_log.all in
        let here : i < length events = omega arith in
        let e = some_of events i here in
        let last : j - length a < length b = omega (arith, length-append a b) in
        let x = front_line a b i d p ∙ event_line setup trees events a of_log i e d here in
        let y = back_line a b j d q ∙ checkpoint_line trees setup.checkpoints b of_setup (j - length a) d last in
        let up = lines.within i e here in
        omega (arith, x, y, up)
    go i j d rising within (inr p) (inl q) = absurd (omega arith)
    go i j d rising within (inr p) (inr q) =
        let last : j - length a < length b = omega (arith, length-append a b) in
        let x = back_line a b i d p ∙ checkpoint_line trees setup.checkpoints b of_setup (i - length a) d (omega arith) in
        let y = back_line a b j d q ∙ checkpoint_line trees setup.checkpoints b of_setup (j - length a) d last in
        omega (arith, x, y)

above_zero : (setup : Setup) (trees : List Meaning) (events : List Event) (a b : List LogEvent) → AreLoggedEvents setup trees events a → AreLoggedCheckpoints trees setup.checkpoints b → AreLines events
    → All (λ x. 0 < x.line) (a ++ b)
above_zero setup trees events a b of_log of_setup lines = λ i d within. go i d within (cases_lt i (length a))
  where
    go : (i : ℕ) (d : LogEvent) → i < length (a ++ b) → (i < length a) ⊎ (length a ≤ i) → 0 < (get_or (a ++ b) i d).line
    go i d within (inl p) =
        let long : length a ≡ length events = of_log.all in
        let here : i < length events = omega arith in
        let e = some_of events i here in
        let x = front_line a b i d p ∙ event_line setup trees events a of_log i e d here in
        let up = lines.numbered i e here in
        omega (arith, x, up)
    go i d within (inr p) =
        let last : i - length a < length b = omega (arith, length-append a b) in
        let x = back_line a b i d p ∙ checkpoint_line trees setup.checkpoints b of_setup (i - length a) d last in
        omega (arith, x)

pub lines_rise : (setup : Setup) (trees : List Meaning) (events : List Event) (logged : List LogEvent) → AreLogged setup trees events logged → AreLines events → RiseByLine logged
lines_rise setup trees events logged are lines = record {
  numbered = subst (All (λ x. 0 < x.line)) (sym are.joined) (above_zero setup trees events are.of_log are.of_setup are.in_log are.behind lines);
  rising = subst (AllPairs (λ x y. x.line < y.line)) (sym are.joined) (rises setup trees events are.of_log are.of_setup are.in_log are.behind lines);
}
