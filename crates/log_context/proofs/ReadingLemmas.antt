-- Where events and checkpoints may be read, against the snapshot.
use Rattle.std.proofs.Common.{◌≡◌, ◌⊎◌, inl, inr, ℕ, ◌+◌, ◌-◌, ◌<◌, ◌≤◌, Bool, true, false, not, List, ◌++◌, length, get_or, Option, Some, None, if◌then◌else◌, codes, sym, subst, arith, length-append}
use Rattle.std.specs.List.{All}
use Rattle.std.proofs.lemmas.Bool.{cases_lt}
use Rattle.std.proofs.lemmas.List.{get_or-append-add, get_or_append_left}
use Rattle.std.proofs.lemmas.Option.{slice_get-get_or}
use Rattle.base_types.specs.declared.kubernetes.request.RequestAttrs.{RequestAttrs}
use Rattle.base_types.specs.Meaning.{Meaning}
use Rattle.audit_event.specs.declared.event.Event.{Event}
use Rattle.base_types.specs.Revisions.{revision_of}
use Rattle.setup_file.specs.Sound.{IsSound}
use Rattle.setup_file.specs.declared.setup.Setup.{Setup}
use Rattle.answer_class.specs.Requests.{first_value}
use Rattle.write_groups.specs.declared.event.LogEvent.{LogEvent}
use Rattle.write_groups.specs.declared.event.Reading.{Reading}
use Rattle.write_groups.specs.declared.event.Reading.TheVariants.{MostRecent, AnyVersion, NotOlderThan, Exactly}
use Rattle.log_context.specs.Log.{IsNotOlder}
use Rattle.log_context.specs.Logged.{AreLoggedEvents, AreLoggedCheckpoints, AreLogged}
use Rattle.log_context.specs.Readings.{is_read, takes_any, wants_exactly, reading_by, reading_from, reading_of}
use Rattle.log_context.proofs.LineLemmas.{some_of}

either : (start : ℕ) (b : Bool) (x y : Reading) → IsNotOlder start x → IsNotOlder start y → IsNotOlder start (if b then x else y)
either start true x y p q = p
either start false x y p q = q

by_revision : (start : ℕ) (attrs : RequestAttrs) (revision : Option ℕ) → IsNotOlder start (reading_by attrs revision)
by_revision start attrs None = tt
by_revision start attrs (Some revision) = either start (wants_exactly attrs) (Exactly revision) (NotOlderThan revision) tt tt

by_text : (start : ℕ) (attrs : RequestAttrs) (text : Option (List ℕ)) → IsNotOlder start (reading_from attrs text)
by_text start attrs None = tt
by_text start attrs (Some text) = by_revision start attrs (revision_of text)

-- no request is read as a checkpoint
reads_below : (start : ℕ) (attrs : RequestAttrs) → IsNotOlder start (reading_of attrs)
reads_below start attrs =
    let asked = first_value (codes "resourceVersion") attrs in
    either start (not (is_read attrs)) MostRecent (if takes_any attrs then AnyVersion else reading_from attrs asked) tt
    (either start (takes_any attrs) AnyVersion (reading_from attrs asked) tt (by_text start attrs asked))

event_not_older : (setup : Setup) (trees : List Meaning) (events : List Event) (logged : List LogEvent) → AreLoggedEvents setup trees events logged
    → (i : ℕ) (d : LogEvent) → i < length logged → IsNotOlder setup.start (get_or logged i d).reading
event_not_older setup trees events logged are i d within =
    let long : length logged ≡ length events = are.all in
    let here : i < length events = omega arith in
    let e = some_of events i here in
    let is = are.each i (get_or events i e) (get_or logged i d) (slice_get-get_or events i e here) (slice_get-get_or logged i d within) in
    subst (IsNotOlder setup.start) (sym is.reading) (reads_below setup.start (get_or events i e).attrs)

checkpoint_not_older : (setup : Setup) (trees : List Meaning) (logged : List LogEvent) → IsSound setup → AreLoggedCheckpoints trees setup.checkpoints logged
    → (i : ℕ) (d : LogEvent) → i < length logged → IsNotOlder setup.start (get_or logged i d).reading
checkpoint_not_older setup trees logged sound are i d within =
    let long : length logged ≡ length setup.checkpoints = are.all in
    let here : i < length setup.checkpoints = omega arith in
    let c = some_of setup.checkpoints i here in
    let is = are.each i (get_or setup.checkpoints i c) (get_or logged i d) (slice_get-get_or setup.checkpoints i c here) (slice_get-get_or logged i d within) in
    subst (IsNotOlder setup.start) (sym is.reading) ((sound.checkpoints i c here).later)

joined_not_older : (setup : Setup) (a b : List LogEvent) → ((i : ℕ) (d : LogEvent) → i < length a → IsNotOlder setup.start (get_or a i d).reading)
    → ((i : ℕ) (d : LogEvent) → i < length b → IsNotOlder setup.start (get_or b i d).reading) → All (λ event. IsNotOlder setup.start event.reading) (a ++ b)
joined_not_older setup a b first second = λ i d within. go i d within (cases_lt i (length a))
  where
    go : (i : ℕ) (d : LogEvent) → i < length (a ++ b) → (i < length a) ⊎ (length a ≤ i) → IsNotOlder setup.start (get_or (a ++ b) i d).reading
    go i d within (inl p) = subst (λ (e : LogEvent). IsNotOlder setup.start e.reading) (sym (get_or_append_left a b d i p)) (first i d p)
    go i d within (inr p) =
        let split : length a + (i - length a) ≡ i = omega arith in
        let last : i - length a < length b = omega (arith, length-append a b) in
        subst (λ k. IsNotOlder setup.start (get_or (a ++ b) k d).reading) split
        (subst (λ (e : LogEvent). IsNotOlder setup.start e.reading) (sym (get_or-append-add a b (i - length a) d)) (second (i - length a) d last))

pub are_not_older : (setup : Setup) (trees : List Meaning) (events : List Event) (logged : List LogEvent) → IsSound setup → AreLogged setup trees events logged
    → All (λ event. IsNotOlder setup.start event.reading) logged
are_not_older setup trees events logged sound are =
    subst (All (λ event. IsNotOlder setup.start event.reading)) (sym are.joined)
    (joined_not_older setup are.of_log are.of_setup (event_not_older setup trees events are.of_log are.in_log) (checkpoint_not_older setup trees are.of_setup sound are.behind))
