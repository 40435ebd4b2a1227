-- What a judge reads of the lines that stay.
use Rattle.std.proofs.Common.{◌≡◌, ℕ, ◌+◌, ◌-◌, inl, inr, List, [], ◌∷◌, Option, Some, None, Result, Ok, Err, refl, sym, ◌∙◌, subst, arith}
use Rattle.line_reader.specs.Lines.{NumberedLine, lines_of, number_after, number_line, numbered}
use Rattle.audit_event.specs.declared.event.Event.{Event}
use Rattle.audit_event.specs.declared.fault.Malformed.TheVariants.{M12}
use Rattle.audit_event.specs.Keeping.{WasKept}
use Rattle.batch_decode.specs.declared.decoded.Decoded.{Decoded}
use Rattle.batch_decode.specs.declared.decoded.ItemFault.{ItemFault}
use Rattle.batch_decode.proofs.Alone.{one_decoding}
use Rattle.log_intake.specs.declared.stop.LogStop.{LogStop}
use Rattle.log_intake.specs.declared.stop.LogStop.TheVariants.{TooManyEvents}
use Rattle.log_intake.specs.Log.{Differs, LogState, TakesDecoded, TakesEvent, TakesLine, kept_of, nothing_read, numbered_events, unless_fault as state_unless}
use Rattle.log_intake.specs.Steps.{InOrder}
use Rattle.log_sift.specs.declared.answer.LeftCause.{LeftCause}
use Rattle.log_sift.specs.declared.answer.LeftCause.TheVariants.{Rule}
use Rattle.log_sift.specs.declared.answer.Fate.{Fate}
use Rattle.log_sift.specs.declared.answer.Fate.TheVariants.{Blank, Stays, Left}
use Rattle.log_sift.specs.Sift.{IsSifted, KeepsDecoded, KeepsEvent, KeepsLine, SiftsLines, behind_events}
use Rattle.log_sift.specs.Sifted.{kept_text}
use Rattle.log_sift.specs.Taken.{AreSameButLine, ReadsKept}
use Rattle.log_sift.proofs.DistinctFacts.{IsDistinct, event_keeps, event_once}
use Rattle.log_sift.proofs.OneFacts.{line_keeps, line_once, none_distinct}
use Rattle.log_sift.proofs.SameFacts.{event_same, line_same, partner, same_back, same_both, same_line, same_stage}
use Rattle.log_sift.proofs.StayFacts.{lines_kept, staying_lines}

-- an event that differs from one of the judge's differs from one that is kept here
differs_same : (xs ys : List Event) (event : Event) (number : ℕ) → AreSameButLine xs ys → Differs xs record event { line = number } → Differs ys event
differs_same xs ys event number are (earlier, was, other) =
    let now : Event = record event { line = number } in
    let there = partner xs ys earlier are was.among in
    let found : WasKept ys event there.0 = record { among = there.1; one = sym (same_stage earlier there.0 there.2) ∙ was.one ∙ same_stage now event (same_line event number) } in
    (there.0, found, λ same. other (same_both earlier there.0 now there.2 (same_both there.0 event now same (same_back now event (same_line event number)))))

-- an event that is kept here is refused for its number alone
event_stop : (xs ys after : List Event) (event : Event) (number : ℕ) (stop : LogStop) → IsDistinct ys → AreSameButLine xs ys → KeepsEvent ys event (Ok after)
    → TakesEvent xs record event { line = number } (Err stop) → stop ≡ TooManyEvents
event_stop xs ys after event number stop distinct are keeps (inl (differs, is)) =
    absurd (let no = event_once ys event (Ok after) (Err (Rule M12)) distinct keeps (differs_same xs ys event number are differs, refl) in cc)
event_stop xs ys after event number stop distinct are keeps (inr (new, many, is)) = is

events_stop : (events : List Event) (xs ys after : List Event) (number : ℕ) (stop : LogStop) → IsDistinct ys → AreSameButLine xs ys → InOrder KeepsEvent ys events (Ok after)
    → InOrder TakesEvent xs (numbered_events number events) (Err stop) → stop ≡ TooManyEvents
events_stop [] xs ys after number stop distinct are keeps is = absurd (let no : Err stop ≡ Ok xs = is in cc)
events_stop (event ∷ events) xs ys after number stop distinct are (inl (next, keeps, rest)) (inl (middle, step, takes)) =
    let here = event_same xs ys middle event number are step in
    let same : here.0 ≡ next = (let e = event_once ys event (Ok here.0) (Ok next) distinct here.1 keeps in cc) in
    events_stop events middle next after (number + 1) stop (event_keeps ys next event distinct keeps) (subst (AreSameButLine middle) same here.2) rest takes
events_stop (event ∷ events) xs ys after number stop distinct are (inl (next, keeps, rest)) (inr (other, step, is)) =
    let same : stop ≡ other = (let e : Err stop ≡ Err other = is in cc) in
    same ∙ event_stop xs ys next event number other distinct are keeps step
events_stop (event ∷ events) xs ys after number stop distinct are (inr (cause, keeps, is)) takes = absurd (let no : Ok after ≡ Err cause = is in cc)

no_fault : (fault : Option ItemFault) (after : List Event) (events : Result (List Event) LeftCause) → Ok after ≡ behind_events fault events → (fault ≡ None) × (events ≡ Ok after)
no_fault None after (Ok kept) is = (refl, sym is)
no_fault None after (Err cause) is = absurd cc
no_fault (Some fault) after (Ok kept) is = absurd cc
no_fault (Some fault) after (Err cause) is = absurd cc

-- a line without a fault isn't refused behind its events
not_stopped : (first extra : ℕ) (fault : Option ItemFault) (kept : List Event) (stop : LogStop) → fault ≡ None → Err stop ≡ state_unless first fault (record { extra = extra; kept = kept }) → ⊥
not_stopped first extra None kept stop none is = absurd cc
not_stopped first extra (Some fault) kept stop some is = absurd cc

decoded_stop : (state : LogState) (ys after : List Event) (decoded : Decoded) (first : ℕ) (stop : LogStop) → IsDistinct ys → AreSameButLine state.kept ys → KeepsDecoded ys decoded (Ok after)
    → TakesDecoded state first decoded (Err stop) → stop ≡ TooManyEvents
decoded_stop state ys after decoded first stop distinct are (events, keeps, is) (Ok kept, takes, stops) =
    let whole = no_fault decoded.fault after events is in
    absurd (not_stopped first (state.extra + (decoded.taken - 1)) decoded.fault kept stop whole.0 stops)
decoded_stop state ys after decoded first stop distinct are (events, keeps, is) (Err other, takes, stops) =
    let whole = no_fault decoded.fault after events is in
    let same : stop ≡ other = cc in
    same ∙ events_stop decoded.events state.kept ys after first other distinct are (subst (λ e. InOrder KeepsEvent ys decoded.events e) whole.1 keeps) takes

pub line_stop : (state : LogState) (ys after : List Event) (line : NumberedLine) (stop : LogStop) → IsDistinct ys → AreSameButLine state.kept ys → KeepsLine ys line.bytes (Ok after)
    → TakesLine state line (Err stop) → stop ≡ TooManyEvents
line_stop state ys after line stop distinct are (inl (long, is)) takes = absurd cc
line_stop state ys after line stop distinct are (inr (short, keeps)) (inl (long, is)) = absurd (omega (arith, short, long))
line_stop state ys after line stop distinct are (inr (short, (d, is, keeps))) (inr (short', (d', is', takes))) =
    let same = one_decoding line.bytes d d' is is' in
    decoded_stop state ys after d' (line.number + state.extra) stop distinct are (subst (λ e. KeepsDecoded ys e (Ok after)) same keeps) takes

abbrev ReadsState : List Event → Result LogState LogStop → Type 0
ReadsState kept (Ok state) = AreSameButLine state.kept kept
ReadsState kept (Err stop) = stop ≡ TooManyEvents

reads_lines : (lines : List (List ℕ)) (fates : List Fate) (number : ℕ) (state : LogState) (ys after : List Event) (found : Result LogState LogStop) → IsDistinct ys → AreSameButLine state.kept ys
    → SiftsLines ys lines fates after → InOrder TakesLine state (numbered number (staying_lines lines fates)) found → ReadsState after found
reads_lines [] [] number state ys after found distinct are sifts is = subst (ReadsState after) (sym is) (subst (AreSameButLine state.kept) (sym sifts) are)
reads_lines [] (fate ∷ fates) number state ys after found distinct are sifts takes = absurd sifts
reads_lines (line ∷ lines) [] number state ys after found distinct are sifts takes = absurd sifts
reads_lines (line ∷ lines) (Left cause ∷ fates) number state ys after found distinct are (next, here, rest) takes =
    reads_lines lines fates number state next after found (subst IsDistinct (sym here.2) distinct) (subst (AreSameButLine state.kept) (sym here.2) are) rest takes
reads_lines (line ∷ lines) (Blank ∷ fates) number state ys after found distinct are (next, here, rest) takes =
    reads_lines lines fates (number_after number) state next after found (subst IsDistinct (sym here.1) distinct) (subst (AreSameButLine state.kept) (sym here.1) are) rest
    (subst (λ test. InOrder TakesLine state (number_line test (number_after number) line (numbered (number_after number) (staying_lines lines fates))) found) here.0 takes)
reads_lines (line ∷ lines) (Stays ∷ fates) number state ys after found distinct are (next, here, rest) takes =
    go (subst (λ test. InOrder TakesLine state (number_line test (number_after number) line (numbered (number_after number) (staying_lines lines fates))) found) here.0 takes)
    (λ middle same more. reads_lines lines fates (number_after number) middle next after found (line_keeps ys next line distinct here.1) same rest more)
  where
    go : InOrder TakesLine state (record { number = number_after number; bytes = line } ∷ numbered (number_after number) (staying_lines lines fates)) found
        → ((middle : LogState) → AreSameButLine middle.kept next → InOrder TakesLine middle (numbered (number_after number) (staying_lines lines fates)) found → ReadsState after found) → ReadsState after found
    go (inl (middle, step, more)) again =
        let taken = line_same state middle ys (record { number = number_after number; bytes = line }) are step in
        let same : taken.0 ≡ next = (let e = line_once ys line (Ok taken.0) (Ok next) distinct taken.1 here.1 in cc) in
        again middle (subst (AreSameButLine middle.kept) same taken.2) more
    go (inr (stop, step, is)) again =
        subst (ReadsState after) (sym is) (line_stop state ys next (record { number = number_after number; bytes = line }) stop distinct are here.1 step)

read_of : (kept : List Event) (found : Result LogState LogStop) (read : Result (List Event) LogStop) → ReadsState kept found → read ≡ kept_of found → ReadsKept kept read
read_of kept (Ok state) read reads is = subst (ReadsKept kept) (sym is) reads
read_of kept (Err stop) read reads is = subst (ReadsKept kept) (sym is) (inl reads)

-- what stays is read to its end
pub whole_is_taken : (log : List ℕ) (fates : List Fate) (read : Result (List Event) LogStop) (found : Result LogState LogStop) (sifted : IsSifted log fates)
    → InOrder TakesLine nothing_read (numbered 0 (lines_of (kept_text log fates))) found → read ≡ kept_of found → ReadsKept sifted.kept read
whole_is_taken log fates read found sifted takes is =
    read_of sifted.kept found read
    (reads_lines (lines_of log) fates 0 nothing_read [] sifted.kept found none_distinct tt sifted.sifts (subst (λ lines. InOrder TakesLine nothing_read (numbered 0 lines) found) (lines_kept log fates) takes)) is
