-- What a judge reads of the lines that stay, where they have too many bytes.
use Rattle.std.proofs.Common.{◌≡◌, ℕ, ◌<◌, inl, inr, List, [], ◌∷◌, ◌++◌, length, take, drop, nat_le, if◌then◌else◌, Bool, true, false, Result, Ok, Err, refl, sym, ◌∙◌, ap, subst, arith, true≢false}
use Rattle.std.specs.Prelude.{⊤}
use Rattle.std.proofs.lemmas.Bool.Decides.{nat_tests}
use Rattle.std.proofs.lemmas.List.{take-append-drop}
use Rattle.line_reader.specs.Lines.{is_dropped, lines_of, longest_line, number_after, number_line, numbered, rest_of, whole_lines}
use Rattle.line_reader.specs.Search.{HasNoNewline}
use Rattle.audit_event.specs.declared.event.Event.{Event}
use Rattle.log_intake.specs.declared.stop.LogStop.{LogStop}
use Rattle.log_intake.specs.declared.stop.LogStop.TheVariants.{TooManyEvents}
use Rattle.log_intake.specs.Log.{IsLogRead, LogState, TakesLine, cut_line, most_input, nothing_read, past_limit}
use Rattle.log_intake.specs.Steps.{InOrder}
use Rattle.log_sift.specs.declared.answer.Fate.{Fate}
use Rattle.log_sift.specs.declared.answer.Fate.TheVariants.{Blank, Stays, Left}
use Rattle.log_sift.specs.Sift.{IsSifted, SiftsLine, SiftsLines}
use Rattle.log_sift.specs.Sifted.{kept_text}
use Rattle.log_sift.specs.Taken.{AreSameButLine, ReadsKept}
use Rattle.log_sift.proofs.DistinctFacts.{IsDistinct}
use Rattle.log_sift.proofs.FrontFacts.{BeginsLong, begun_long, split_lines}
use Rattle.log_sift.proofs.OneFacts.{line_keeps, line_once, none_distinct}
use Rattle.log_sift.proofs.SameFacts.{line_same}
use Rattle.log_sift.proofs.StayFacts.{lines_kept, plain, staying_lines}
use Rattle.log_sift.proofs.TakenFacts.{line_stop, whole_is_taken}
use Rattle.log_sift.proofs.WholeFacts.{AllStay, SiftsWhole}

-- without the lines that are left out the others become the same
stays_sift : (lines : List (List ℕ)) (fates : List Fate) (kept after : List Event) → SiftsLines kept lines fates after → SiftsWhole kept (staying_lines lines fates)
stays_sift [] [] kept after sifts = record { fates = []; after = kept; sifts = refl; stay = tt }
stays_sift [] (fate ∷ fates) kept after sifts = absurd sifts
stays_sift (line ∷ lines) [] kept after sifts = absurd sifts
stays_sift (line ∷ lines) (Blank ∷ fates) kept after (next, here, rest) =
    let more = stays_sift lines fates next after rest in
    record { fates = Blank ∷ more.fates; after = more.after; sifts = (next, here, more.sifts); stay = more.stay }
stays_sift (line ∷ lines) (Stays ∷ fates) kept after (next, here, rest) =
    let more = stays_sift lines fates next after rest in
    record { fates = Stays ∷ more.fates; after = more.after; sifts = (next, here, more.sifts); stay = more.stay }
stays_sift (line ∷ lines) (Left cause ∷ fates) kept after (next, here, rest) =
    subst (λ events. SiftsWhole events (staying_lines lines fates)) here.2 (stays_sift lines fates next after rest)

not_short : (line : List ℕ) → longest_line < length line → nat_le (length line) longest_line ≡ false
not_short line long = grind (arith, nat_tests)

is_long : (line : List ℕ) → nat_le (length line) longest_line ≡ false → longest_line < length line
is_long line over = grind (arith, nat_tests)

not_dropped : (line : List ℕ) → longest_line < length line → is_dropped line ≡ false
not_dropped line long = rw (not_short line long) refl

-- a line that is too long doesn't stay
no_long_line : (line : List ℕ) (fate : Fate) (fates : List Fate) (kept next : List Event) → longest_line < length line → SiftsLine kept line fate next → AllStay (fate ∷ fates) → ⊥
no_long_line line Blank fates kept next long sifts stay = true≢false (sym sifts.0 ∙ not_dropped line long)
no_long_line line Stays fates kept next long (filled, inl (over, is)) stay = absurd cc
no_long_line line Stays fates kept next long (filled, inr (short, more)) stay = omega (arith, long, short)
no_long_line line (Left cause) fates kept next long sifts stay = stay

begins_short : (lines : List (List ℕ)) (fates : List Fate) (kept after : List Event) (long : ℕ) → longest_line < long → BeginsLong lines long → SiftsLines kept lines fates after → AllStay fates → ⊥
begins_short [] fates kept after long over begins sifts stay = absurd (let is = begins.is in cc)
begins_short (line ∷ lines) [] kept after long over begins sifts stay = sifts
begins_short (line ∷ lines) (fate ∷ fates) kept after long over begins sifts stay =
    let same : begins.line ≡ line = (let is = begins.is in cc) in
    let least = begins.least in
    no_long_line line fate fates kept sifts.0 (subst (λ l. longest_line < length l) same (omega (arith, over, least))) sifts.1 stay

-- nothing is refused, or there are too many events
abbrev IsFine : Result LogState LogStop → Type 0
IsFine (Ok state) = ⊤
IsFine (Err stop) = stop ≡ TooManyEvents

fine_end : (rest more : List ℕ) (fates : List Fate) (number : ℕ) (state : LogState) (ys after : List Event) (found : Result LogState LogStop) → HasNoNewline rest
    → SiftsLines ys (lines_of (rest ++ more)) fates after → AllStay fates → InOrder TakesLine state (numbered number (cut_line rest)) found → IsFine found
fine_end rest more fates number state ys after found none sifts stay takes = go (nat_le (length rest) longest_line) refl takes
  where
    go : (test : Bool) → nat_le (length rest) longest_line ≡ test → InOrder TakesLine state (numbered number (if test then [] else rest ∷ [])) found → IsFine found
    go true short taken = subst IsFine (sym taken) tt
    go false long taken =
        let over : longest_line < length rest = is_long rest long in
        absurd (begins_short (lines_of (rest ++ more)) fates ys after (length rest) over (begun_long rest more none (omega (arith, over))) sifts stay)

front_reads : (xs : List (List ℕ)) (rest more : List ℕ) (fates : List Fate) (number : ℕ) (state : LogState) (ys after : List Event) (found : Result LogState LogStop) → IsDistinct ys → AreSameButLine state.kept ys → HasNoNewline rest
    → SiftsLines ys (xs ++ lines_of (rest ++ more)) fates after → AllStay fates → InOrder TakesLine state (numbered number (xs ++ cut_line rest)) found → IsFine found
front_reads [] rest more fates number state ys after found distinct are none sifts stay takes = fine_end rest more fates number state ys after found none sifts stay takes
front_reads (line ∷ xs) rest more [] number state ys after found distinct are none sifts stay takes = absurd sifts
front_reads (line ∷ xs) rest more (Left cause ∷ fates) number state ys after found distinct are none sifts stay takes = absurd stay
front_reads (line ∷ xs) rest more (Blank ∷ fates) number state ys after found distinct are none (next, here, later) stay takes =
    front_reads xs rest more fates (number_after number) state next after found (subst IsDistinct (sym here.1) distinct) (subst (AreSameButLine state.kept) (sym here.1) are) none later stay
    (subst (λ test. InOrder TakesLine state (number_line test (number_after number) line (numbered (number_after number) (xs ++ cut_line rest))) found) here.0 takes)
front_reads (line ∷ xs) rest more (Stays ∷ fates) number state ys after found distinct are none (next, here, later) stay takes =
    go (subst (λ test. InOrder TakesLine state (number_line test (number_after number) line (numbered (number_after number) (xs ++ cut_line rest))) found) here.0 takes)
    (λ middle same taken. front_reads xs rest more fates (number_after number) middle next after found (line_keeps ys next line distinct here.1) same none later stay taken)
  where
    go : InOrder TakesLine state (record { number = number_after number; bytes = line } ∷ numbered (number_after number) (xs ++ cut_line rest)) found
        → ((middle : LogState) → AreSameButLine middle.kept next → InOrder TakesLine middle (numbered (number_after number) (xs ++ cut_line rest)) found → IsFine found) → IsFine found
    go (inl (middle, step, taken)) again =
        let kept = line_same state middle ys (record { number = number_after number; bytes = line }) are step in
        let same : kept.0 ≡ next = (let e = line_once ys line (Ok kept.0) (Ok next) distinct kept.1 here.1 in cc) in
        again middle (subst (AreSameButLine middle.kept) same kept.2) taken
    go (inr (stop, step, is)) again =
        subst IsFine (sym is) (line_stop state ys next (record { number = number_after number; bytes = line }) stop distinct are here.1 step)

past_of : (kept : List Event) (found : Result LogState LogStop) (read : Result (List Event) LogStop) → IsFine found → read ≡ past_limit found → ReadsKept kept read
past_of kept (Ok state) read fine is = subst (ReadsKept kept) (sym is) (inr refl)
past_of kept (Err stop) read fine is = subst (ReadsKept kept) (sym is) (inl fine)

-- what stays is cut at the limit
pub cut_is_fine : (log : List ℕ) (fates : List Fate) (read : Result (List Event) LogStop) (found : Result LogState LogStop) (sifted : IsSifted log fates)
    → InOrder TakesLine nothing_read (numbered 0 (whole_lines (take most_input (kept_text log fates)) ++ cut_line (rest_of (take most_input (kept_text log fates))))) found
    → read ≡ past_limit found → ReadsKept sifted.kept read
cut_is_fine log fates read found sifted takes is =
    let text : List ℕ = kept_text log fates in
    let front : List ℕ = take most_input text in
    let more : List ℕ = drop most_input text in
    let whole = stays_sift (lines_of log) fates [] sifted.kept sifted.sifts in
    let cut : staying_lines (lines_of log) fates ≡ whole_lines front ++ lines_of (rest_of front ++ more) =
    sym (lines_kept log fates) ∙ ap lines_of (sym (take-append-drop most_input text)) ∙ split_lines front more in
    past_of sifted.kept found read
    (front_reads (whole_lines front) (rest_of front) more whole.fates 0 nothing_read [] whole.after found none_distinct tt (plain front).1
    (subst (λ lines. SiftsLines [] lines whole.fates whole.after) cut whole.sifts) whole.stay takes) is

pub kept_is_taken : (log : List ℕ) (fates : List Fate) (read : Result (List Event) LogStop) (sifted : IsSifted log fates) → IsLogRead (kept_text log fates) read → ReadsKept sifted.kept read
kept_is_taken log fates read sifted (inl (within, (found, takes, is))) = whole_is_taken log fates read found sifted takes is
kept_is_taken log fates read sifted (inr (long, (found, takes, is))) = cut_is_fine log fates read found sifted takes is
