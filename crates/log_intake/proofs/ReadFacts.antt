-- What lines refuse in front of whatever comes.
use Rattle.std.proofs.Common.{◌≡◌, ℕ, ◌+◌, ◌-◌, ◌<◌, ◌≤◌, inl, inr, List, [], ◌∷◌, ◌++◌, length, take, Bool, true, false, Result, Ok, Err, refl, sym, ◌∙◌, ap, subst, arith, append_assoc}
use Rattle.std.specs.Prelude.{nat_le}
use Rattle.std.proofs.lemmas.List.{append-nil, length-append}
use Rattle.std.proofs.Math.Seq.{take-append-add}
use Rattle.std.proofs.lemmas.Bool.{and_parts, leb-true}
use Rattle.std.proofs.lemmas.Bool.Decides.{leb_tells, nat_tests}
use Rattle.line_reader.specs.Lines.{NumberedLine, longest_line, whole_lines, rest_of, last_line, lines_from, is_blank, is_dropped, number_line, numbered, number_after, count_behind}
use Rattle.line_reader.specs.Reading.{Reading, Continues, HoldsRest, IsTooLong, StartsTooLong, new_reading}
use Rattle.log_intake.specs.declared.stop.LogStop.{LogStop}
use Rattle.log_intake.specs.declared.stop.LogStop.TheVariants.{LineTooLong, TooLong}
use Rattle.log_intake.specs.Batches.{fed_with}
use Rattle.log_intake.specs.Log.{IsLogRead, LogState, TakesLine, TakesLines, cut_line, cut_lines, kept_of, most_input, most_input_is, nothing_read}
use Rattle.log_intake.specs.Taking.{HoldsNoRefusal}
use Rattle.log_intake.proofs.BatchFacts.{rest_short}
use Rattle.log_intake.proofs.StepFacts.{in_order_parts, in_order_refused, in_order_then}

pub limit_is : 1099511627776 ≡ most_input
limit_is = sym most_input_is

pub numbered-append : (count : ℕ) (xs ys : List (List ℕ)) → numbered count (xs ++ ys) ≡ numbered count xs ++ numbered (count_behind count xs) ys
numbered-append count [] ys = refl
numbered-append count (x ∷ xs) ys = go (is_dropped x) refl (numbered-append (number_after count) xs ys)
  where
    go : (t : Bool) → is_dropped x ≡ t → numbered (number_after count) (xs ++ ys) ≡ numbered (number_after count) xs ++ numbered (count_behind (number_after count) xs) ys
        → numbered count (x ∷ xs ++ ys) ≡ numbered count (x ∷ xs) ++ numbered (count_behind count (x ∷ xs)) ys
    go true is same = rw is same
    go false is same = rw is (ap (λ l. record { number = number_after count; bytes = x } ∷ l) same)

-- a front of a log refuses this, whether it goes on or is cut by the limit
pub record FrontRefuses (front : List ℕ) (stop : LogStop) : Type 0 where
  pub lines : (more : List ℕ) → TakesLines nothing_read (lines_from 0 (front ++ more)) (Err stop)
  pub cut : (more : List ℕ) → TakesLines nothing_read (cut_lines (front ++ more)) (Err stop)

-- lines that were given refuse
pub given_refuse : (front : List ℕ) (reader : Reading) (given : List NumberedLine) (stop : LogStop) → Continues (fed_with new_reading front) given reader → TakesLines nothing_read given (Err stop) → FrontRefuses front stop
given_refuse front reader given stop c refused = record {
  lines = λ more. subst (λ l. TakesLines nothing_read l (Err stop)) (sym (c.lines more)) (in_order_refused TakesLine nothing_read given (lines_from reader.number (reader.pending ++ more)) stop refused);
  cut = λ more.
      let rest = cut_line (rest_of (front ++ more)) in
      let whole = whole_lines (front ++ more) in
      let left = numbered reader.number (whole_lines (reader.pending ++ more)) in
      let behind = numbered (count_behind 0 whole) rest in
      let is : cut_lines (front ++ more) ≡ given ++ (left ++ behind) =
      numbered-append 0 whole rest ∙ ap (λ l. l ++ behind) (c.whole more) ∙ append_assoc given left behind in
      subst (λ l. TakesLines nothing_read l (Err stop)) (sym is) (in_order_refused TakesLine nothing_read given (left ++ behind) stop refused);
}

-- a line that is too long is refused
too_long_refused : (state : LogState) (lines : List NumberedLine) (number : ℕ) → StartsTooLong number lines → TakesLines state lines (Err LineTooLong)
too_long_refused state [] number long = absurd long
too_long_refused state (line ∷ lines) number long = inr (LineTooLong, inl (long.1, refl), refl)

-- so is one that the limit cuts
too_long_cut : (state : LogState) (number count count' : ℕ) (lines : List (List ℕ)) (rest : List ℕ) → StartsTooLong number (numbered count (lines ++ last_line rest)) → TakesLines state (numbered count lines ++ numbered count' (cut_line rest)) (Err LineTooLong)
too_long_cut state number count count' [] [] long = absurd long
too_long_cut state number count count' [] (byte ∷ rest) long = go (is_dropped (byte ∷ rest)) refl
  where
    go : (t : Bool) → is_dropped (byte ∷ rest) ≡ t → TakesLines state (numbered count' (cut_line (byte ∷ rest))) (Err LineTooLong)
    go true is = absurd (rw is at long)
    go false is =
        let l : StartsTooLong number (number_line false (number_after count) (byte ∷ rest) []) = rw is at long in
        let many = l.1 in
        let past : nat_le (length (byte ∷ rest)) longest_line ≡ false = grind (arith, nat_tests) in
        let whole : cut_line (byte ∷ rest) ≡ (byte ∷ rest) ∷ [] = rw past refl in
        subst (λ l. TakesLines state (numbered count' l) (Err LineTooLong)) (sym whole) (rw is (inr (LineTooLong, inl (many, refl), refl)))
too_long_cut state number count count' (line ∷ lines) rest long = go (is_dropped line) refl (too_long_cut state number (number_after count) count' lines rest)
  where
    go : (t : Bool) → is_dropped line ≡ t → (StartsTooLong number (numbered (number_after count) (lines ++ last_line rest)) → TakesLines state (numbered (number_after count) lines ++ numbered count' (cut_line rest)) (Err LineTooLong))
        → TakesLines state (numbered count (line ∷ lines) ++ numbered count' (cut_line rest)) (Err LineTooLong)
    go true is more = rw is (more (rw is at long))
    go false is more =
        let l : StartsTooLong number (number_line false (number_after count) line (numbered (number_after count) (lines ++ last_line rest))) = rw is at long in
        rw is (inr (LineTooLong, inl (l.1, refl), refl))

-- behind lines that are taken a line is too long
pub long_refuses : (front : List ℕ) (reader : Reading) (given : List NumberedLine) (state : LogState) (number : ℕ) → Continues (fed_with new_reading front) given reader → TakesLines nothing_read given (Ok state) → IsTooLong number reader → FrontRefuses front LineTooLong
long_refuses front reader given state number c takes long = record {
  lines = λ more. subst (λ l. TakesLines nothing_read l (Err LineTooLong)) (sym (c.lines more))
      (in_order_then TakesLine nothing_read state given (lines_from reader.number (reader.pending ++ more)) (Err LineTooLong) takes (too_long_refused state (lines_from reader.number (reader.pending ++ more)) number (long more)));
  cut = λ more.
      let rest = cut_line (rest_of (front ++ more)) in
      let whole = whole_lines (front ++ more) in
      let left = numbered reader.number (whole_lines (reader.pending ++ more)) in
      let behind = numbered (count_behind 0 whole) rest in
      let is : cut_lines (front ++ more) ≡ given ++ (left ++ behind) =
      numbered-append 0 whole rest ∙ ap (λ l. l ++ behind) (c.whole more) ∙ append_assoc given left behind in
      let last : rest_of (front ++ more) ≡ rest_of (reader.pending ++ more) = c.rest more in
      let stops : TakesLines state (left ++ numbered (count_behind 0 whole) (cut_line (rest_of (reader.pending ++ more)))) (Err LineTooLong) =
      too_long_cut state number reader.number (count_behind 0 whole) (whole_lines (reader.pending ++ more)) (rest_of (reader.pending ++ more)) (long more) in
      subst (λ l. TakesLines nothing_read l (Err LineTooLong)) (sym is)
      (in_order_then TakesLine nothing_read state given (left ++ behind) (Err LineTooLong) takes
      (subst (λ r. TakesLines state (left ++ numbered (count_behind 0 whole) (cut_line r)) (Err LineTooLong)) (sym last) stops));
}

-- a front longer than this one
take_front : (front behind : List ℕ) (limit : ℕ) → length front ≤ limit → take limit (front ++ behind) ≡ front ++ take (limit - length front) behind
take_front front behind limit within =
    let sum : limit ≡ length front + (limit - length front) = omega (arith, within) in
    ap (λ n. take n (front ++ behind)) sum ∙ take-append-add front behind (limit - length front)

pub log_refused : (bytes front behind : List ℕ) (stop : LogStop) → bytes ≡ front ++ behind → length front ≤ 1099511627776 → FrontRefuses front stop → IsLogRead bytes (Err stop)
log_refused bytes front behind stop is within r = elim (leb_tells (length bytes) most_input) [
  | inl small ↦ inl (small.1, (Err stop, (rw is (r.lines behind)), refl))
  | inr large ↦ inr (large.1, (Err stop, (rw (is, ← limit_is, take_front front behind 1099511627776 within) (r.cut (take (1099511627776 - length front) behind))), refl))
]

-- what was given is all that is whole
pub given_whole : (front : List ℕ) (given : List NumberedLine) (reader : Reading) → Continues (fed_with new_reading front) given reader → whole_lines reader.pending ≡ [] → numbered 0 (whole_lines front) ≡ given
given_whole front given reader c none =
    ap (λ b. numbered 0 (whole_lines b)) (sym (append-nil front)) ∙ c.whole [] ∙ ap (λ b. given ++ numbered reader.number (whole_lines b)) (append-nil reader.pending) ∙ ap (λ l. given ++ numbered reader.number l) none ∙ append-nil given

pub rest_within : (front : List ℕ) (given : List NumberedLine) (reader : Reading) → Continues (fed_with new_reading front) given reader → HoldsRest reader → length (rest_of front) ≤ longest_line
rest_within front given reader c h =
    let rest : rest_of front ≡ rest_of reader.pending = ap (λ b. rest_of b) (sym (append-nil front)) ∙ c.rest [] ∙ ap (λ b. rest_of b) (append-nil reader.pending) in
    let a = rest_short reader.pending in
    let b = h.short in
    rw rest (omega (arith, a, b))

pub front_holds : (front : List ℕ) (given : List NumberedLine) (reader : Reading) (state : LogState) → Continues (fed_with new_reading front) given reader → HoldsRest reader → TakesLines nothing_read given (Ok state) → length front ≤ 1099511627776 → HoldsNoRefusal front
front_holds front given reader state c h takes within = record {
  state = state;
  lines = subst (λ l. TakesLines nothing_read l (Ok state)) (sym (given_whole front given reader c h.whole)) takes;
  short = rest_within front given reader c h;
  within = rw (← limit_is) within;
}

uncut : (rest : List ℕ) → length rest ≤ longest_line → cut_line rest ≡ []
uncut rest short = let fits : nat_le (length rest) longest_line ≡ true = grind (arith, nat_tests) in rw fits refl

-- a log that passes the limit behind these bytes
pub log_past : (bytes front behind : List ℕ) (given : List NumberedLine) (reader : Reading) (state : LogState) → bytes ≡ front ++ behind → length front ≡ 1099511627776 → 0 < length behind → Continues (fed_with new_reading front) given reader → HoldsRest reader → TakesLines nothing_read given (Ok state) → IsLogRead bytes (Err TooLong)
log_past bytes front behind given reader state is long some c h takes =
    let all : take most_input bytes ≡ front = rw (is, ← limit_is) (take_front front behind 1099511627776 (omega (arith, long)) ∙ ap (λ n. front ++ take n behind) (let e : 1099511627776 - length front ≡ 0 = omega (arith, long) in e) ∙ append-nil front) in
    let sum = length-append front behind in
    let cut : cut_lines front ≡ given =
    ap (λ l. numbered 0 (whole_lines front ++ l)) (uncut (rest_of front) (rest_within front given reader c h)) ∙ ap (λ l. numbered 0 l) (append-nil (whole_lines front)) ∙ given_whole front given reader c h.whole in
    inr (
      rw (is, ← limit_is) (omega (arith, sum, long, some)),
      (Ok state, rw all (subst (λ l. TakesLines nothing_read l (Ok state)) (sym cut) takes), refl),
    )

-- a log that ends here
pub log_whole : (front : List ℕ) (given : List NumberedLine) (found : Result LogState LogStop) → length front ≤ 1099511627776 → lines_from 0 front ≡ given → TakesLines nothing_read given found → IsLogRead front (kept_of found)
log_whole front given found within is takes = inl (rw (← limit_is) within, (found, subst (λ l. TakesLines nothing_read l found) (sym is) takes, refl))

line_short : (state after : LogState) (line : NumberedLine) → TakesLines state (line ∷ []) (Ok after) → length line.bytes ≤ longest_line
line_short state after line (inl (next, inl (long, is), rest)) = absurd (let no : Ok next ≡ Err LineTooLong = is in cc)
line_short state after line (inl (next, inr (short, takes), rest)) = short
line_short state after line (inr (why, step, is)) = absurd (let no : Ok after ≡ Err why = is in cc)

dropped_short : (line : List ℕ) → is_dropped line ≡ true → length line ≤ longest_line
dropped_short line is = leb-true (length line) longest_line (and_parts (nat_le (length line) longest_line) (is_blank line) is).0

-- a rest that is taken as a line isn't too long
rest_taken : (state after : LogState) (count : ℕ) (rest : List ℕ) → TakesLines state (numbered count (last_line rest)) (Ok after) → length rest ≤ longest_line
rest_taken state after count [] takes = omega arith
rest_taken state after count (byte ∷ rest) takes = go (is_dropped (byte ∷ rest)) refl
  where
    go : (t : Bool) → is_dropped (byte ∷ rest) ≡ t → length (byte ∷ rest) ≤ longest_line
    go true is = dropped_short (byte ∷ rest) is
    go false is = line_short state after (record { number = number_after count; bytes = byte ∷ rest }) (rw is at takes)

-- a log that ends here and is taken whole
pub log_holds : (front : List ℕ) (given : List NumberedLine) (state : LogState) → lines_from 0 front ≡ given → TakesLines nothing_read given (Ok state) → length front ≤ 1099511627776 → HoldsNoRefusal front
log_holds front given state is takes within =
    let whole = whole_lines front in
    let last = last_line (rest_of front) in
    let all : TakesLines nothing_read (numbered 0 whole ++ numbered (count_behind 0 whole) last) (Ok state) = subst (λ l. TakesLines nothing_read l (Ok state)) (sym is ∙ numbered-append 0 whole last) takes in
    let parts = in_order_parts TakesLine nothing_read state (numbered 0 whole) (numbered (count_behind 0 whole) last) all in
    record {
      state = parts.0;
      lines = parts.1;
      short = rest_taken parts.0 state (count_behind 0 whole) (rest_of front) parts.2;
      within = rw (← limit_is) within;
    }
