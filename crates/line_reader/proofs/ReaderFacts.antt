-- What the calls of a line reader do, over its reading.
use Rattle.std.proofs.Common.{◌≡◌, ◌≢◌, ℕ, suc, ◌+◌, ◌-◌, ◌<◌, ◌≤◌, List, [], ◌∷◌, ◌++◌, length, take, drop, Bool, true, false, All, refl, sym, ◌∙◌, ap, arith, append_assoc}
use Rattle.std.proofs.lemmas.List.{length-append, length-drop, length-take, append-nil, take-append-drop, drop_all}
use Rattle.std.proofs.lemmas.Bool.Decides.{nat_tests}
use Rattle.std.specs.Prelude.{nat_le, nat_eq, Option, Some, None, IfSome, IfNone, IsTrue, is_some, ◌↔◌}
use Rattle.std.proofs.Common.{get_or, Any, not, subst}
use Rattle.std.proofs.lemmas.Bool.{eqb-true}
use Rattle.std.proofs.Math.Seq.{drop-cons, get_or-append_seam}
use Rattle.line_reader.specs.Lines.{newline, NumberedLine, longest_line, extend_first, extend_rest, whole_lines, rest_of, last_line, closing_of, lines_of, is_dropped, number_after, numbered, lines_from, count_behind}
use Rattle.line_reader.specs.Reading.{Reading, Continues, HoldsRest, StartsTooLong, IsTooLong, HasWaiting}
use Rattle.line_reader.specs.Search.{HasNoNewline, Skips, IsLineAt}
use Rattle.line_reader.proofs.LineFacts.{not_newline, whole_lines-line, rest_of-line, whole_lines-none, rest_of-none, numbered-dropped, count_behind-append, All-head, All-tail}

-- lines that are dropped are skipped
pub skips_continues : (number : ℕ) (pending : List ℕ) (ended ended' : Bool) (start behind : ℕ) → Skips pending number start behind → Continues record { number = number; pending = pending; ended = ended } [] record { number = behind; pending = drop start pending; ended = ended' }
skips_continues number pending ended ended' start behind s = record {
  lines = λ more. ap (λ lines. numbered number (lines ++ last_line (rest_of (pending ++ more)))) (s.cut more)
      ∙ ap (λ rest. numbered number ((s.lines ++ whole_lines (drop start pending ++ more)) ++ last_line rest)) (s.rest more)
      ∙ ap (λ lines. numbered number lines) (append_assoc s.lines (whole_lines (drop start pending ++ more)) (last_line (rest_of (drop start pending ++ more))))
      ∙ numbered-dropped number s.lines (lines_of (drop start pending ++ more)) s.dropped
      ∙ ap (λ n. numbered n (lines_of (drop start pending ++ more))) (sym s.counted);
  whole = λ more. ap (λ lines. numbered number lines) (s.cut more)
      ∙ numbered-dropped number s.lines (whole_lines (drop start pending ++ more)) s.dropped
      ∙ ap (λ n. numbered n (whole_lines (drop start pending ++ more))) (sym s.counted);
  rest = s.rest;
  count = λ more. ap (λ lines. count_behind number lines) (s.cut more)
      ∙ count_behind-append number s.lines (whole_lines (drop start pending ++ more))
      ∙ ap (λ n. count_behind n (whole_lines (drop start pending ++ more))) (sym s.counted);
}

-- a line and its newline at the front is given
pub line_continues : (number : ℕ) (pending line behind : List ℕ) (ended ended' : Bool) → pending ≡ line ++ newline ∷ behind → HasNoNewline line → is_dropped line ≡ false → Continues record { number = number; pending = pending; ended = ended } (record { number = number_after number; bytes = line } ∷ []) record { number = number_after number; pending = behind; ended = ended' }
line_continues number pending line behind ended ended' is none kept =
    let front : (more : List ℕ) → pending ++ more ≡ line ++ newline ∷ (behind ++ more) = λ more. ap (λ bytes. bytes ++ more) is ∙ append_assoc line (newline ∷ behind) more in
    let whole : (more : List ℕ) → whole_lines (pending ++ more) ≡ line ∷ whole_lines (behind ++ more) = λ more. ap (λ bytes. whole_lines bytes) (front more) ∙ whole_lines-line line (behind ++ more) none in
    let rest : (more : List ℕ) → rest_of (pending ++ more) ≡ rest_of (behind ++ more) = λ more. ap (λ bytes. rest_of bytes) (front more) ∙ rest_of-line line (behind ++ more) none in
    record {
      lines = λ more. rw (whole more, rest more, kept) refl;
      whole = λ more. rw (whole more, kept) refl;
      rest = rest;
      count = λ more. rw (whole more) refl;
    }

-- one after the other
pub continues_both : (a b c : Reading) (xs ys : List NumberedLine) → Continues a xs b → Continues b ys c → Continues a (xs ++ ys) c
continues_both a b c xs ys first second = record {
  lines = λ more. first.lines more ∙ ap (λ lines. xs ++ lines) (second.lines more) ∙ sym (append_assoc xs ys (lines_from c.number (c.pending ++ more)));
  whole = λ more. first.whole more ∙ ap (λ lines. xs ++ lines) (second.whole more) ∙ sym (append_assoc xs ys (numbered c.number (whole_lines (c.pending ++ more))));
  rest = λ more. first.rest more ∙ second.rest more;
  count = λ more. first.count more ∙ second.count more;
}

-- a line that has begun, before whatever comes
abbrev begun : List ℕ → List (List ℕ) → List (List ℕ)
begun front [] = []
begun front (line ∷ lines) = (front ++ line) ∷ lines

abbrev begun_rest : List ℕ → List (List ℕ) → List ℕ → List ℕ
begun_rest front [] rest = front ++ rest
begun_rest front (line ∷ lines) rest = rest

extend-begun : (byte : ℕ) (front : List ℕ) (lines : List (List ℕ)) → extend_first byte (begun front lines) ≡ begun (byte ∷ front) lines
extend-begun byte front [] = refl
extend-begun byte front (line ∷ lines) = refl

extend_rest-begun : (byte : ℕ) (front : List ℕ) (lines : List (List ℕ)) (rest : List ℕ) → extend_rest byte (begun front lines) (begun_rest front lines rest) ≡ begun_rest (byte ∷ front) lines rest
extend_rest-begun byte front [] rest = refl
extend_rest-begun byte front (line ∷ lines) rest = refl

nothing_begun : (lines : List (List ℕ)) → lines ≡ begun [] lines
nothing_begun [] = refl
nothing_begun (line ∷ lines) = refl

nothing_begun_rest : (lines : List (List ℕ)) (rest : List ℕ) → rest ≡ begun_rest [] lines rest
nothing_begun_rest [] rest = refl
nothing_begun_rest (line ∷ lines) rest = refl

whole_lines-begun : (front more : List ℕ) → HasNoNewline front → whole_lines (front ++ more) ≡ begun front (whole_lines more)
whole_lines-begun [] more none = nothing_begun (whole_lines more)
whole_lines-begun (byte ∷ front) more none = rw (not_newline byte (All-head (λ b. b ≢ newline) byte front none), whole_lines-begun front more (All-tail (λ b. b ≢ newline) byte front none)) (extend-begun byte front (whole_lines more))

rest_of-begun : (front more : List ℕ) → HasNoNewline front → rest_of (front ++ more) ≡ begun_rest front (whole_lines more) (rest_of more)
rest_of-begun [] more none = nothing_begun_rest (whole_lines more) (rest_of more)
rest_of-begun (byte ∷ front) more none = rw (not_newline byte (All-head (λ b. b ≢ newline) byte front none), whole_lines-begun front more (All-tail (λ b. b ≢ newline) byte front none), rest_of-begun front more (All-tail (λ b. b ≢ newline) byte front none)) (extend_rest-begun byte front (whole_lines more) (rest_of more))

-- the first line is too long
too_long_first : (number : ℕ) (line : List ℕ) (lines : List (List ℕ)) → longest_line < length line → StartsTooLong (number_after number) (numbered number (line ∷ lines))
too_long_first number line lines long =
    let past : nat_le (length line) longest_line ≡ false = grind (arith, nat_tests) in
    rw past (refl, long)

-- a line that has begun with many bytes is too long, whatever comes
too_long_begun : (number byte : ℕ) (front : List ℕ) (lines : List (List ℕ)) (rest : List ℕ) → longest_line < length (byte ∷ front) → StartsTooLong (number_after number) (numbered number (begun (byte ∷ front) lines ++ last_line (begun_rest (byte ∷ front) lines rest)))
too_long_begun number byte front [] rest long = too_long_first number (byte ∷ (front ++ rest)) [] (let more = length-append front rest in omega (arith, long, more))
too_long_begun number byte front (line ∷ lines) rest long = too_long_first number (byte ∷ (front ++ line)) (lines ++ last_line rest) (let more = length-append front line in omega (arith, long, more))

-- where no newline is left, and the line that has begun isn't too long
pub holds_rest : (number : ℕ) (pending : List ℕ) (ended : Bool) → HasNoNewline pending → length pending ≤ longest_line → (ended ≡ true → rest_of pending ≡ []) → HoldsRest record { number = number; pending = pending; ended = ended }
holds_rest number pending ended none short all = record { whole = whole_lines-none pending none; short = short; all_given = λ is. sym (rest_of-none pending none) ∙ all is }

-- a line that is too long, whether a newline ends it or not
pub rest_too_long : (number : ℕ) (pending : List ℕ) (ended : Bool) → HasNoNewline pending → longest_line < length pending → IsTooLong (number_after number) record { number = number; pending = pending; ended = ended }
rest_too_long number [] ended none long = absurd (omega (arith, long))
rest_too_long number (byte ∷ front) ended none long = λ more. rw (whole_lines-begun (byte ∷ front) more none, rest_of-begun (byte ∷ front) more none) (too_long_begun number byte front (whole_lines more) (rest_of more) long)

pub line_too_long : (number : ℕ) (pending line behind : List ℕ) (ended : Bool) → pending ≡ line ++ newline ∷ behind → HasNoNewline line → is_dropped line ≡ false → longest_line < length line → IsTooLong (number_after number) record { number = number; pending = pending; ended = ended }
line_too_long number pending line behind ended is none kept long = λ more. rw ((line_continues number pending line behind ended ended is none kept).lines more) (refl, long)

-- too long behind what is skipped is too long before it
pub too_long_before : (a b : Reading) (number : ℕ) → Continues a [] b → IsTooLong number b → IsTooLong number a
too_long_before a b number c long = λ more. rw (c.lines more) (long more)

-- a newline closes the line that has begun
close_first : (byte : ℕ) (lines : List (List ℕ)) (rest : List ℕ) → extend_first byte (lines ++ rest ∷ []) ≡ extend_first byte lines ++ extend_rest byte lines rest ∷ []
close_first byte [] rest = refl
close_first byte (line ∷ lines) rest = refl

close_rest : (byte : ℕ) (lines : List (List ℕ)) (line rest : List ℕ) → extend_rest byte (lines ++ line ∷ []) rest ≡ rest
close_rest byte [] line rest = refl
close_rest byte (other ∷ lines) line rest = refl

pub whole_lines-close : (bytes : List ℕ) → whole_lines (bytes ++ newline ∷ []) ≡ whole_lines bytes ++ rest_of bytes ∷ []
whole_lines-close [] = refl
whole_lines-close (byte ∷ bytes) = go (nat_eq byte newline) refl (whole_lines-close bytes)
  where
    go : (t : Bool) → nat_eq byte newline ≡ t → whole_lines (bytes ++ newline ∷ []) ≡ whole_lines bytes ++ rest_of bytes ∷ [] → whole_lines (byte ∷ bytes ++ newline ∷ []) ≡ whole_lines (byte ∷ bytes) ++ rest_of (byte ∷ bytes) ∷ []
    go true is closed = rw (is, closed) refl
    go false is closed = rw (is, closed) (close_first byte (whole_lines bytes) (rest_of bytes))

pub rest_of-close : (bytes : List ℕ) → rest_of (bytes ++ newline ∷ []) ≡ []
rest_of-close [] = refl
rest_of-close (byte ∷ bytes) = go (nat_eq byte newline) refl (rest_of-close bytes)
  where
    go : (t : Bool) → nat_eq byte newline ≡ t → rest_of (bytes ++ newline ∷ []) ≡ [] → rest_of (byte ∷ bytes ++ newline ∷ []) ≡ []
    go true is closed = rw is closed
    go false is closed = rw (is, whole_lines-close bytes) (close_rest byte (whole_lines bytes) (rest_of bytes) (rest_of (bytes ++ newline ∷ [])) ∙ closed)

some_line : (rest : List ℕ) → rest ≢ [] → last_line rest ≡ rest ∷ []
some_line [] some = absurd (some refl)
some_line (byte ∷ rest) some = refl

-- with it the lines are the same
pub lines_of-close : (bytes : List ℕ) → rest_of bytes ≢ [] → lines_of (bytes ++ newline ∷ []) ≡ lines_of bytes
lines_of-close bytes some = rw (whole_lines-close bytes, rest_of-close bytes, some_line (rest_of bytes) some) (append-nil (whole_lines bytes ++ rest_of bytes ∷ []))

-- the closing newline changes no line, and leaves no rest
pub lines_of-closing : (bytes rest : List ℕ) → rest_of bytes ≡ rest → lines_of (bytes ++ closing_of rest) ≡ lines_of bytes
lines_of-closing bytes [] is = ap (λ b. lines_of b) (append-nil bytes)
lines_of-closing bytes (byte ∷ rest) is = lines_of-close bytes (λ none. let no : byte ∷ rest ≡ [] = sym is ∙ none in cc)

pub rest_of-closing : (bytes rest : List ℕ) → rest_of bytes ≡ rest → rest_of (bytes ++ closing_of rest) ≡ []
rest_of-closing bytes [] is = ap (λ b. rest_of b) (append-nil bytes) ∙ is
rest_of-closing bytes (byte ∷ rest) is = rest_of-close bytes

pub closing_of-some : (rest : List ℕ) → rest ≢ [] → closing_of rest ≡ newline ∷ []
closing_of-some [] some = absurd (some refl)
closing_of-some (byte ∷ rest) some = refl

-- the last byte tells whether a line has begun
rest_one : (byte : ℕ) → byte ≢ newline → rest_of (byte ∷ []) ≢ []
rest_one byte differs = rw (not_newline byte differs) (λ none. cc)

extended : (byte : ℕ) (lines : List (List ℕ)) (rest : List ℕ) → rest ≢ [] → extend_rest byte lines rest ≢ []
extended byte [] rest some = λ none. cc
extended byte (line ∷ lines) rest some = some

pub rest_of-open : (bytes : List ℕ) → 0 < length bytes → get_or bytes (length bytes - 1) 0 ≢ newline → rest_of bytes ≢ []
rest_of-open [] some differs = absurd (omega (arith, some))
rest_of-open (byte ∷ []) some differs = rest_one byte differs
rest_of-open (byte ∷ next ∷ bytes) some differs = go (nat_eq byte newline) refl (rest_of-open (next ∷ bytes) (omega arith) (let e : length (byte ∷ next ∷ bytes) - 1 ≡ suc (length (next ∷ bytes) - 1) = omega arith in rw e at differs))
  where
    go : (t : Bool) → nat_eq byte newline ≡ t → rest_of (next ∷ bytes) ≢ [] → rest_of (byte ∷ next ∷ bytes) ≢ []
    go true is rest = rw is rest
    go false is rest = rw is (extended byte (whole_lines (next ∷ bytes)) (rest_of (next ∷ bytes)) rest)

closed_rest : (byte : ℕ) (lines : List (List ℕ)) (rest : List ℕ) → rest ≡ [] → lines ≢ [] → extend_rest byte lines rest ≡ []
closed_rest byte [] rest none some = absurd (some refl)
closed_rest byte (line ∷ lines) rest none some = none

pub rest_of-closed : (bytes : List ℕ) → 0 < length bytes → get_or bytes (length bytes - 1) 0 ≡ newline → rest_of bytes ≡ []
rest_of-closed bytes some is =
    let behind : drop (length bytes - 1) bytes ≡ newline ∷ [] = drop-cons bytes (length bytes - 1) 0 (omega (arith, some)) ∙ (rw (is, drop_all (suc (length bytes - 1)) bytes (omega (arith, some))) refl) in
    let whole : bytes ≡ take (length bytes - 1) bytes ++ newline ∷ [] = sym (take-append-drop (length bytes - 1) bytes) ∙ ap (λ last. take (length bytes - 1) bytes ++ last) behind in
    ap (λ b. rest_of b) whole ∙ rest_of-close (take (length bytes - 1) bytes)

-- the whole lines that wait are those that are dropped and those behind them
whole_lines-skipped : (number : ℕ) (pending : List ℕ) (start behind : ℕ) → (s : Skips pending number start behind) → whole_lines pending ≡ s.lines ++ whole_lines (drop start pending)
whole_lines-skipped number pending start behind s =
    ap (λ bytes. whole_lines bytes) (sym (append-nil pending)) ∙ s.cut [] ∙ ap (λ bytes. s.lines ++ whole_lines bytes) (append-nil (drop start pending))

-- a line of the list that isn't dropped is none of those that are
kept_among : (lines others : List (List ℕ)) (line : List ℕ) → is_dropped line ≡ false → Any (λ l. is_dropped l ≡ false) (lines ++ line ∷ others)
kept_among lines others line kept = (length lines, line, (let e = length-append lines (line ∷ others) in omega (arith, e)), get_or-append_seam lines line others line, kept)

dropped_all : (lines : List (List ℕ)) → All (λ l. is_dropped l ≡ true) lines → Any (λ l. is_dropped l ≡ false) lines → ⊥
dropped_all lines all (at, line, within, is, kept) =
    let dropped : is_dropped line ≡ true = ap (λ l. is_dropped l) (sym is) ∙ all at line within in
    let no : true ≡ false = sym dropped ∙ kept in cc

-- whether a line waits
pub waits_some : (number : ℕ) (pending : List ℕ) (ended : Bool) (start behind len : ℕ) → Skips pending number start behind → IsLineAt pending start len → HasWaiting record { number = number; pending = pending; ended = ended }
waits_some number pending ended start behind len s at =
    let line : whole_lines (drop start pending) ≡ take len (drop start pending) ∷ whole_lines (drop (start + len + 1) pending) = ap (λ bytes. whole_lines bytes) at.cut ∙ whole_lines-line (take len (drop start pending)) (drop (start + len + 1) pending) at.line in
    rw (whole_lines-skipped number pending start behind s ∙ ap (λ lines. s.lines ++ lines) line) (kept_among s.lines (whole_lines (drop (start + len + 1) pending)) (take len (drop start pending)) at.kept)

pub waits_none : (number : ℕ) (pending : List ℕ) (ended : Bool) (start behind : ℕ) → Skips pending number start behind → HasNoNewline (drop start pending) → HasWaiting record { number = number; pending = pending; ended = ended } → ⊥
waits_none number pending ended start behind s none waits =
    let lines : whole_lines pending ≡ s.lines = whole_lines-skipped number pending start behind s ∙ ap (λ lines. s.lines ++ lines) (whole_lines-none (drop start pending) none) ∙ append-nil s.lines in
    dropped_all s.lines s.dropped (rw lines at waits)

-- the test of the last byte
pub ends_open_is : (bytes : List ℕ) → 1 ≤ length bytes → not (nat_eq (get_or bytes (length bytes - 1) 0) newline) ≡ true → rest_of bytes ≢ []
ends_open_is bytes some is = rest_of-open bytes some (λ last. let yes : nat_eq (get_or bytes (length bytes - 1) 0) newline ≡ true = ap (λ b. nat_eq b newline) last in let no : false ≡ true = ap (λ t. not t) (sym yes) ∙ is in cc)

twice : (t : Bool) → not (not t) ≡ t
twice true = refl
twice false = refl

pub ends_closed_is : (bytes : List ℕ) → 1 ≤ length bytes → not (nat_eq (get_or bytes (length bytes - 1) 0) newline) ≡ false → rest_of bytes ≡ []
ends_closed_is bytes some is = rest_of-closed bytes some (eqb-true (get_or bytes (length bytes - 1) 0) newline (sym (twice (nat_eq (get_or bytes (length bytes - 1) 0) newline)) ∙ ap (λ t. not t) is))

pub waits_is : (r : Reading) (start behind : ℕ) (len : Option ℕ) → Skips r.pending r.number start behind → IfSome len (λ n. IsLineAt r.pending start n) → IfNone len (HasNoNewline (drop start r.pending)) → IsTrue (is_some len) ↔ HasWaiting r
waits_is r start behind None s some none = (λ no. absurd (let h : false ≡ true = no in cc), λ waits. absurd (waits_none r.number r.pending r.ended start behind s none waits))
waits_is r start behind (Some len) s at none = (λ _. waits_some r.number r.pending r.ended start behind len s at, λ _. refl)

-- what `next_line` found, piece by piece
pub gives_line : (r b : Reading) (line : NumberedLine) (start behind len : ℕ) → Skips r.pending r.number start behind → IsLineAt r.pending start len → line.number ≡ number_after behind → line.bytes ≡ take len (drop start r.pending) → b.number ≡ number_after behind → b.pending ≡ drop (start + len + 1) r.pending → Continues r (line ∷ []) b
gives_line r b line start behind len s at line_number line_bytes number pending =
    let l : record { number = number_after behind; bytes = take len (drop start r.pending) } ≡ line = λ i. record { number = (sym line_number) i; bytes = (sym line_bytes) i } in
    let to : record { number = number_after behind; pending = drop (start + len + 1) r.pending; ended = b.ended } ≡ b = λ i. record { number = (sym number) i; pending = (sym pending) i; ended = b.ended } in
    let skipped = skips_continues r.number r.pending r.ended r.ended start behind s in
    let given = line_continues behind (drop start r.pending) (take len (drop start r.pending)) (drop (start + len + 1) r.pending) r.ended b.ended at.cut at.line at.kept in
    let both = continues_both r record { number = behind; pending = drop start r.pending; ended = r.ended } record { number = number_after behind; pending = drop (start + len + 1) r.pending; ended = b.ended } [] (record { number = number_after behind; bytes = take len (drop start r.pending) } ∷ []) skipped given in
    let P : NumberedLine → Type 0 = λ x. Continues r (x ∷ []) b in
    let Q : Reading → Type 0 = λ y. Continues r (record { number = number_after behind; bytes = take len (drop start r.pending) } ∷ []) y in
    subst P l (subst Q to both)

pub gives_none : (r b : Reading) (start behind : ℕ) → Skips r.pending r.number start behind → b.number ≡ behind → b.pending ≡ drop start r.pending → Continues r [] b
gives_none r b start behind s number pending =
    let to : record { number = behind; pending = drop start r.pending; ended = b.ended } ≡ b = λ i. record { number = (sym number) i; pending = (sym pending) i; ended = b.ended } in
    let Q : Reading → Type 0 = λ y. Continues r [] y in
    subst Q to (skips_continues r.number r.pending r.ended b.ended start behind s)

-- the next line is too long
pub whole_too_long : (r : Reading) (start behind len : ℕ) → Skips r.pending r.number start behind → IsLineAt r.pending start len → longest_line < len → IsTooLong (number_after behind) r
whole_too_long r start behind len s at long =
    let left = length-drop start r.pending in
    let w = at.within in
    let all : length (take len (drop start r.pending)) ≡ len = length-take len (drop start r.pending) ∙ (omega (arith, left, w)) in
    too_long_before r record { number = behind; pending = drop start r.pending; ended = r.ended } (number_after behind) (skips_continues r.number r.pending r.ended r.ended start behind s)
    (line_too_long behind (drop start r.pending) (take len (drop start r.pending)) (drop (start + len + 1) r.pending) r.ended at.cut at.line at.kept (rw all long))

pub part_too_long : (r : Reading) (start behind : ℕ) → Skips r.pending r.number start behind → HasNoNewline (drop start r.pending) → longest_line < length (drop start r.pending) → IsTooLong (number_after behind) r
part_too_long r start behind s none long =
    too_long_before r record { number = behind; pending = drop start r.pending; ended = r.ended } (number_after behind) (skips_continues r.number r.pending r.ended r.ended start behind s)
    (rest_too_long behind (drop start r.pending) r.ended none long)
