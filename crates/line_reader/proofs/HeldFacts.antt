-- What the reader keeps, after each call.
use Rattle.std.proofs.Common.{◌≡◌, ℕ, ◌+◌, ◌-◌, ◌<◌, ◌≤◌, List, [], ◌++◌, length, take, drop, true, false, refl, sym, ◌∙◌, ap, arith}
use Rattle.std.specs.Prelude.{vec_len, vec_capacity}
use Rattle.std.proofs.lemmas.List.{length-append, length-drop, take-append-le, drop-append-le, drop-drop, append-nil, take_rest}
use Rattle.line_reader.specs.declared.reader.LineReader.TheInside.{Inside}
use Rattle.line_reader.specs.Held.{IsHeld, reading_of}
use Rattle.line_reader.specs.Lines.{rest_of, closing_of, longest_line, numbered, lines_from}
use Rattle.line_reader.specs.Reading.{Reading, HoldsRest}
use Rattle.line_reader.specs.Search.{HasNoNewline, Skips, IsLineAt}
use Rattle.line_reader.proofs.LineFacts.{rest_of-line}
use Rattle.line_reader.proofs.ReaderFacts.{rest_of-closing, lines_of-closing, holds_rest}

-- the front stays, whatever comes behind
front_same : (bytes more : List ℕ) (start scanned : ℕ) → start + scanned ≤ length bytes → take scanned (drop start (bytes ++ more)) ≡ take scanned (drop start bytes)
front_same bytes more start scanned within =
    let left = length-drop start bytes in
    ap (λ b. take scanned b) (drop-append-le start bytes more (omega (arith, within))) ∙ take-append-le scanned (drop start bytes) more (omega (arith, within, left))

-- a piece behind the bytes, once those before the start are gone
pub held_fed : (a b : Inside) (piece : List ℕ) → IsHeld a → b.start ≡ 0 → b.scanned ≡ a.scanned → b.ended ≡ false → b.bytes.items ≡ drop a.start a.bytes.items ++ piece → vec_len b.bytes < vec_capacity b.bytes → IsHeld b
held_fed a b piece held start scanned ended items room =
    let left = length-drop a.start a.bytes.items in
    let long = length-append (drop a.start a.bytes.items) piece in
    let w = held.within in
    record {
      within = rw (start, scanned, items) (omega (arith, w, left, long));
      scanned = rw (start, scanned, items, take-append-le a.scanned (drop a.start a.bytes.items) piece (omega (arith, w, left))) held.scanned;
      room = λ _. room;
      all = λ over. absurd (let no : false ≡ true = sym ended ∙ over in cc);
    }

-- after the end
pub held_ended : (a b : Inside) → IsHeld a → b.start ≡ a.start → b.scanned ≡ a.scanned → b.ended ≡ true → b.bytes.items ≡ a.bytes.items ++ closing_of (rest_of (drop a.start a.bytes.items)) → IsHeld b
held_ended a b held start scanned ended items =
    let w = held.within in
    let long = length-append a.bytes.items (closing_of (rest_of (drop a.start a.bytes.items))) in
    record {
      within = rw (start, scanned, items) (omega (arith, w, long));
      scanned = rw (start, scanned, items, front_same a.bytes.items (closing_of (rest_of (drop a.start a.bytes.items))) a.start a.scanned w) held.scanned;
      room = λ more. absurd (let no : true ≡ false = sym ended ∙ more in cc);
      all = λ over. rw (start, items, drop-append-le a.start a.bytes.items (closing_of (rest_of (drop a.start a.bytes.items))) (omega (arith, w))) (rest_of-closing (drop a.start a.bytes.items) (rest_of (drop a.start a.bytes.items)) refl);
    }

-- the rest is the same behind what is skipped
rest_of-skipped : (pending : List ℕ) (number start behind : ℕ) → Skips pending number start behind → rest_of pending ≡ rest_of (drop start pending)
rest_of-skipped pending number start behind s = ap (λ b. rest_of b) (sym (append-nil pending)) ∙ s.rest [] ∙ ap (λ b. rest_of b) (append-nil (drop start pending))

rest_of-given : (pending : List ℕ) (start len : ℕ) → IsLineAt pending start len → rest_of (drop start pending) ≡ rest_of (drop (start + len + 1) pending)
rest_of-given pending start len at = ap (λ b. rest_of b) at.cut ∙ rest_of-line (take len (drop start pending)) (drop (start + len + 1) pending) at.line

-- after a line was given
pub held_given : (a b : Inside) (number start behind len : ℕ) → IsHeld a → Skips (drop a.start a.bytes.items) number start behind → IsLineAt (drop a.start a.bytes.items) start len → b.start ≡ a.start + (start + len + 1) → b.scanned ≡ 0 → b.ended ≡ a.ended → b.bytes ≡ a.bytes → IsHeld b
held_given a b number start behind len held s at first scanned ended same =
    let w = held.within in
    let left = length-drop a.start a.bytes.items in
    let inside = at.within in
    let there : drop (a.start + (start + len + 1)) a.bytes.items ≡ drop (start + len + 1) (drop a.start a.bytes.items) = sym (drop-drop (start + len + 1) a.start a.bytes.items) in
    record {
      within = rw (first, scanned, same) (omega (arith, w, left, inside));
      scanned = rw scanned (λ k d none. absurd (omega (arith, none)));
      room = λ more. rw same (held.room (sym ended ∙ more));
      all = λ over. rw (first, same, there) (sym (rest_of-given (drop a.start a.bytes.items) start len at) ∙ sym (rest_of-skipped (drop a.start a.bytes.items) number start behind s) ∙ held.all (sym ended ∙ over));
    }

-- after nothing was given
pub held_none : (a b : Inside) (number start behind : ℕ) → IsHeld a → Skips (drop a.start a.bytes.items) number start behind → HasNoNewline (drop start (drop a.start a.bytes.items)) → b.start ≡ a.start + start → b.scanned ≡ length (drop a.start a.bytes.items) - start → b.ended ≡ a.ended → b.bytes ≡ a.bytes → IsHeld b
held_none a b number start behind held s none first scanned ended same =
    let w = held.within in
    let left = length-drop a.start a.bytes.items in
    let inside = s.within in
    let there : drop (a.start + start) a.bytes.items ≡ drop start (drop a.start a.bytes.items) = sym (drop-drop start a.start a.bytes.items) in
    record {
      within = rw (first, scanned, same) (omega (arith, w, left, inside));
      scanned = rw (first, scanned, same, there, take_rest (drop a.start a.bytes.items) start) none;
      room = λ more. rw same (held.room (sym ended ∙ more));
      all = λ over. rw (first, same, there) (sym (rest_of-skipped (drop a.start a.bytes.items) number start behind s) ∙ held.all (sym ended ∙ over));
    }

pub lines_ended : (a : Inside) (r : Reading) (items : List ℕ) → IsHeld a → reading_of a ≡ r → items ≡ a.bytes.items ++ closing_of (rest_of (drop a.start a.bytes.items)) → lines_from a.number (drop a.start items) ≡ lines_from r.number r.pending
lines_ended a r items held view is =
    let w = held.within in
    let more : drop a.start items ≡ drop a.start a.bytes.items ++ closing_of (rest_of (drop a.start a.bytes.items)) = ap (λ b. drop a.start b) is ∙ drop-append-le a.start a.bytes.items (closing_of (rest_of (drop a.start a.bytes.items))) (omega (arith, w)) in
    ap (λ b. lines_from a.number b) more
    ∙ ap (λ lines. numbered a.number lines) (lines_of-closing (drop a.start a.bytes.items) (rest_of (drop a.start a.bytes.items)) refl)
    ∙ ap (λ x. lines_from x.number x.pending) view

-- nothing whole is left, and behind the end nothing at all
pub holds_none : (a : Inside) (r : Reading) (number start behind : ℕ) → IsHeld a → reading_of a ≡ r → Skips r.pending r.number start behind → HasNoNewline (drop start r.pending) → length r.pending - start ≤ longest_line → HoldsRest record { number = number; pending = drop (a.start + start) a.bytes.items; ended = a.ended }
holds_none a r number start behind held view s none short =
    let is : drop a.start a.bytes.items ≡ r.pending = ap (λ x. x.pending) view in
    let there : drop (a.start + start) a.bytes.items ≡ drop start r.pending = sym (drop-drop start a.start a.bytes.items) ∙ ap (λ b. drop start b) is in
    let left = length-drop start r.pending in
    rw there (holds_rest number (drop start r.pending) a.ended none (omega (arith, short, left))
    (λ over. sym (rest_of-skipped r.pending r.number start behind s) ∙ ap (λ b. rest_of b) (sym is) ∙ held.all over))
