use Rattle.std.proofs.Common.{◌≡◌, ℕ, ◌+◌, ◌-◌, ◌<◌, ◌≤◌, List, length, take, drop, refl, sym, ◌∙◌, ap, subst, arith}
use Rattle.std.proofs.lemmas.List.{length-drop, length-take, drop-drop}
use Rattle.line_reader.specs.Lines.{number_after}
use Rattle.line_reader.specs.Reading.{IsTooLong, Reading}
use Rattle.line_reader.proofs.HeldFacts.{held_given, held_none, holds_none}
use Rattle.line_reader.proofs.ReaderFacts.{gives_line, gives_none, whole_too_long, part_too_long}
use Rattle.line_reader.proofs.reader.LineReader.next_line.Goals as goal

-- the fault's number is the one that it was made with
number_told : (r : Reading) (made told given : ℕ) → IsTooLong given r → made ≡ given → made ≡ told → IsTooLong told r
number_told r made told given long is same = let P : ℕ → Type 0 = λ n. IsTooLong n r in subst P (sym is ∙ same) long

pub returns-then-len-gt-LONGEST_LINE-clause-too_long : goal.returns-then-len-gt-LONGEST_LINE-clause-too_long
returns-then-len-gt-LONGEST_LINE-clause-too_long c = λ number told.
    let at = rw c.in-Some.is at c.next_place-place.ensures.some in
    let long = whole_too_long c.args.self.now c.next_place-place.result.start c.next_place-place.result.number c.in-Some.len c.next_place-place.ensures.skipped at c.if-len-gt-LONGEST_LINE.true in
    let same : c.next_number-number.result ≡ number = cc in
    let all = number_told c.args.self.now c.next_number-number.result number (number_after c.next_place-place.result.number) long c.next_number-number.ensures same in
    (all, all)

pub invariant_of-self : goal.invariant_of-self
invariant_of-self c =
    let pending : drop c.self.inside.start c.self.inside.bytes.items ≡ c.args.self.now.pending = ap (λ r. r.pending) c.self.view_is in
    let at = rw c.in-Some.is at c.next_place-place.ensures.some in
    held_given c.self.inside _ c.args.self.now.number c.next_place-place.result.start c.next_place-place.result.number c.in-Some.len c.self.invariant (rw pending c.next_place-place.ensures.skipped) (rw pending at) refl refl refl refl

pub returns-then-rest-gt-LONGEST_LINE-clause-too_long : goal.returns-then-rest-gt-LONGEST_LINE-clause-too_long
returns-then-rest-gt-LONGEST_LINE-clause-too_long c = λ number told.
    let none = rw c.in-None.is at c.next_place-place.ensures.none in
    let more : 16777216 < length c.args.self.now.pending - c.next_place-place.result.start = rw c.pending-in-None.ensures at c.if-rest-gt-LONGEST_LINE.true in
    let left = length-drop c.next_place-place.result.start c.args.self.now.pending in
    let long = part_too_long c.args.self.now c.next_place-place.result.start c.next_place-place.result.number c.next_place-place.ensures.skipped none (omega (arith, more, left)) in
    let same : c.next_number-number.result ≡ number = cc in
    let all = number_told c.args.self.now c.next_number-number.result number (number_after c.next_place-place.result.number) long c.next_number-number.ensures same in
    (all, all)

pub invariant_of-self-in-None : goal.invariant_of-self-in-None
invariant_of-self-in-None c =
    let pending : drop c.self.inside.start c.self.inside.bytes.items ≡ c.args.self.now.pending = ap (λ r. r.pending) c.self.view_is in
    let none = rw c.in-None.is at c.next_place-place.ensures.none in
    held_none c.self.inside _ c.args.self.now.number c.next_place-place.result.start c.next_place-place.result.number c.self.invariant (rw pending c.next_place-place.ensures.skipped) (rw pending none) refl (rw pending (rw c.pending-in-None.ensures refl)) refl refl

-- the line that was copied
line_copied : (r : Reading) (bytes from : List ℕ) (start len : ℕ) → from ≡ r.pending → bytes ≡ take (start + len - start) (drop start from) → bytes ≡ take len (drop start r.pending)
line_copied r bytes from start len told copied =
    let count : start + len - start ≡ len = omega arith in
    copied ∙ ap (λ n. take n (drop start from)) count ∙ ap (λ b. take len (drop start b)) told

-- so many bytes at most
line_short : (bytes from : List ℕ) (len : ℕ) → bytes ≡ take len from → len ≤ 16777216 → length bytes ≤ 16777216
line_short bytes from len is short = let all = length-take len from in rw (is, all) (omega (arith, short))

-- the bytes behind, from the fields
behind : (all pending : List ℕ) (first more : ℕ) → drop first all ≡ pending → drop (first + more) all ≡ drop more pending
behind all pending first more is = sym (drop-drop more first all) ∙ ap (λ b. drop more b) is

pub returns-in_ok-bytes-in-Some-clause-gives : goal.returns-in_ok-bytes-in-Some-clause-gives
returns-in_ok-bytes-in-Some-clause-gives c =
    let pending : drop c.self.inside.start c.self.inside.bytes.items ≡ c.args.self.now.pending = ap (λ r. r.pending) c.self.view_is in
    let at = rw c.in-Some.is at c.next_place-place.ensures.some in
    let copied = line_copied c.args.self.now c.in_ok-bytes-in-Some.bytes c.pending.result.now c.next_place-place.result.start c.in-Some.len c.pending.ensures c.in_ok-bytes-in-Some.ensures in (
      gives_line c.args.self.now _ _ c.next_place-place.result.start c.next_place-place.result.number c.in-Some.len c.next_place-place.ensures.skipped at c.next_number-number.ensures copied c.next_number-number.ensures (behind _ _ _ _ pending),
      line_short c.in_ok-bytes-in-Some.bytes _ c.in-Some.len copied c.if-len-gt-LONGEST_LINE.false,
    )

pub returns-else-rest-gt-LONGEST_LINE-clause-gives : goal.returns-else-rest-gt-LONGEST_LINE-clause-gives
returns-else-rest-gt-LONGEST_LINE-clause-gives c =
    let pending : drop c.self.inside.start c.self.inside.bytes.items ≡ c.args.self.now.pending = ap (λ r. r.pending) c.self.view_is in
    let none = rw c.in-None.is at c.next_place-place.ensures.none in
    let there = behind _ _ _ c.next_place-place.result.start pending in
    let short : length c.args.self.now.pending - c.next_place-place.result.start ≤ 16777216 = rw c.pending-in-None.ensures at c.if-rest-gt-LONGEST_LINE.false in (
      gives_none c.args.self.now _ c.next_place-place.result.start c.next_place-place.result.number c.next_place-place.ensures.skipped refl there,
      holds_none c.self.inside c.args.self.now c.next_place-place.result.number c.next_place-place.result.start c.next_place-place.result.number c.self.invariant c.self.view_is c.next_place-place.ensures.skipped none short,
    )
