-- How many numbers lines can take.
use Rattle.std.proofs.Common.{◌≡◌, ℕ, suc, ◌+◌, ◌-◌, ◌≤◌, List, [], ◌∷◌, ◌++◌, length, Bool, true, false, refl, arith}
use Rattle.std.specs.Prelude.{nat_eq}
use Rattle.line_reader.specs.Lines.{NumberedLine, newline, extend_first, extend_rest, whole_lines, rest_of, last_line, lines_of, is_dropped, numbered, number_after}
use Rattle.log_intake.specs.Numbering.{AreOrdered, last_number, most_extra, most_items}

-- lines take at most so many numbers
abbrev pub numbers_of : List (List ℕ) → ℕ
numbers_of [] = 0
numbers_of (line ∷ lines) = most_items line + numbers_of lines

few_extended : (byte n : ℕ) (lines : List (List ℕ)) (rest : List ℕ) → numbers_of (lines ++ last_line rest) ≤ n → numbers_of (extend_first byte lines ++ last_line (extend_rest byte lines rest)) ≤ suc n
few_extended byte n [] [] few = omega arith
few_extended byte n [] (next ∷ rest) few = omega (arith, few)
few_extended byte n (line ∷ lines) rest few = omega (arith, few)

-- no more than there are bytes
pub few_numbers : (bytes : List ℕ) → numbers_of (lines_of bytes) ≤ length bytes
few_numbers [] = omega arith
few_numbers (byte ∷ bytes) = go (nat_eq byte newline) refl (few_numbers bytes)
  where
    go : (t : Bool) → nat_eq byte newline ≡ t → numbers_of (lines_of bytes) ≤ length bytes → numbers_of (lines_of (byte ∷ bytes)) ≤ length (byte ∷ bytes)
    go true is few = rw is (omega (arith, few))
    go false is few = rw is (few_extended byte (length bytes) (whole_lines bytes) (rest_of bytes) few)

pub numbers_of-append : (xs ys : List (List ℕ)) → numbers_of (xs ++ ys) ≡ numbers_of xs + numbers_of ys
numbers_of-append [] ys = omega arith
numbers_of-append (x ∷ xs) ys = let more = numbers_of-append xs ys in omega (arith, more)

pub few_given : (count : ℕ) (lines : List (List ℕ)) → length (numbered count lines) ≤ numbers_of lines
few_given count [] = omega arith
few_given count (line ∷ lines) = go (is_dropped line) refl (few_given (number_after count) lines)
  where
    go : (t : Bool) → is_dropped line ≡ t → length (numbered (number_after count) lines) ≤ numbers_of lines → length (numbered count (line ∷ lines)) ≤ numbers_of (line ∷ lines)
    go true is few = rw is (omega (arith, few))
    go false is few = rw is (omega (arith, few))

-- the numbers of lines of so many bytes rise and end in time
pub ordered_numbered : (last count extra : ℕ) (lines : List (List ℕ)) → last ≤ count → count + (extra + numbers_of lines) ≤ 1099511627776 → AreOrdered last extra (numbered count lines)
ordered_numbered last count extra [] later few = tt
ordered_numbered last count extra (line ∷ lines) later few =
    let more = extra + (most_items line - 1) in
    go (is_dropped line) refl (ordered_numbered last (number_after count) extra lines (omega (arith, later, few)) (omega (arith, few)))
    (ordered_numbered (number_after count) (number_after count) (extra + (most_items line - 1)) lines (omega arith) (omega (arith, few)))
  where
    go : (t : Bool) → is_dropped line ≡ t → AreOrdered last extra (numbered (number_after count) lines)
        → AreOrdered (number_after count) (extra + (most_items line - 1)) (numbered (number_after count) lines) → AreOrdered last extra (numbered count (line ∷ lines))
    go true is dropped kept = rw is dropped
    go false is dropped kept = rw is ((omega (arith, later, few)), (omega (arith, few)), kept)

pub ordered_front : (last extra : ℕ) (xs ys : List NumberedLine) → AreOrdered last extra (xs ++ ys) → AreOrdered last extra xs
ordered_front last extra [] ys are = tt
ordered_front last extra (x ∷ xs) ys are = (are.0, are.1, ordered_front x.number (extra + (most_items x.bytes - 1)) xs ys are.2)

pub ordered_behind : (last extra : ℕ) (xs ys : List NumberedLine) → AreOrdered last extra (xs ++ ys) → AreOrdered (last_number last xs) (most_extra extra xs) ys
ordered_behind last extra [] ys are = are
ordered_behind last extra (x ∷ xs) ys are = ordered_behind x.number (extra + (most_items x.bytes - 1)) xs ys are.2

-- the fewer numbers lists took before, the smaller are those to come
pub ordered_less : (last extra less : ℕ) (xs : List NumberedLine) → less ≤ extra → AreOrdered last extra xs → AreOrdered last less xs
ordered_less last extra less [] few are = tt
ordered_less last extra less (x ∷ xs) few are =
    let room = are.1 in
    (are.0, (omega (arith, room, few)), ordered_less x.number (extra + (most_items x.bytes - 1)) (less + (most_items x.bytes - 1)) xs (omega (arith, few)) are.2)

pub most_extra_less : (extra less : ℕ) (xs : List NumberedLine) → less ≤ extra → most_extra less xs ≤ most_extra extra xs
most_extra_less extra less [] few = few
most_extra_less extra less (x ∷ xs) few = most_extra_less (extra + (most_items x.bytes - 1)) (less + (most_items x.bytes - 1)) xs (omega (arith, few))

pub most_extra-append : (extra : ℕ) (xs ys : List NumberedLine) → most_extra extra (xs ++ ys) ≡ most_extra (most_extra extra xs) ys
most_extra-append extra [] ys = refl
most_extra-append extra (x ∷ xs) ys = most_extra-append (extra + (most_items x.bytes - 1)) xs ys

pub last_number-append : (last : ℕ) (xs ys : List NumberedLine) → last_number last (xs ++ ys) ≡ last_number (last_number last xs) ys
last_number-append last [] ys = refl
last_number-append last (x ∷ xs) ys = last_number-append x.number xs ys

-- the last number isn't above 2^40
pub ordered_within : (last extra : ℕ) (xs : List NumberedLine) → last + extra ≤ 1099511627776 → AreOrdered last extra xs → last_number last xs + most_extra extra xs ≤ 1099511627776
ordered_within last extra [] within are = within
ordered_within last extra (x ∷ xs) within are = ordered_within x.number (extra + (most_items x.bytes - 1)) xs are.1 are.2
