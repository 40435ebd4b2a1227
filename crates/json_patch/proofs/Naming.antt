-- Members in chunks: where a name stands among them, and what a search by the first names tells.
use Rattle.std.proofs.Common.{◌≡◌, ℕ, zero, suc, ◌+◌, ◌<◌, ◌≤◌, List, [], ◌∷◌, ◌++◌, length, get_or, take, drop, refl, sym, subst, arith}
use Rattle.std.specs.Ordering.{nat_cmp}
use Rattle.std.specs.declared.cmp.Ordering.{Ordering}
use Rattle.std.specs.declared.cmp.Ordering.TheVariants.{Less, Equal, Greater}
use Rattle.std.specs.Cmp.Lexicographic.{slice_cmp, nat_list_cmp_total}
use Rattle.std.specs.List.{AllByRecursion}
use Rattle.std.specs.List.Sorted.{IsStrictlySortedBy}
use Rattle.std.proofs.lemmas.List.{get_or_read}
use Rattle.base_types.specs.Meaning.{Meaning}
use Rattle.base_types.specs.Names.{names, AreSorted}
use Rattle.base_types.specs.Search.{IsNamedAt, IsPlaceFor}
use Rattle.base_types.proofs.Ordered.{same_name}
use Rattle.base_types.proofs.Placing.{above-below, below-above}
use Rattle.json_patch.specs.Gaps.{first_name, IsNarrowed, BeginUpTo}
use Rattle.json_patch.specs.Joined.{joined, IsPlaceIn}
use Rattle.json_patch.specs.declared.chunks.Place.{Place}
use Rattle.json_patch.specs.declared.members.Span.{Span}
use Rattle.json_patch.proofs.Joins.{joined_around, joined_drop}

abbrev pub Named : Type 0
Named = List ℕ × Meaning

abbrev pub Below : List ℕ → List Named → Type 0
Below name ms = AllByRecursion (λ k. slice_cmp nat_cmp k name ≡ Less) (names ms)

abbrev pub Above : List ℕ → List Named → Type 0
Above name ms = AllByRecursion (λ k. slice_cmp nat_cmp k name ≡ Greater) (names ms)

-- all of two lists
all_first : (P : List ℕ → Type 0) (xs ys : List Named) → AllByRecursion P (names (xs ++ ys)) → AllByRecursion P (names xs)
all_first P [] ys all = tt
all_first P (x ∷ xs) ys all = (all.0, all_first P xs ys all.1)

all_here : (P : List ℕ → Type 0) (xs : List Named) (m : Named) (ys : List Named) → AllByRecursion P (names (xs ++ m ∷ ys)) → P m.0
all_here P [] m ys all = all.0
all_here P (x ∷ xs) m ys all = all_here P xs m ys all.1

all_both : (P : List ℕ → Type 0) (xs ys : List Named) → AllByRecursion P (names xs) → AllByRecursion P (names ys) → AllByRecursion P (names (xs ++ ys))
all_both P [] ys a b = b
all_both P (x ∷ xs) ys a b = (a.0, all_both P xs ys a.1 b)

-- parts of a sorted list are sorted
sorted_first : (xs ys : List Named) → AreSorted (xs ++ ys) → AreSorted xs
unfolding IsStrictlySortedBy
sorted_first [] ys s = tt
sorted_first (x ∷ xs) ys s = (all_first (λ k. slice_cmp nat_cmp x.0 k ≡ Less) xs ys s.0, sorted_first xs ys s.1)

sorted_second : (xs ys : List Named) → AreSorted (xs ++ ys) → AreSorted ys
unfolding IsStrictlySortedBy
sorted_second [] ys s = s
sorted_second (x ∷ xs) ys s = sorted_second xs ys s.1

pub part_sorted : (parts : List (List Named)) (i : ℕ) (part : List Named) → i < length parts → part ≡ get_or parts i part → AreSorted (joined parts) → AreSorted part
part_sorted parts i part within is s =
    sorted_first part (joined (drop (i + 1) parts)) (sorted_second (joined (take i parts)) (part ++ joined (drop (i + 1) parts)) (subst AreSorted (joined_around parts i part within is) s))

pub none_sorted : (parts : List (List Named)) → parts ≡ [] → AreSorted (joined parts)
unfolding IsStrictlySortedBy
none_sorted [] is = tt
none_sorted (part ∷ parts) is = absurd (cc)

-- what a member tells of those before it, and of those behind it
below_through : (a b name : List ℕ) → slice_cmp nat_cmp a b ≡ Less → (slice_cmp nat_cmp b name ≡ Greater → ⊥) → slice_cmp nat_cmp a name ≡ Less
below_through a b name less below = go (slice_cmp nat_cmp b name) refl
  where
    go : (o : Ordering) → slice_cmp nat_cmp b name ≡ o → slice_cmp nat_cmp a name ≡ Less
    go Less is = nat_list_cmp_total.trans a b name less is
    go Equal is = subst (λ k. slice_cmp nat_cmp a k ≡ Less) (same_name b name is) less
    go Greater is = absurd (below is)

before_member : (xs : List Named) (m : Named) (ys : List Named) (name : List ℕ) → AreSorted (xs ++ m ∷ ys) → (slice_cmp nat_cmp m.0 name ≡ Greater → ⊥) → Below name xs
unfolding IsStrictlySortedBy
before_member [] m ys name s below = tt
before_member (x ∷ xs) m ys name s below = (below_through x.0 m.0 name (all_here (λ k. slice_cmp nat_cmp x.0 k ≡ Less) xs m ys s.0) below, before_member xs m ys name s.1 below)

above_through : (a name : List ℕ) (ms : List Named) → slice_cmp nat_cmp a name ≡ Greater → AllByRecursion (λ k. slice_cmp nat_cmp a k ≡ Less) (names ms) → Above name ms
above_through a name [] above all = tt
above_through a name (m ∷ ms) above all = (above-below name m.0 (nat_list_cmp_total.trans name a m.0 (below-above a name above) all.0), above_through a name ms above all.1)

after_member : (m : Named) (ys : List Named) (name : List ℕ) → AreSorted (m ∷ ys) → slice_cmp nat_cmp m.0 name ≡ Greater → Above name (m ∷ ys)
unfolding IsStrictlySortedBy
after_member m ys name s above = (above, above_through m.0 name ys above s.0)

-- the chunks before one that begins no later than the name, and those from one on that begins behind it
pub before_part : (parts : List (List Named)) (i : ℕ) (part : List Named) (name : List ℕ) → i < length parts → part ≡ get_or parts i part → AreSorted (joined parts) → 0 < length part
    → (slice_cmp nat_cmp (first_name part) name ≡ Greater → ⊥) → Below name (joined (take i parts))
before_part parts i [] name within is s some below = absurd (omega arith)
before_part parts i (m ∷ part) name within is s some below =
    before_member (joined (take i parts)) m (part ++ joined (drop (i + 1) parts)) name (subst AreSorted (joined_around parts i (m ∷ part) within is) s) below

pub after_part : (parts : List (List Named)) (i : ℕ) (part : List Named) (name : List ℕ) → i < length parts → part ≡ get_or parts i part → AreSorted (joined parts) → 0 < length part
    → slice_cmp nat_cmp (first_name part) name ≡ Greater → Above name (joined (drop i parts))
after_part parts i [] name within is s some above = absurd (omega arith)
after_part parts i (m ∷ part) name within is s some above =
    let rest = sorted_second (joined (take i parts)) (m ∷ (part ++ joined (drop (i + 1) parts))) (subst AreSorted (joined_around parts i (m ∷ part) within is) s) in
    subst (Above name) (sym (joined_drop parts i (m ∷ part) within is)) (after_member m (part ++ joined (drop (i + 1) parts)) name rest above)

-- a name within one of the lists
named_behind : (xs ms : List Named) (name : List ℕ) (at : ℕ) → IsNamedAt name ms at → IsNamedAt name (xs ++ ms) (length xs + at)
named_behind [] ms name at e = let same : at ≡ 0 + at = omega arith in subst (IsNamedAt name ms) same e
named_behind (x ∷ xs) ms name at e = let same : suc (length xs + at) ≡ suc (length xs) + at = omega arith in subst (IsNamedAt name (x ∷ (xs ++ ms))) same (named_behind xs ms name at e)

named_before : (ms ys : List Named) (name : List ℕ) (at : ℕ) → IsNamedAt name ms at → IsNamedAt name (ms ++ ys) at
named_before [] ys name at e = absurd (cc)
named_before (m ∷ ms) ys name zero e = e
named_before (m ∷ ms) ys name (suc at) e = named_before ms ys name at e

place_behind : (xs ms : List Named) (name : List ℕ) (at : ℕ) → Below name xs → IsPlaceFor name ms at → IsPlaceFor name (xs ++ ms) (length xs + at)
place_behind [] ms name at all h = let same : at ≡ 0 + at = omega arith in subst (IsPlaceFor name ms) same h
place_behind (x ∷ xs) ms name at all h =
    let same : suc (length xs + at) ≡ suc (length xs) + at = omega arith in
    let rest = place_behind xs ms name at all.1 h in
    let within : length xs + at ≤ length (xs ++ ms) = rest.within in
    subst (IsPlaceFor name (x ∷ (xs ++ ms))) same (record { within = omega arith; before = (all.0, rest.before); after = rest.after })

place_before : (ms ys : List Named) (name : List ℕ) (at : ℕ) → Above name ys → IsPlaceFor name ms at → IsPlaceFor name (ms ++ ys) at
place_before [] ys name zero all h = record { within = omega arith; before = tt; after = all }
place_before [] ys name (suc at) all h = let w = h.within in absurd (omega arith)
place_before (m ∷ ms) ys name zero all h = record { within = omega arith; before = tt; after = all_both (λ k. slice_cmp nat_cmp k name ≡ Greater) (m ∷ ms) ys h.after all }
place_before (m ∷ ms) ys name (suc at) all h =
    let w = h.within in
    let rest = place_before ms ys name at all (record { within = omega arith; before = h.before.1; after = h.after }) in
    let within : at ≤ length (ms ++ ys) = rest.within in
    record { within = omega arith; before = (h.before.0, rest.before); after = rest.after }

pub named_in_part : (parts : List (List Named)) (i at : ℕ) (part : List Named) (name : List ℕ) → i < length parts → part ≡ get_or parts i part → IsNamedAt name part at
    → IsNamedAt name (joined parts) (length (joined (take i parts)) + at)
named_in_part parts i at part name within is e =
    subst (λ l. IsNamedAt name l (length (joined (take i parts)) + at)) (sym (joined_around parts i part within is))
    (named_behind (joined (take i parts)) (part ++ joined (drop (i + 1) parts)) name at (named_before part (joined (drop (i + 1) parts)) name at e))

pub place_in_part : (parts : List (List Named)) (i at : ℕ) (part : List Named) (name : List ℕ) → i < length parts → part ≡ get_or parts i part → Below name (joined (take i parts))
    → Above name (joined (drop (i + 1) parts)) → IsPlaceFor name part at → IsPlaceFor name (joined parts) (length (joined (take i parts)) + at)
place_in_part parts i at part name within is below above h =
    subst (λ l. IsPlaceFor name l (length (joined (take i parts)) + at)) (sym (joined_around parts i part within is))
    (place_behind (joined (take i parts)) (part ++ joined (drop (i + 1) parts)) name at below (place_before part (joined (drop (i + 1) parts)) name at above h))

-- the member that a search found
pub found_in : (parts : List (List Named)) (place : Place) (part : List Named) → IsPlaceIn parts place → part ≡ get_or parts place.part part → place.offset < length part
found_in parts place part here is = subst (λ l. place.offset < length l) (sym (get_or_read parts place.part part here.part is [])) here.offset

-- a search begins with all chunks, and ends where none is left to look at
drop_end : {X : Type 0} (n : ℕ) (xs : List X) → length xs ≤ n → drop n xs ≡ []
drop_end zero [] le = refl
drop_end zero (x ∷ xs) le = absurd (omega arith)
drop_end (suc n) [] le = refl
drop_end (suc n) (x ∷ xs) le = drop_end n xs (omega arith)

pub narrowed_whole : (name : List ℕ) (parts : List (List Named)) (n : ℕ) → n ≡ length parts → IsNarrowed name parts (record { low = 0; high = n })
narrowed_whole name parts n is = record {
  order = omega arith;
  within = omega arith;
  before = tt;
  after = subst (λ l. Above name (joined l)) (sym (drop_end n parts (omega arith))) tt;
}

pub narrowed_end : (name : List ℕ) (parts : List (List Named)) (rest : Span) → IsNarrowed name parts rest → rest.high ≤ rest.low → BeginUpTo name parts rest.low
narrowed_end name parts rest h end =
    let order : rest.low ≤ rest.high = h.order in
    let within : rest.high ≤ length parts = h.within in
    let same : rest.high ≡ rest.low = omega arith in
    record { within = omega arith; before = h.before; after = subst (λ n. Above name (joined (drop n parts))) same h.after }
