-- Lists in chunks, and what changes in them.
use Rattle.std.proofs.Common.{◌≡◌, ◌==◌, IsTrue, ℕ, zero, suc, ◌+◌, ◌<◌, ◌≤◌, List, [], ◌∷◌, ◌++◌, length, get_or, set, take, drop, refl, sym, ap, subst, ◌∙◌, append_assoc, append-nil, arith}
use Rattle.std.specs.Prelude.{insert, remove}
use Rattle.std.proofs.lemmas.Bool.{eqb-true}
use Rattle.std.proofs.lemmas.List.{length-append, get_or-append-add, get_or_append_left, set-append_left, take_more, drop_more, take_all, take_at, take-append-drop, append_cancel_left, get_or_read}
use Rattle.std.proofs.lemmas.List.Concat.{flat_map-append}
use Rattle.std.proofs.lemmas.List.Folds.{length-flat_map-take}
use Rattle.json_patch.specs.Joined.{joined, IsPlaceIn, number_of}
use Rattle.json_patch.specs.declared.chunks.Place.{Place}

-- a list behind another one
insert_behind : {X : Type 0} (xs ys : List X) (n : ℕ) (x : X) → insert (xs ++ ys) (length xs + n) x ≡ xs ++ insert ys n x
insert_behind [] ys n x = let e : 0 + n ≡ n = omega arith in ap (λ m. insert ys m x) e
insert_behind (y ∷ xs) ys n x = let e : suc (length xs) + n ≡ suc (length xs + n) = omega arith in ap (λ m. insert (y ∷ (xs ++ ys)) m x) e ∙ ap (λ l. y ∷ l) (insert_behind xs ys n x)

remove_behind : {X : Type 0} (xs ys : List X) (n : ℕ) → remove (xs ++ ys) (length xs + n) ≡ xs ++ remove ys n
remove_behind [] ys n = let e : 0 + n ≡ n = omega arith in ap (λ m. remove ys m) e
remove_behind (y ∷ xs) ys n = let e : suc (length xs) + n ≡ suc (length xs + n) = omega arith in ap (λ m. remove (y ∷ (xs ++ ys)) m) e ∙ ap (λ l. y ∷ l) (remove_behind xs ys n)

set_behind : {X : Type 0} (xs ys : List X) (n : ℕ) (x : X) → set (xs ++ ys) (length xs + n) x ≡ xs ++ set ys n x
set_behind [] ys n x = let e : 0 + n ≡ n = omega arith in ap (λ m. set ys m x) e
set_behind (y ∷ xs) ys n x = let e : suc (length xs) + n ≡ suc (length xs + n) = omega arith in ap (λ m. set (y ∷ (xs ++ ys)) m x) e ∙ ap (λ l. y ∷ l) (set_behind xs ys n x)

insert_before : {X : Type 0} (xs ys : List X) (n : ℕ) (x : X) → n ≤ length xs → insert (xs ++ ys) n x ≡ insert xs n x ++ ys
insert_before xs ys zero x le = refl
insert_before [] ys (suc n) x le = absurd (omega arith)
insert_before (y ∷ xs) ys (suc n) x le = ap (λ l. y ∷ l) (insert_before xs ys n x (omega arith))

remove_before : {X : Type 0} (xs ys : List X) (n : ℕ) → n < length xs → remove (xs ++ ys) n ≡ remove xs n ++ ys
remove_before [] ys n lt = absurd (omega arith)
remove_before (y ∷ xs) ys zero lt = refl
remove_before (y ∷ xs) ys (suc n) lt = ap (λ l. y ∷ l) (remove_before xs ys n (omega arith))

-- so many items stand before a place of the first chunk and of a later one
further : {X : Type 0} (part : List X) (parts : List (List X)) (i n : ℕ) → length (joined (take (suc i) (part ∷ parts))) + n ≡ length part + (length (joined (take i parts)) + n)
further part parts i n = let long = length-append part (joined (take i parts)) in omega arith

pub place_within : {X : Type 0} (parts : List (List X)) (i n : ℕ) → i < length parts → n < length (get_or parts i []) → length (joined (take i parts)) + n < length (joined parts)
place_within [] i n lt within = absurd (omega arith)
place_within (part ∷ parts) zero n lt within = let long = length-append part (joined parts) in omega arith
place_within (part ∷ parts) (suc i) n lt within =
    let rest = place_within parts i n (omega arith) within in
    let long = length-append part (joined parts) in
    let on = further part parts i n in
    omega arith

pub place_read : {X : Type 0} (parts : List (List X)) (i n : ℕ) (d : X) → i < length parts → n < length (get_or parts i []) → get_or (joined parts) (length (joined (take i parts)) + n) d ≡ get_or (get_or parts i []) n d
place_read [] i n d lt within = absurd (omega arith)
place_read (part ∷ parts) zero n d lt within = let e : 0 + n ≡ n = omega arith in ap (λ m. get_or (part ++ joined parts) m d) e ∙ get_or_append_left part (joined parts) d n within
place_read (part ∷ parts) (suc i) n d lt within =
    ap (λ m. get_or (part ++ joined parts) m d) (further part parts i n) ∙ get_or-append-add part (joined parts) (length (joined (take i parts)) + n) d ∙ place_read parts i n d (omega arith) within

pub place_set : {X : Type 0} (parts : List (List X)) (i n : ℕ) (t : X) → i < length parts → n < length (get_or parts i [])
    → joined (set parts i (set (get_or parts i []) n t)) ≡ set (joined parts) (length (joined (take i parts)) + n) t
place_set [] i n t lt within = absurd (omega arith)
place_set (part ∷ parts) zero n t lt within = let e : n ≡ 0 + n = omega arith in sym (set-append_left part (joined parts) n t within) ∙ ap (λ m. set (part ++ joined parts) m t) e
place_set (part ∷ parts) (suc i) n t lt within =
    ap (λ l. part ++ l) (place_set parts i n t (omega arith) within) ∙ sym (set_behind part (joined parts) (length (joined (take i parts)) + n) t)
    ∙ ap (λ m. set (part ++ joined parts) m t) (sym (further part parts i n))

pub gap_filled : {X : Type 0} (parts : List (List X)) (i n : ℕ) (t : X) → i < length parts → n ≤ length (get_or parts i [])
    → joined (set parts i (insert (get_or parts i []) n t)) ≡ insert (joined parts) (length (joined (take i parts)) + n) t
gap_filled [] i n t lt within = absurd (omega arith)
gap_filled (part ∷ parts) zero n t lt within = let e : n ≡ 0 + n = omega arith in sym (insert_before part (joined parts) n t within) ∙ ap (λ m. insert (part ++ joined parts) m t) e
gap_filled (part ∷ parts) (suc i) n t lt within =
    ap (λ l. part ++ l) (gap_filled parts i n t (omega arith) within) ∙ sym (insert_behind part (joined parts) (length (joined (take i parts)) + n) t)
    ∙ ap (λ m. insert (part ++ joined parts) m t) (sym (further part parts i n))

pub place_inserted : {X : Type 0} (parts : List (List X)) (i n : ℕ) (t : X) → i < length parts → n < length (get_or parts i [])
    → joined (set parts i (insert (get_or parts i []) n t)) ≡ insert (joined parts) (length (joined (take i parts)) + n) t
place_inserted parts i n t lt within = gap_filled parts i n t lt (omega arith)

pub place_removed : {X : Type 0} (parts : List (List X)) (i n : ℕ) → i < length parts → n < length (get_or parts i [])
    → joined (set parts i (remove (get_or parts i []) n)) ≡ remove (joined parts) (length (joined (take i parts)) + n)
place_removed [] i n lt within = absurd (omega arith)
place_removed (part ∷ parts) zero n lt within = let e : n ≡ 0 + n = omega arith in sym (remove_before part (joined parts) n within) ∙ ap (λ m. remove (part ++ joined parts) m) e
place_removed (part ∷ parts) (suc i) n lt within =
    ap (λ l. part ++ l) (place_removed parts i n (omega arith) within) ∙ sym (remove_behind part (joined parts) (length (joined (take i parts)) + n))
    ∙ ap (λ m. remove (part ++ joined parts) m) (sym (further part parts i n))

-- the only item of a chunk is taken out, and the chunk goes
part_removed : {X : Type 0} (parts : List (List X)) (i : ℕ) → joined (remove parts i) ≡ joined (set parts i [])
part_removed [] zero = refl
part_removed [] (suc i) = refl
part_removed (part ∷ parts) zero = refl
part_removed (part ∷ parts) (suc i) = ap (λ l. part ++ l) (part_removed parts i)

only_removed : {X : Type 0} (part : List X) (n : ℕ) → length part ≡ 1 → n < length part → remove part n ≡ []
only_removed [] n one lt = absurd (omega arith)
only_removed (x ∷ []) zero one lt = refl
only_removed (x ∷ []) (suc n) one lt = absurd (omega arith)
only_removed (x ∷ y ∷ part) n one lt = absurd (omega arith)

pub only_read : {X : Type 0} (part : List X) (n : ℕ) (x : X) → length part ≡ 1 → n < length part → x ≡ get_or part 0 x → x ≡ get_or part n x
only_read part zero x one lt is = is
only_read part (suc n) x one lt is = absurd (omega arith)

pub part_emptied : {X : Type 0} (parts : List (List X)) (i n : ℕ) → i < length parts → n < length (get_or parts i []) → length (get_or parts i []) ≡ 1
    → joined (remove parts i) ≡ remove (joined parts) (length (joined (take i parts)) + n)
part_emptied parts i n lt within one =
    part_removed parts i ∙ ap (λ p. joined (set parts i p)) (sym (only_removed (get_or parts i []) n one within)) ∙ place_removed parts i n lt within

-- the last chunk gets more
pub joined_longer : {X : Type 0} (parts : List (List X)) (n : ℕ) (part more : List X) → n + 1 ≡ length parts → part ≡ get_or parts n part → joined (set parts n (part ++ more)) ≡ joined parts ++ more
joined_longer [] n part more last is = absurd (omega arith)
joined_longer (first ∷ []) zero part more last is = append-nil (part ++ more) ∙ ap (λ l. l ++ more) (is ∙ sym (append-nil first))
joined_longer (first ∷ second ∷ parts) zero part more last is = absurd (omega arith)
joined_longer (first ∷ parts) (suc n) part more last is = ap (λ l. first ++ l) (joined_longer parts n part more (omega arith) is) ∙ sym (append_assoc first (joined parts) more)

-- one chunk more
pub joined_push : {X : Type 0} (parts : List (List X)) (part : List X) → joined (parts ++ part ∷ []) ≡ joined parts ++ part
joined_push parts part = flat_map-append (λ p. p) parts (part ∷ []) ∙ ap (λ l. joined parts ++ l) (append-nil part)

pub joined_more : {X : Type 0} (parts : List (List X)) (i : ℕ) (part : List X) → i < length parts → part ≡ get_or parts i part → joined (take (i + 1) parts) ≡ joined (take i parts) ++ part
joined_more parts i part within is = ap joined (take_more parts i part within ∙ ap (λ p. take i parts ++ p ∷ []) (sym is)) ∙ joined_push (take i parts) part

-- the chunks up to one have no more items than all of them
pub counted_within : {X : Type 0} (parts : List (List X)) (i : ℕ) (part : List X) → i < length parts → part ≡ get_or parts i part → length (joined (take i parts)) + length part ≤ length (joined parts)
counted_within parts i part within is = subst (λ p. length (joined (take i parts)) + length p ≤ length (joined parts)) (sym is) (length-flat_map-take (λ p. p) parts i part within)

pub joined_drop : {X : Type 0} (parts : List (List X)) (i : ℕ) (part : List X) → i < length parts → part ≡ get_or parts i part → joined (drop i parts) ≡ part ++ joined (drop (i + 1) parts)
joined_drop parts i part within is = ap joined (drop_more parts i part within) ∙ ap (λ p. p ++ joined (drop (i + 1) parts)) (sym is)

-- one more item is copied behind the others
pub appended_more : {X : Type 0} (new all first xs : List X) (i : ℕ) (x y : X) → new ≡ all ++ y ∷ [] → all ≡ first ++ take i xs → y ≡ x → i < length xs → x ≡ get_or xs i x → new ≡ first ++ take (i + 1) xs
appended_more new all first xs i x y pushed walked same within is =
    pushed ∙ (λ j. walked j ++ same j ∷ []) ∙ append_assoc first (take i xs) (x ∷ []) ∙ ap (λ l. first ++ l) (sym (take_more xs i x within ∙ ap (λ z. take i xs ++ z ∷ []) (sym is)))

-- a chunk in two
pub joined_split : {X : Type 0} (parts : List (List X)) (i : ℕ) (part before behind : List X) → i < length parts → part ≡ get_or parts i part → before ++ behind ≡ part
    → joined (insert (set parts i before) (i + 1) behind) ≡ joined parts
joined_split [] i part before behind lt is two = absurd (omega arith)
joined_split (first ∷ parts) zero part before behind lt is two = sym (append_assoc before behind (joined parts)) ∙ ap (λ l. l ++ joined parts) (two ∙ is)
joined_split (first ∷ parts) (suc i) part before behind lt is two =
    let e : suc i + 1 ≡ suc (i + 1) = omega arith in
    ap (λ m. joined (insert (first ∷ set parts i before) m behind)) e ∙ ap (λ l. first ++ l) (joined_split parts i part before behind (omega arith) is two)

-- the same at a place that holds an item
pub number_within : {X : Type 0} (parts : List (List X)) (place : Place) → IsPlaceIn parts place → number_of parts place < length (joined parts)
number_within parts place here = place_within parts place.part place.offset here.part here.offset

pub read_at : {X : Type 0} (parts : List (List X)) (place : Place) (part : List X) (t : X) → IsPlaceIn parts place → part ≡ get_or parts place.part part → t ≡ get_or part place.offset t
    → t ≡ get_or (joined parts) (number_of parts place) t
read_at parts place part t here is read =
    read ∙ ap (λ p. get_or p place.offset t) (get_or_read parts place.part part here.part is []) ∙ sym (place_read parts place.part place.offset t here.part here.offset)

pub written_at : {X : Type 0} (parts : List (List X)) (place : Place) (part : List X) (u : X) → IsPlaceIn parts place → part ≡ get_or parts place.part part
    → joined (set parts place.part (set part place.offset u)) ≡ set (joined parts) (number_of parts place) u
written_at parts place part u here is =
    ap (λ p. joined (set parts place.part (set p place.offset u))) (get_or_read parts place.part part here.part is []) ∙ place_set parts place.part place.offset u here.part here.offset

-- a walk that compares a list in chunks with another one, chunk by chunk
pub joined_around : {X : Type 0} (parts : List (List X)) (i : ℕ) (part : List X) → i < length parts → part ≡ get_or parts i part → joined parts ≡ joined (take i parts) ++ (part ++ joined (drop (i + 1) parts))
joined_around parts i part within is =
    ap joined (sym (take-append-drop i parts)) ∙ flat_map-append (λ p. p) (take i parts) (drop i parts) ∙ ap (λ l. joined (take i parts) ++ l) (joined_drop parts i part within is)

pub agree_further : {X : Type 0} (parts : List (List X)) (i : ℕ) (part here behind rest all : List X) → i < length parts → part ≡ get_or parts i part → joined (take i parts) ++ rest ≡ all
    → here ++ behind ≡ rest → part ≡ here → joined (take (i + 1) parts) ++ behind ≡ all
agree_further parts i part here behind rest all within is walked two same =
    ap (λ l. l ++ behind) (joined_more parts i part within is) ∙ append_assoc (joined (take i parts)) part behind
    ∙ ap (λ p. joined (take i parts) ++ (p ++ behind)) same ∙ ap (λ l. joined (take i parts) ++ l) two ∙ walked

-- the chunk and what follows are the rest, where the whole is the list
rest_is : {X : Type 0} (parts : List (List X)) (i : ℕ) (part rest all : List X) → i < length parts → part ≡ get_or parts i part → joined (take i parts) ++ rest ≡ all → joined parts ≡ all
    → part ++ joined (drop (i + 1) parts) ≡ rest
rest_is parts i part rest all within is walked same =
    append_cancel_left (joined (take i parts)) (part ++ joined (drop (i + 1) parts)) rest (sym (joined_around parts i part within is) ∙ same ∙ sym walked)

pub part_too_long : {X : Type 0} (parts : List (List X)) (i : ℕ) (part rest all : List X) → i < length parts → part ≡ get_or parts i part → joined (take i parts) ++ rest ≡ all → length rest < length part
    → joined parts ≡ all → ⊥
part_too_long parts i part rest all within is walked short same =
    let long = sym (length-append part (joined (drop (i + 1) parts))) ∙ ap length (rest_is parts i part rest all within is walked same) in
    omega arith

pub part_differs : {X : Type 0} (parts : List (List X)) (i : ℕ) (part rest all : List X) → i < length parts → part ≡ get_or parts i part → joined (take i parts) ++ rest ≡ all → joined parts ≡ all
    → part ≡ take (length part) rest
part_differs parts i part rest all within is walked same =
    sym (take_at part (joined (drop (i + 1) parts)) (length part) refl) ∙ ap (take (length part)) (rest_is parts i part rest all within is walked same)

pub agree_to_end : {X : Type 0} (parts : List (List X)) (i : ℕ) (rest all : List X) → length parts ≤ i → joined (take i parts) ++ rest ≡ all → (rest ≡ [] → joined parts ≡ all) × (joined parts ≡ all → rest ≡ [])
agree_to_end parts i rest all end walked =
    let whole : joined (take i parts) ≡ joined parts = ap joined (take_all i parts end) in (
      λ none. sym (append-nil (joined parts)) ∙ ap (λ l. joined parts ++ l) (sym none) ∙ ap (λ l. l ++ rest) (sym whole) ∙ walked,
      λ same. append_cancel_left (joined parts) rest [] (ap (λ l. l ++ rest) (sym whole) ∙ walked ∙ sym same ∙ sym (append-nil (joined parts))),
    )

pub none_left : {X : Type 0} (rest : List X) → (IsTrue (length rest == 0) → rest ≡ []) × (rest ≡ [] → IsTrue (length rest == 0))
none_left [] = (λ yes. refl, λ is. refl)
none_left (t ∷ rest) = (λ yes. let none = eqb-true (length (t ∷ rest)) 0 yes in absurd (omega arith), λ is. absurd (cc))
