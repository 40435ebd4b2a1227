-- The walk through a tree: what stands in the store after some of its parts.
use Rattle.std.proofs.Common.{◌≡◌, ℕ, zero, suc, ◌+◌, ◌<◌, ◌≤◌, List, [], ◌∷◌, ◌++◌, length, get_or, map, take, drop, Some, slice_get, refl, sym, ap, subst, ◌∙◌, arith, append_assoc}
use Rattle.std.specs.Prelude.{fold}
use Rattle.std.specs.List.{AllByRecursion}
use Rattle.std.specs.List.Sorted.{IsStrictlySortedBy}
use Rattle.std.specs.Ordering.{nat_cmp}
use Rattle.std.specs.Cmp.Lexicographic.{slice_cmp}
use Rattle.std.proofs.lemmas.List.{append-nil, take_more, map-append}
use Rattle.std.proofs.lemmas.List.Sums.{fold-append}
use Rattle.std.proofs.lemmas.Option.{get_or_from_slice_get, slice_get_within}
use Rattle.base_types.specs.Meaning.{Meaning, null, kids_of, fields_of}
use Rattle.base_types.specs.Names.{names, AreSorted}
use Rattle.node_pool.specs.Kept.{Kept, Grows}
use Rattle.node_pool.specs.Subtrees.{inside, inside_kids, inside_fields, subtrees, with_tree, interned, Begins}
use Rattle.node_pool.specs.Within.{name_at, tree_at, name_of, field_at, IsFieldWithin}
use Rattle.node_pool.proofs.Fronts.{Begins-refl, Begins-trans, Begins-longer, slice_get-Begins}
use Rattle.node_pool.proofs.Levels.{Agree-Begins, kids_agree, fields_agree, kids_grow, fields_grow}
use Rattle.node_pool.proofs.Adding.{with_tree-begins}

pub Grows-refl : (o : Kept) → Grows o o
Grows-refl o = record { limit = refl; names = Begins-refl o.names; trees = Begins-refl o.trees }

pub Grows-trans : (a b c : Kept) → Grows a b → Grows b c → Grows a c
Grows-trans a b c p q = record {
  limit = q.limit ∙ p.limit;
  names = Begins-trans a.names b.names c.names p.names q.names;
  trees = Begins-trans a.trees b.trees c.trees p.trees q.trees;
}

-- trees that are put in only lengthen the list
fold-begins : (ts us : List Meaning) → Begins ts (fold with_tree ts us)
fold-begins ts [] = Begins-refl ts
fold-begins ts (u ∷ us) = Begins-trans ts (with_tree ts u) (fold with_tree (with_tree ts u) us) (with_tree-begins ts u) (fold-begins (with_tree ts u) us)

fold-longer : (ts us vs : List Meaning) → length (fold with_tree ts us) ≤ length (fold with_tree ts (us ++ vs))
fold-longer ts us vs = subst (λ l. length (fold with_tree ts us) ≤ length l) (sym (fold-append with_tree ts us vs)) (Begins-longer (fold with_tree ts us) (fold with_tree (fold with_tree ts us) vs) (fold-begins (fold with_tree ts us) vs))

-- a tree is put in after what is inside it
pub interned-split : (ts : List Meaning) (t : Meaning) → interned ts t ≡ with_tree (fold with_tree ts (inside t)) t
interned-split ts t = fold-append with_tree ts (inside t) (t ∷ [])

pub interned-longer : (ts : List Meaning) (t : Meaning) → length (fold with_tree ts (inside t)) ≤ length (interned ts t)
interned-longer ts t = fold-longer ts (inside t) (t ∷ [])

-- what is inside the first items, the next one, and the rest
inside_kids-split : (xs ys : List Meaning) → inside_kids (kids_of (xs ++ ys)) ≡ inside_kids (kids_of xs) ++ inside_kids (kids_of ys)
inside_kids-split [] ys = refl
inside_kids-split (x ∷ xs) ys = ap (λ l. subtrees x ++ l) (inside_kids-split xs ys) ∙ sym (append_assoc (subtrees x) (inside_kids (kids_of xs)) (inside_kids (kids_of ys)))

inside_fields-split : (xs ys : List (List ℕ × Meaning)) → inside_fields (fields_of (xs ++ ys)) ≡ inside_fields (fields_of xs) ++ inside_fields (fields_of ys)
inside_fields-split [] ys = refl
inside_fields-split (x ∷ xs) ys = ap (λ l. subtrees x.1 ++ l) (inside_fields-split xs ys) ∙ sym (append_assoc (subtrees x.1) (inside_fields (fields_of xs)) (inside_fields (fields_of ys)))

kids-more : (ts xs : List Meaning) (i : ℕ) (x : Meaning) → i < length xs → x ≡ get_or xs i x
    → fold with_tree ts (inside_kids (kids_of (take (i + 1) xs))) ≡ interned (fold with_tree ts (inside_kids (kids_of (take i xs)))) x
kids-more ts xs i x lt is =
    ap (λ l. fold with_tree ts (inside_kids (kids_of l))) (take_more xs i x lt ∙ ap (λ y. take i xs ++ y ∷ []) (sym is))
    ∙ ap (fold with_tree ts) (inside_kids-split (take i xs) (x ∷ []) ∙ ap (λ l. inside_kids (kids_of (take i xs)) ++ l) (append-nil (subtrees x)))
    ∙ fold-append with_tree ts (inside_kids (kids_of (take i xs))) (subtrees x)

fields-more : (ts : List Meaning) (xs : List (List ℕ × Meaning)) (i : ℕ) (x : List ℕ × Meaning) → i < length xs → x ≡ get_or xs i x
    → fold with_tree ts (inside_fields (fields_of (take (i + 1) xs))) ≡ interned (fold with_tree ts (inside_fields (fields_of (take i xs)))) x.1
fields-more ts xs i x lt is =
    ap (λ l. fold with_tree ts (inside_fields (fields_of l))) (take_more xs i x lt ∙ ap (λ y. take i xs ++ y ∷ []) (sym is))
    ∙ ap (fold with_tree ts) (inside_fields-split (take i xs) (x ∷ []) ∙ ap (λ l. inside_fields (fields_of (take i xs)) ++ l) (append-nil (subtrees x.1)))
    ∙ fold-append with_tree ts (inside_fields (fields_of (take i xs))) (subtrees x.1)

take-drop : {X : Type 0} (k : ℕ) (xs : List X) → take k xs ++ drop k xs ≡ xs
take-drop zero xs = refl
take-drop (suc k) [] = refl
take-drop (suc k) (x ∷ xs) = ap (λ l. x ∷ l) (take-drop k xs)

kids-longer : (ts xs : List Meaning) (k : ℕ) → length (fold with_tree ts (inside_kids (kids_of (take k xs)))) ≤ length (fold with_tree ts (inside_kids (kids_of xs)))
kids-longer ts xs k =
    subst (λ l. length (fold with_tree ts (inside_kids (kids_of (take k xs)))) ≤ length (fold with_tree ts l)) (sym (inside_kids-split (take k xs) (drop k xs)) ∙ ap (λ l. inside_kids (kids_of l)) (take-drop k xs))
    (fold-longer ts (inside_kids (kids_of (take k xs))) (inside_kids (kids_of (drop k xs))))

fields-longer : (ts : List Meaning) (xs : List (List ℕ × Meaning)) (k : ℕ) → length (fold with_tree ts (inside_fields (fields_of (take k xs)))) ≤ length (fold with_tree ts (inside_fields (fields_of xs)))
fields-longer ts xs k =
    subst (λ l. length (fold with_tree ts (inside_fields (fields_of (take k xs)))) ≤ length (fold with_tree ts l)) (sym (inside_fields-split (take k xs) (drop k xs)) ∙ ap (λ l. inside_fields (fields_of l)) (take-drop k xs))
    (fold-longer ts (inside_fields (fields_of (take k xs))) (inside_fields (fields_of (drop k xs))))

all-snoc : {X : Type 0} (P : X → Type 0) (xs : List X) (x : X) → AllByRecursion P xs → P x → AllByRecursion P (xs ++ x ∷ [])
all-snoc P [] x all last = (last, tt)
all-snoc P (y ∷ ys) x all last = (all.0, all-snoc P ys x all.1 last)

-- the first items have their numbers
pub record ItemsDone (old now : Kept) (xs : List Meaning) (ks : List ℕ) (i : ℕ) : Type 0 where
  pub grows : Grows old now
  pub added : now.trees ≡ fold with_tree old.trees (inside_kids (kids_of (take i xs)))
  pub within : AllByRecursion (λ k. k < length now.trees) ks
  pub held : map (tree_at now.trees) ks ≡ take i xs

pub items_start : (o : Kept) (xs : List Meaning) → ItemsDone o o xs [] 0
items_start o xs = record { grows = Grows-refl o; added = refl; within = tt; held = refl }

pub items_step : (old now new : Kept) (xs : List Meaning) (ks : List ℕ) (i n : ℕ) (x : Meaning) → ItemsDone old now xs ks i → i < length xs → x ≡ get_or xs i x
    → Grows now new → new.trees ≡ interned now.trees x → slice_get new.trees n ≡ Some x → ItemsDone old new xs (ks ++ n ∷ []) (i + 1)
items_step old now new xs ks i n x done lt is grows added at = record {
  grows = Grows-trans old now new done.grows grows;
  added = added ∙ ap (λ l. interned l x) done.added ∙ sym (kids-more old.trees xs i x lt is);
  within = all-snoc (λ k. k < length new.trees) ks n (kids_grow (length now.trees) (length new.trees) ks (Begins-longer now.trees new.trees grows.trees) done.within) (slice_get_within new.trees n x at);
  held = map-append (tree_at new.trees) ks (n ∷ [])
      ∙ (λ j. earlier j ++ get_or_from_slice_get new.trees n x null at j ∷ [])
      ∙ sym (take_more xs i x lt ∙ ap (λ y. take i xs ++ y ∷ []) (sym is));
}
  where
    earlier : map (tree_at new.trees) ks ≡ take i xs
    earlier = kids_agree (length now.trees) now.trees new.trees ks (Agree-Begins now.names new.names now.trees new.trees grows.names grows.trees).trees done.within ∙ done.held

pub items_full : (old now : Kept) (xs : List Meaning) (ks : List ℕ) (i : ℕ) (x : Meaning) → ItemsDone old now xs ks i → i < length xs → x ≡ get_or xs i x
    → now.limit < length (interned now.trees x) → old.limit < length (fold with_tree old.trees (inside_kids (kids_of xs)))
items_full old now xs ks i x done lt is full =
    let same : now.limit ≡ old.limit = done.grows.limit in
    let part : length (interned now.trees x) ≡ length (fold with_tree old.trees (inside_kids (kids_of (take (i + 1) xs)))) = ap length (ap (λ l. interned l x) done.added ∙ sym (kids-more old.trees xs i x lt is)) in
    let whole = kids-longer old.trees xs (i + 1) in omega arith

-- the first members have their numbers
pub record MembersDone (old now : Kept) (xs : List (List ℕ × Meaning)) (ms : List (ℕ × ℕ)) (i : ℕ) : Type 0 where
  pub grows : Grows old now
  pub added : now.trees ≡ fold with_tree old.trees (inside_fields (fields_of (take i xs)))
  pub within : AllByRecursion (IsFieldWithin now.names (length now.trees)) ms
  pub held : map (field_at now.names now.trees) ms ≡ take i xs

pub members_start : (o : Kept) (xs : List (List ℕ × Meaning)) → MembersDone o o xs [] 0
members_start o xs = record { grows = Grows-refl o; added = refl; within = tt; held = refl }

-- a name's number changes no tree
pub members_named : (old now new : Kept) (xs : List (List ℕ × Meaning)) (ms : List (ℕ × ℕ)) (i : ℕ) → MembersDone old now xs ms i → Grows now new → new.trees ≡ now.trees → MembersDone old new xs ms i
members_named old now new xs ms i done grows same = record {
  grows = Grows-trans old now new done.grows grows;
  added = same ∙ done.added;
  within = fields_grow now.names new.names (length now.trees) (length new.trees) ms (Begins-longer now.names new.names grows.names) (Begins-longer now.trees new.trees grows.trees) done.within;
  held = fields_agree now.names new.names (length now.trees) now.trees new.trees ms (Agree-Begins now.names new.names now.trees new.trees grows.names grows.trees) done.within ∙ done.held;
}

pub members_step : (old now new : Kept) (xs : List (List ℕ × Meaning)) (ms : List (ℕ × ℕ)) (i k n : ℕ) (x : List ℕ × Meaning) → MembersDone old now xs ms i → i < length xs → x ≡ get_or xs i x
    → slice_get now.names k ≡ Some x.0 → Grows now new → new.trees ≡ interned now.trees x.1 → slice_get new.trees n ≡ Some x.1 → MembersDone old new xs (ms ++ (k, n) ∷ []) (i + 1)
members_step old now new xs ms i k n x done lt is name grows added at = record {
  grows = Grows-trans old now new done.grows grows;
  added = added ∙ ap (λ l. interned l x.1) done.added ∙ sym (fields-more old.trees xs i x lt is);
  within = all-snoc (IsFieldWithin new.names (length new.trees)) ms (k, n) (fields_grow now.names new.names (length now.trees) (length new.trees) ms (Begins-longer now.names new.names grows.names) (Begins-longer now.trees new.trees grows.trees) done.within)
      (slice_get_within new.names k x.0 later, slice_get_within new.trees n x.1 at);
  held = map-append (field_at new.names new.trees) ms ((k, n) ∷ [])
      ∙ (λ j. earlier j ++ (get_or_from_slice_get new.names k x.0 [] later j, get_or_from_slice_get new.trees n x.1 null at j) ∷ [])
      ∙ sym (take_more xs i x lt ∙ ap (λ y. take i xs ++ y ∷ []) (sym is));
}
  where
    later : slice_get new.names k ≡ Some x.0
    later = slice_get-Begins now.names new.names k x.0 grows.names name

    earlier : map (field_at new.names new.trees) ms ≡ take i xs
    earlier = fields_agree now.names new.names (length now.trees) now.trees new.trees ms (Agree-Begins now.names new.names now.trees new.trees grows.names grows.trees) done.within ∙ done.held

pub members_full : (old now : Kept) (xs : List (List ℕ × Meaning)) (ms : List (ℕ × ℕ)) (i : ℕ) (x : List ℕ × Meaning) → MembersDone old now xs ms i → i < length xs → x ≡ get_or xs i x
    → now.limit < length (interned now.trees x.1) → old.limit < length (fold with_tree old.trees (inside_fields (fields_of xs)))
members_full old now xs ms i x done lt is full =
    let same : now.limit ≡ old.limit = done.grows.limit in
    let part : length (interned now.trees x.1) ≡ length (fold with_tree old.trees (inside_fields (fields_of (take (i + 1) xs)))) = ap length (ap (λ l. interned l x.1) done.added ∙ sym (fields-more old.trees xs i x lt is)) in
    let whole = fields-longer old.trees xs (i + 1) in omega arith

-- the names of a level's members are in order where those of the members are
labels : (ns : List (List ℕ)) (ts : List Meaning) (ms : List (ℕ × ℕ)) → names (map (field_at ns ts) ms) ≡ map (name_of ns) ms
labels ns ts [] = refl
labels ns ts (m ∷ ms) = ap (λ l. name_at ns m.0 ∷ l) (labels ns ts ms)

pub labels-sorted : (ns : List (List ℕ)) (ts : List Meaning) (ms : List (ℕ × ℕ)) (fs : List (List ℕ × Meaning)) → map (field_at ns ts) ms ≡ fs → AreSorted fs
    → IsStrictlySortedBy (slice_cmp nat_cmp) (map (name_of ns) ms)
labels-sorted ns ts ms fs held sorted = subst (IsStrictlySortedBy (slice_cmp nat_cmp)) (ap names (sym held) ∙ labels ns ts ms) sorted

pub sorted-labels : (ns : List (List ℕ)) (ts : List Meaning) (ms : List (ℕ × ℕ)) → IsStrictlySortedBy (slice_cmp nat_cmp) (map (name_of ns) ms) → AreSorted (map (field_at ns ts) ms)
sorted-labels ns ts ms sorted = subst (IsStrictlySortedBy (slice_cmp nat_cmp)) (sym (labels ns ts ms)) sorted
