-- The walk through a packed list: what a cursor has read, and what is left of it.
use Rattle.std.proofs.Common.{◌≡◌, ℕ, zero, suc, ◌+◌, ◌<◌, ◌≤◌, List, [], ◌∷◌, ◌++◌, length, get_or, map, drop, take, Some, slice_get, refl, sym, ap, subst, ◌∙◌, arith}
use Rattle.std.specs.Prelude.{fold}
use Rattle.std.specs.List.{AllByRecursion}
use Rattle.base_types.specs.Meaning.{Meaning, kids_of, fields_of}
use Rattle.base_types.specs.Size.{nodes, kids_nodes, fields_nodes}
use Rattle.node_pool.specs.Kept.{Kept, Grows}
use Rattle.node_pool.specs.Subtrees.{inside_kids, inside_fields, interned, with_tree}
use Rattle.node_pool.specs.Within.{tree_at, field_at, IsFieldWithin}
use Rattle.node_pool.proofs.Walks.{ItemsDone, MembersDone, items_start, items_step, items_full, members_start, members_named, members_step, members_full}

-- what is read next, as a place in the whole list
record Next {X : Type 0} (xs : List X) (i : ℕ) (x : X) (rest : List X) : Type 0 where
  within : i < length xs
  here : x ≡ get_or xs i x
  left : drop (i + 1) xs ≡ rest

next_at : {X : Type 0} (xs : List X) (i : ℕ) (x : X) (rest : List X) → drop i xs ≡ x ∷ rest → Next xs i x rest
next_at [] zero x rest e = absurd (cc)
next_at [] (suc i) x rest e = absurd (cc)
next_at (y ∷ ys) zero x rest e =
    let same : y ≡ x = cc in
    let tail : ys ≡ rest = cc in
    record { within = omega arith; here = sym same; left = tail }
next_at (y ∷ ys) (suc i) x rest e =
    let n = next_at ys i x rest e in
    let s : suc i + 1 ≡ suc (i + 1) = omega arith in
    record { within = let w = n.within in omega arith; here = n.here; left = rw s n.left }

-- nothing is left
all_read : {X : Type 0} (xs : List X) (i : ℕ) → drop i xs ≡ [] → take i xs ≡ xs
all_read [] zero e = refl
all_read [] (suc i) e = refl
all_read (x ∷ xs) zero e = absurd (cc)
all_read (x ∷ xs) (suc i) e = ap (λ ys. x ∷ ys) (all_read xs i e)

-- what is read next has fewer nodes than the whole list
kid_smaller : (xs : List Meaning) (i : ℕ) (x : Meaning) (rest : List Meaning) → drop i xs ≡ x ∷ rest → nodes x + 1 ≤ kids_nodes (kids_of xs)
kid_smaller [] zero x rest e = absurd (cc)
kid_smaller [] (suc i) x rest e = absurd (cc)
kid_smaller (y ∷ ys) zero x rest e = let same : nodes y ≡ nodes x = cc in omega arith
kid_smaller (y ∷ ys) (suc i) x rest e = let less = kid_smaller ys i x rest e in omega arith

field_smaller : (xs : List (List ℕ × Meaning)) (i : ℕ) (x : List ℕ × Meaning) (rest : List (List ℕ × Meaning)) → drop i xs ≡ x ∷ rest → nodes x.1 + 1 ≤ fields_nodes (fields_of xs)
field_smaller [] zero x rest e = absurd (cc)
field_smaller [] (suc i) x rest e = absurd (cc)
field_smaller (y ∷ ys) zero x rest e = let same : nodes y.1 ≡ nodes x.1 = cc in omega arith
field_smaller (y ∷ ys) (suc i) x rest e = let less = field_smaller ys i x rest e in omega arith

-- the items that were read have their numbers, and these are left
pub record ItemsRead (old now : Kept) (xs : List Meaning) (ks : List ℕ) (rest : List Meaning) : Type 0 where
  pub count : ℕ
  pub done : ItemsDone old now xs ks count
  pub left : drop count xs ≡ rest

pub items_begun : (o : Kept) (xs : List Meaning) (ks : List ℕ) → ks ≡ [] → ItemsRead o o xs ks xs
items_begun o xs ks none = record { count = 0; done = subst (λ l. ItemsDone o o xs l 0) (sym none) (items_start o xs); left = refl }

pub items_smaller : (o now : Kept) (xs : List Meaning) (ks : List ℕ) (rest behind : List Meaning) (x : Meaning) → ItemsRead o now xs ks rest → rest ≡ x ∷ behind → nodes x + 1 ≤ kids_nodes (kids_of xs)
items_smaller o now xs ks rest behind x read front = kid_smaller xs read.count x behind (read.left ∙ front)

pub items_read : (o now new : Kept) (xs : List Meaning) (ks more : List ℕ) (rest behind : List Meaning) (n : ℕ) (x : Meaning) → ItemsRead o now xs ks rest → rest ≡ x ∷ behind
    → Grows now new → new.trees ≡ interned now.trees x → slice_get new.trees n ≡ Some x → more ≡ ks ++ n ∷ [] → ItemsRead o new xs more behind
items_read o now new xs ks more rest behind n x read front grows added at pushed =
    let next = next_at xs read.count x behind (read.left ∙ front) in
    record {
      count = read.count + 1;
      done = subst (λ l. ItemsDone o new xs l (read.count + 1)) (sym pushed) (items_step o now new xs ks read.count n x read.done next.within next.here grows added at);
      left = next.left;
    }

pub items_over : (o now : Kept) (xs : List Meaning) (ks : List ℕ) (rest behind : List Meaning) (x : Meaning) → ItemsRead o now xs ks rest → rest ≡ x ∷ behind
    → now.limit < length (interned now.trees x) → o.limit < length (fold with_tree o.trees (inside_kids (kids_of xs)))
items_over o now xs ks rest behind x read front over =
    let next = next_at xs read.count x behind (read.left ∙ front) in
    items_full o now xs ks read.count x read.done next.within next.here over

-- all items have their numbers
pub record ItemsHeld (old now : Kept) (xs : List Meaning) (ks : List ℕ) : Type 0 where
  pub added : now.trees ≡ fold with_tree old.trees (inside_kids (kids_of xs))
  pub within : AllByRecursion (λ k. k < length now.trees) ks
  pub held : map (tree_at now.trees) ks ≡ xs

pub items_held : (o now : Kept) (xs : List Meaning) (ks all : List ℕ) (rest : List Meaning) → ItemsRead o now xs ks rest → rest ≡ [] → all ≡ ks → ItemsHeld o now xs all
items_held o now xs ks all rest read none same =
    let whole = all_read xs read.count (read.left ∙ none) in
    record {
      added = read.done.added ∙ ap (λ l. fold with_tree o.trees (inside_kids (kids_of l))) whole;
      within = subst (AllByRecursion (λ k. k < length now.trees)) (sym same) read.done.within;
      held = ap (map (tree_at now.trees)) same ∙ read.done.held ∙ whole;
    }

-- the members that were read have their numbers, and these are left
pub record MembersRead (old now : Kept) (xs : List (List ℕ × Meaning)) (ms : List (ℕ × ℕ)) (rest : List (List ℕ × Meaning)) : Type 0 where
  pub count : ℕ
  pub done : MembersDone old now xs ms count
  pub left : drop count xs ≡ rest

pub members_begun : (o : Kept) (xs : List (List ℕ × Meaning)) (ms : List (ℕ × ℕ)) → ms ≡ [] → MembersRead o o xs ms xs
members_begun o xs ms none = record { count = 0; done = subst (λ l. MembersDone o o xs l 0) (sym none) (members_start o xs); left = refl }

pub members_smaller : (o now : Kept) (xs : List (List ℕ × Meaning)) (ms : List (ℕ × ℕ)) (rest behind : List (List ℕ × Meaning)) (x : List ℕ × Meaning) → MembersRead o now xs ms rest → rest ≡ x ∷ behind
    → nodes x.1 + 1 ≤ fields_nodes (fields_of xs)
members_smaller o now xs ms rest behind x read front = field_smaller xs read.count x behind (read.left ∙ front)

-- the next name gets its number, and then its value
pub members_read : (o now named new : Kept) (xs : List (List ℕ × Meaning)) (ms more : List (ℕ × ℕ)) (rest behind : List (List ℕ × Meaning)) (k n : ℕ) (x : List ℕ × Meaning) → MembersRead o now xs ms rest → rest ≡ x ∷ behind
    → Grows now named → named.trees ≡ now.trees → slice_get named.names k ≡ Some x.0 → Grows named new → new.trees ≡ interned named.trees x.1 → slice_get new.trees n ≡ Some x.1 → more ≡ ms ++ (k, n) ∷ []
    → MembersRead o new xs more behind
members_read o now named new xs ms more rest behind k n x read front names same at_name grows added at pushed =
    let next = next_at xs read.count x behind (read.left ∙ front) in
    let done = members_named o now named xs ms read.count read.done names same in
    record {
      count = read.count + 1;
      done = subst (λ l. MembersDone o new xs l (read.count + 1)) (sym pushed) (members_step o named new xs ms read.count k n x done next.within next.here at_name grows added at);
      left = next.left;
    }

pub members_over : (o now named : Kept) (xs : List (List ℕ × Meaning)) (ms : List (ℕ × ℕ)) (rest behind : List (List ℕ × Meaning)) (x : List ℕ × Meaning) → MembersRead o now xs ms rest → rest ≡ x ∷ behind
    → Grows now named → named.trees ≡ now.trees → named.limit < length (interned named.trees x.1) → o.limit < length (fold with_tree o.trees (inside_fields (fields_of xs)))
members_over o now named xs ms rest behind x read front names same over =
    let next = next_at xs read.count x behind (read.left ∙ front) in
    members_full o named xs ms read.count x (members_named o now named xs ms read.count read.done names same) next.within next.here over

-- all members have their numbers
pub record MembersHeld (old now : Kept) (xs : List (List ℕ × Meaning)) (ms : List (ℕ × ℕ)) : Type 0 where
  pub added : now.trees ≡ fold with_tree old.trees (inside_fields (fields_of xs))
  pub within : AllByRecursion (IsFieldWithin now.names (length now.trees)) ms
  pub held : map (field_at now.names now.trees) ms ≡ xs

pub members_held : (o now : Kept) (xs : List (List ℕ × Meaning)) (ms all : List (ℕ × ℕ)) (rest : List (List ℕ × Meaning)) → MembersRead o now xs ms rest → rest ≡ [] → all ≡ ms → MembersHeld o now xs all
members_held o now xs ms all rest read none same =
    let whole = all_read xs read.count (read.left ∙ none) in
    record {
      added = read.done.added ∙ ap (λ l. fold with_tree o.trees (inside_fields (fields_of l))) whole;
      within = subst (AllByRecursion (IsFieldWithin now.names (length now.trees))) (sym same) read.done.within;
      held = ap (map (field_at now.names now.trees)) same ∙ read.done.held ∙ whole;
    }
