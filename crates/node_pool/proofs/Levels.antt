-- The trees of levels stay what they are while names and trees are put behind the others.
use Rattle.std.proofs.Common.{◌≡◌, ℕ, zero, suc, ◌+◌, ◌<◌, ◌≤◌, List, [], ◌∷◌, ◌++◌, length, get_or, map, take, Some, slice_get, option_map, refl, sym, ap, subst, ◌∙◌, arith, append_assoc, length-append}
use Rattle.std.specs.List.{AllByRecursion}
use Rattle.std.specs.List.Sorted.{IsStrictlySortedBy}
use Rattle.std.specs.Ordering.{nat_cmp}
use Rattle.std.specs.Cmp.Lexicographic.{slice_cmp}
use Rattle.std.proofs.lemmas.List.{append-nil, get_or_append_left}
use Rattle.std.proofs.lemmas.Option.{slice_get-get_or}
use Rattle.base_types.specs.Meaning.{Meaning, null, items, members, kids_of, fields_of}
use Rattle.base_types.proofs.Lists.{items-inj, members-inj}
use Rattle.node_pool.specs.Flat.{Flat, flat_null, flat_flag, flat_whole, flat_words, flat_items, flat_members}
use Rattle.node_pool.specs.Pooled.{AreDistinct}
use Rattle.node_pool.specs.Subtrees.{Begins}
use Rattle.node_pool.specs.Within.{name_at, tree_at, name_of, field_at, tree_of, trees_from, IsFieldWithin, IsWithin, AreWithin}
use Rattle.node_pool.proofs.Fronts.{length-snoc}

-- two lists of names, and two of trees, agree below these lengths
pub record Agree (ns ns' : List (List ℕ)) (n : ℕ) (ts ts' : List Meaning) : Type 0 where
  pub names : (k : ℕ) → k < length ns → name_at ns' k ≡ name_at ns k
  pub trees : (k : ℕ) → k < n → tree_at ts' k ≡ tree_at ts k

pub Agree-more : (ns more : List (List ℕ)) (ts us : List Meaning) → Agree ns (ns ++ more) (length ts) ts (ts ++ us)
Agree-more ns more ts us = record {
  names = λ k lt. get_or_append_left ns more [] k lt;
  trees = λ k lt. get_or_append_left ts us null k lt;
}

pub Agree-trees : (ns : List (List ℕ)) (ts us : List Meaning) → Agree ns ns (length ts) ts (ts ++ us)
Agree-trees ns ts us = record { names = λ k lt. refl; trees = λ k lt. get_or_append_left ts us null k lt }

pub Agree-names : (ns more : List (List ℕ)) (n : ℕ) (ts : List Meaning) → Agree ns (ns ++ more) n ts ts
Agree-names ns more n ts = record { names = λ k lt. get_or_append_left ns more [] k lt; trees = λ k lt. refl }

pub Agree-Begins : (ns ns' : List (List ℕ)) (ts ts' : List Meaning) → Begins ns ns' → Begins ts ts' → Agree ns ns' (length ts) ts ts'
Agree-Begins ns ns' ts ts' p q = record {
  names = λ k lt. ap (λ l. name_at l k) p.1 ∙ get_or_append_left ns p.0 [] k lt;
  trees = λ k lt. ap (λ l. tree_at l k) q.1 ∙ get_or_append_left ts q.0 null k lt;
}

pub kids_agree : (n : ℕ) (ts ts' : List Meaning) (ks : List ℕ) → ((k : ℕ) → k < n → tree_at ts' k ≡ tree_at ts k) → AllByRecursion (λ k. k < n) ks → map (tree_at ts') ks ≡ map (tree_at ts) ks
kids_agree n ts ts' [] h all = refl
kids_agree n ts ts' (k ∷ ks) h all = λ i. h k all.0 i ∷ kids_agree n ts ts' ks h all.1 i

pub fields_agree : (ns ns' : List (List ℕ)) (n : ℕ) (ts ts' : List Meaning) (ms : List (ℕ × ℕ)) → Agree ns ns' n ts ts' → AllByRecursion (IsFieldWithin ns n) ms
    → map (field_at ns' ts') ms ≡ map (field_at ns ts) ms
fields_agree ns ns' n ts ts' [] h all = refl
fields_agree ns ns' n ts ts' (m ∷ ms) h all =
    let name = h.names m.0 all.0.0 in
    let tree = h.trees m.1 all.0.1 in λ i. (name i, tree i) ∷ fields_agree ns ns' n ts ts' ms h all.1 i

labels_agree : (ns ns' : List (List ℕ)) (n : ℕ) (ms : List (ℕ × ℕ)) → ((k : ℕ) → k < length ns → name_at ns' k ≡ name_at ns k) → AllByRecursion (IsFieldWithin ns n) ms
    → map (name_of ns') ms ≡ map (name_of ns) ms
labels_agree ns ns' n [] h all = refl
labels_agree ns ns' n (m ∷ ms) h all = λ i. h m.0 all.0.0 i ∷ labels_agree ns ns' n ms h all.1 i

pub tree_of-agree : (ns ns' : List (List ℕ)) (n : ℕ) (ts ts' : List Meaning) (p : Flat) → Agree ns ns' n ts ts' → IsWithin ns n p → tree_of ns' ts' p ≡ tree_of ns ts p
tree_of-agree ns ns' n ts ts' flat_null h w = refl
tree_of-agree ns ns' n ts ts' (flat_flag b) h w = refl
tree_of-agree ns ns' n ts ts' (flat_whole z) h w = refl
tree_of-agree ns ns' n ts ts' (flat_words s) h w = refl
tree_of-agree ns ns' n ts ts' (flat_items ks) h w = ap (λ l. items (kids_of l)) (kids_agree n ts ts' ks h.trees w)
tree_of-agree ns ns' n ts ts' (flat_members ms) h w = ap (λ l. members (fields_of l)) (fields_agree ns ns' n ts ts' ms h w.0)

kids_higher : (m n : ℕ) (ks : List ℕ) → m ≤ n → AllByRecursion (λ k. k < m) ks → AllByRecursion (λ k. k < n) ks
kids_higher m n [] le all = tt
kids_higher m n (k ∷ ks) le all = let first = all.0 in (omega arith, kids_higher m n ks le all.1)

fields_higher : (ns ns' : List (List ℕ)) (m n : ℕ) (ms : List (ℕ × ℕ)) → length ns ≤ length ns' → m ≤ n → AllByRecursion (IsFieldWithin ns m) ms → AllByRecursion (IsFieldWithin ns' n) ms
fields_higher ns ns' m n [] les le all = tt
fields_higher ns ns' m n (f ∷ fs) les le all = let first = all.0 in ((omega arith, omega arith), fields_higher ns ns' m n fs les le all.1)

pub kids_grow : (m n : ℕ) (ks : List ℕ) → m ≤ n → AllByRecursion (λ k. k < m) ks → AllByRecursion (λ k. k < n) ks
kids_grow m n ks le all = kids_higher m n ks le all

pub fields_grow : (ns ns' : List (List ℕ)) (m n : ℕ) (ms : List (ℕ × ℕ)) → length ns ≤ length ns' → m ≤ n → AllByRecursion (IsFieldWithin ns m) ms → AllByRecursion (IsFieldWithin ns' n) ms
fields_grow ns ns' m n ms les le all = fields_higher ns ns' m n ms les le all

-- a level within these is within more
pub IsWithin-more : (ns more : List (List ℕ)) (m n : ℕ) (p : Flat) → m ≤ n → IsWithin ns m p → IsWithin (ns ++ more) n p
IsWithin-more ns more m n flat_null le w = tt
IsWithin-more ns more m n (flat_flag b) le w = tt
IsWithin-more ns more m n (flat_whole z) le w = tt
IsWithin-more ns more m n (flat_words s) le w = tt
IsWithin-more ns more m n (flat_items ks) le w = kids_higher m n ks le w
IsWithin-more ns more m n (flat_members ms) le w =
    (fields_higher ns (ns ++ more) m n ms (omega (arith, length-append ns more)) le w.0, subst (IsStrictlySortedBy (slice_cmp nat_cmp)) (sym (labels_agree ns (ns ++ more) m ms (λ k lt. get_or_append_left ns more [] k lt) w.0)) w.1)

pub AreWithin-names : (ns more : List (List ℕ)) (n : ℕ) (ps : List Flat) → AreWithin ns n ps → AreWithin (ns ++ more) n ps
AreWithin-names ns more n [] w = tt
AreWithin-names ns more n (p ∷ ps) w = (IsWithin-more ns more n n p (omega arith) w.0, AreWithin-names ns more (n + 1) ps w.1)

pub AreWithin-snoc : (ns : List (List ℕ)) (n : ℕ) (ps : List Flat) (p : Flat) → AreWithin ns n ps → IsWithin ns (n + length ps) p → AreWithin ns n (ps ++ p ∷ [])
AreWithin-snoc ns n [] p w last = (let e : n + 0 ≡ n = omega arith in subst (λ k. IsWithin ns k p) e last, tt)
AreWithin-snoc ns n (q ∷ ps) p w last =
    (w.0, AreWithin-snoc ns (n + 1) ps p w.1 (let e : n + suc (length ps) ≡ n + 1 + length ps = omega arith in subst (λ k. IsWithin ns k p) e last))

pub AreWithin-at : (ns : List (List ℕ)) (n : ℕ) (ps : List Flat) (k : ℕ) (p : Flat) → AreWithin ns n ps → slice_get ps k ≡ Some p → IsWithin ns (n + k) p
AreWithin-at ns n [] k p w at = absurd (cc)
AreWithin-at ns n (q ∷ ps) zero p w at =
    let same : q ≡ p = cc in
    let e : n ≡ n + 0 = omega arith in subst (λ k. IsWithin ns k p) e (subst (IsWithin ns n) same w.0)
AreWithin-at ns n (q ∷ ps) (suc k) p w at =
    let e : n + 1 + k ≡ n + suc k = omega arith in subst (λ k. IsWithin ns k p) e (AreWithin-at ns (n + 1) ps k p w.1 at)

pub AreWithin-take : (ns : List (List ℕ)) (n k : ℕ) (ps : List Flat) → AreWithin ns n ps → AreWithin ns n (take k ps)
AreWithin-take ns n zero ps w = tt
AreWithin-take ns n (suc k) [] w = tt
AreWithin-take ns n (suc k) (p ∷ ps) w = (w.0, AreWithin-take ns (n + 1) k ps w.1)

within_next : (ns : List (List ℕ)) (ts : List Meaning) (t : Meaning) (ps : List Flat) → AreWithin ns (length ts + 1) ps → AreWithin ns (length (ts ++ t ∷ [])) ps
within_next ns ts t ps w = subst (λ k. AreWithin ns k ps) (length-snoc ts t) w

-- more names change no tree
pub trees_from-names : (ns more : List (List ℕ)) (ts : List Meaning) (ps : List Flat) → AreWithin ns (length ts) ps → trees_from (ns ++ more) ts ps ≡ trees_from ns ts ps
trees_from-names ns more ts [] w = refl
trees_from-names ns more ts (p ∷ ps) w =
    let first : tree_of (ns ++ more) ts p ≡ tree_of ns ts p = tree_of-agree ns (ns ++ more) (length ts) ts ts p (Agree-names ns more (length ts) ts) w.0 in
    let rest = ap (λ t. trees_from (ns ++ more) (ts ++ t ∷ []) ps) first ∙ trees_from-names ns more (ts ++ tree_of ns ts p ∷ []) ps (within_next ns ts (tree_of ns ts p) ps w.1) in λ i. first i ∷ rest i

pub trees_from-length : (ns : List (List ℕ)) (ts : List Meaning) (ps : List Flat) → length (trees_from ns ts ps) ≡ length ps
trees_from-length ns ts [] = refl
trees_from-length ns ts (p ∷ ps) = ap suc (trees_from-length ns (ts ++ tree_of ns ts p ∷ []) ps)

pub trees_from-take : (ns : List (List ℕ)) (ts : List Meaning) (k : ℕ) (ps : List Flat) → trees_from ns ts (take k ps) ≡ take k (trees_from ns ts ps)
trees_from-take ns ts zero ps = refl
trees_from-take ns ts (suc k) [] = refl
trees_from-take ns ts (suc k) (p ∷ ps) = ap (λ l. tree_of ns ts p ∷ l) (trees_from-take ns (ts ++ tree_of ns ts p ∷ []) k ps)

pub trees_from-snoc : (ns : List (List ℕ)) (ts : List Meaning) (ps : List Flat) (p : Flat)
    → trees_from ns ts (ps ++ p ∷ []) ≡ trees_from ns ts ps ++ tree_of ns (ts ++ trees_from ns ts ps) p ∷ []
trees_from-snoc ns ts [] p = ap (λ l. tree_of ns l p ∷ []) (sym (append-nil ts))
trees_from-snoc ns ts (q ∷ ps) p =
    let t = tree_of ns ts q in
    let us = trees_from ns (ts ++ t ∷ []) ps in
    ap (λ l. t ∷ l) (trees_from-snoc ns (ts ++ t ∷ []) ps p ∙ ap (λ l. us ++ tree_of ns l p ∷ []) (append_assoc ts (t ∷ []) us))

-- the tree of a number is that of its level
pub trees_from-at : (ns : List (List ℕ)) (ts : List Meaning) (ps : List Flat) (k : ℕ) → AreWithin ns (length ts) ps
    → slice_get (trees_from ns ts ps) k ≡ option_map (tree_of ns (ts ++ trees_from ns ts ps)) (slice_get ps k)
trees_from-at ns ts [] k w = refl
trees_from-at ns ts (p ∷ ps) zero w =
    ap Some (sym (tree_of-agree ns ns (length ts) ts (ts ++ tree_of ns ts p ∷ trees_from ns (ts ++ tree_of ns ts p ∷ []) ps) p (Agree-trees ns ts (tree_of ns ts p ∷ trees_from ns (ts ++ tree_of ns ts p ∷ []) ps)) w.0))
trees_from-at ns ts (p ∷ ps) (suc k) w =
    let t = tree_of ns ts p in
    let us = trees_from ns (ts ++ t ∷ []) ps in
    trees_from-at ns (ts ++ t ∷ []) ps k (within_next ns ts t ps w.1) ∙ ap (λ l. option_map (tree_of ns l) (slice_get ps k)) (append_assoc ts (t ∷ []) us)

-- equal elements of a list in which nothing stands twice have one number
one_place : {X : Type 0} (d : X) (xs : List X) (i j : ℕ) → AreDistinct xs → i < length xs → j < length xs → get_or xs i d ≡ get_or xs j d → i ≡ j
one_place d xs i j distinct lt_i lt_j e =
    distinct i j (get_or xs j d) (slice_get-get_or xs i d lt_i ∙ ap Some e) (slice_get-get_or xs j d lt_j)

kids-inj : (ts : List Meaning) (ks js : List ℕ) → AreDistinct ts → AllByRecursion (λ k. k < length ts) ks → AllByRecursion (λ k. k < length ts) js
    → map (tree_at ts) ks ≡ map (tree_at ts) js → ks ≡ js
kids-inj ts [] [] d a b e = refl
kids-inj ts [] (j ∷ js) d a b e = absurd (cc)
kids-inj ts (k ∷ ks) [] d a b e = absurd (cc)
kids-inj ts (k ∷ ks) (j ∷ js) d a b e =
    let first : tree_at ts k ≡ tree_at ts j = cc in
    let rest : map (tree_at ts) ks ≡ map (tree_at ts) js = cc in
    let number = one_place null ts k j d a.0 b.0 first in
    let numbers = kids-inj ts ks js d a.1 b.1 rest in λ i. number i ∷ numbers i

field-inj : (ns : List (List ℕ)) (ts : List Meaning) (m n : ℕ × ℕ) → AreDistinct ns → AreDistinct ts → IsFieldWithin ns (length ts) m → IsFieldWithin ns (length ts) n
    → field_at ns ts m ≡ field_at ns ts n → m ≡ n
field-inj ns ts m n dn dt a b e =
    let name = one_place [] ns m.0 n.0 dn a.0 b.0 (ap (λ (f : List ℕ × Meaning). f.0) e) in
    let value = one_place null ts m.1 n.1 dt a.1 b.1 (ap (λ (f : List ℕ × Meaning). f.1) e) in λ i. (name i, value i)

fields-inj : (ns : List (List ℕ)) (ts : List Meaning) (ms ls : List (ℕ × ℕ)) → AreDistinct ns → AreDistinct ts → AllByRecursion (IsFieldWithin ns (length ts)) ms → AllByRecursion (IsFieldWithin ns (length ts)) ls
    → map (field_at ns ts) ms ≡ map (field_at ns ts) ls → ms ≡ ls
fields-inj ns ts [] [] dn dt a b e = refl
fields-inj ns ts [] (l ∷ ls) dn dt a b e = absurd (cc)
fields-inj ns ts (m ∷ ms) [] dn dt a b e = absurd (cc)
fields-inj ns ts (m ∷ ms) (l ∷ ls) dn dt a b e =
    let first : field_at ns ts m ≡ field_at ns ts l = cc in
    let rest : map (field_at ns ts) ms ≡ map (field_at ns ts) ls = cc in
    let field = field-inj ns ts m l dn dt a.0 b.0 first in
    let fields = fields-inj ns ts ms ls dn dt a.1 b.1 rest in λ i. field i ∷ fields i

-- a tree has one level
pub tree_of-inj : (ns : List (List ℕ)) (ts : List Meaning) (p q : Flat) → AreDistinct ns → AreDistinct ts → IsWithin ns (length ts) p → IsWithin ns (length ts) q → tree_of ns ts p ≡ tree_of ns ts q → p ≡ q
tree_of-inj ns ts flat_null flat_null dn dt v w e = refl
tree_of-inj ns ts flat_null (flat_flag b) dn dt v w e = absurd (cc)
tree_of-inj ns ts flat_null (flat_whole b) dn dt v w e = absurd (cc)
tree_of-inj ns ts flat_null (flat_words b) dn dt v w e = absurd (cc)
tree_of-inj ns ts flat_null (flat_items b) dn dt v w e = absurd (cc)
tree_of-inj ns ts flat_null (flat_members b) dn dt v w e = absurd (cc)
tree_of-inj ns ts (flat_flag a) flat_null dn dt v w e = absurd (cc)
tree_of-inj ns ts (flat_flag a) (flat_flag b) dn dt v w e = cc
tree_of-inj ns ts (flat_flag a) (flat_whole b) dn dt v w e = absurd (cc)
tree_of-inj ns ts (flat_flag a) (flat_words b) dn dt v w e = absurd (cc)
tree_of-inj ns ts (flat_flag a) (flat_items b) dn dt v w e = absurd (cc)
tree_of-inj ns ts (flat_flag a) (flat_members b) dn dt v w e = absurd (cc)
tree_of-inj ns ts (flat_whole a) flat_null dn dt v w e = absurd (cc)
tree_of-inj ns ts (flat_whole a) (flat_flag b) dn dt v w e = absurd (cc)
tree_of-inj ns ts (flat_whole a) (flat_whole b) dn dt v w e = cc
tree_of-inj ns ts (flat_whole a) (flat_words b) dn dt v w e = absurd (cc)
tree_of-inj ns ts (flat_whole a) (flat_items b) dn dt v w e = absurd (cc)
tree_of-inj ns ts (flat_whole a) (flat_members b) dn dt v w e = absurd (cc)
tree_of-inj ns ts (flat_words a) flat_null dn dt v w e = absurd (cc)
tree_of-inj ns ts (flat_words a) (flat_flag b) dn dt v w e = absurd (cc)
tree_of-inj ns ts (flat_words a) (flat_whole b) dn dt v w e = absurd (cc)
tree_of-inj ns ts (flat_words a) (flat_words b) dn dt v w e = cc
tree_of-inj ns ts (flat_words a) (flat_items b) dn dt v w e = absurd (cc)
tree_of-inj ns ts (flat_words a) (flat_members b) dn dt v w e = absurd (cc)
tree_of-inj ns ts (flat_items a) flat_null dn dt v w e = absurd (cc)
tree_of-inj ns ts (flat_items a) (flat_flag b) dn dt v w e = absurd (cc)
tree_of-inj ns ts (flat_items a) (flat_whole b) dn dt v w e = absurd (cc)
tree_of-inj ns ts (flat_items a) (flat_words b) dn dt v w e = absurd (cc)
tree_of-inj ns ts (flat_items a) (flat_items b) dn dt v w e = ap flat_items (kids-inj ts a b dt v w (items-inj (map (tree_at ts) a) (map (tree_at ts) b) e))
tree_of-inj ns ts (flat_items a) (flat_members b) dn dt v w e = absurd (cc)
tree_of-inj ns ts (flat_members a) flat_null dn dt v w e = absurd (cc)
tree_of-inj ns ts (flat_members a) (flat_flag b) dn dt v w e = absurd (cc)
tree_of-inj ns ts (flat_members a) (flat_whole b) dn dt v w e = absurd (cc)
tree_of-inj ns ts (flat_members a) (flat_words b) dn dt v w e = absurd (cc)
tree_of-inj ns ts (flat_members a) (flat_items b) dn dt v w e = absurd (cc)
tree_of-inj ns ts (flat_members a) (flat_members b) dn dt v w e = ap flat_members (fields-inj ns ts a b dn dt v.0 w.0 (members-inj (map (field_at ns ts) a) (map (field_at ns ts) b) e))
