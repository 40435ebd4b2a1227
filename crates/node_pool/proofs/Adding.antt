-- A name or a level is put behind the others.
use Rattle.std.proofs.Common.{◌≡◌, ℕ, ◌+◌, ◌≤◌, Bool, true, false, ◌||◌, List, [], ◌∷◌, ◌++◌, length, take, Some, slice_get, option_map, refl, sym, ap, subst, ◌∙◌, arith, append_assoc, length-append, bytes_eq, get_or}
use Rattle.std.specs.Prelude.{if◌then◌else◌, position}
use Rattle.std.specs.List.{list_any}
use Rattle.std.proofs.lemmas.Bool.Decides.{Decides-like, same_from_decides}
use Rattle.std.proofs.lemmas.Slice.Eq.{bytes_eq-Decides}
use Rattle.std.proofs.lemmas.List.{append-nil, length-take}
use Rattle.std.proofs.lemmas.List.Quantifiers.{position-Some}
use Rattle.std.proofs.lemmas.Option.{slice_get-get_or}
use Rattle.indexmap.specs.IndexSet.{insert_key}
use Rattle.base_types.specs.Meaning.{Meaning}
use Rattle.base_types.specs.Same.{same, same-Decides}
use Rattle.node_pool.specs.Flat.{Flat, flat_eq, flat_eq-Decides}
use Rattle.node_pool.specs.Kept.{AreLevelsKept}
use Rattle.node_pool.specs.Pooled.{AreDistinct}
use Rattle.node_pool.specs.Subtrees.{with_tree, Begins}
use Rattle.node_pool.specs.Within.{tree_of, trees_from, IsWithin, AreWithin}
use Rattle.node_pool.proofs.Fronts.{Begins-refl, Begins-snoc, length-snoc, AreDistinct-snoc, AreDistinct-take}
use Rattle.node_pool.proofs.Levels.{Agree-trees, tree_of-agree, IsWithin-more, AreWithin-names, AreWithin-snoc, AreWithin-take, trees_from-names, trees_from-length, trees_from-take, trees_from-snoc, trees_from-at, tree_of-inj}

-- two levels are the same where their trees are
alike : (ns : List (List ℕ)) (all ts us : List Meaning) (p q : Flat) → AreDistinct ns → AreDistinct all → IsWithin ns (length all) p → all ≡ ts ++ us → IsWithin ns (length ts) q
    → flat_eq p q ≡ same (tree_of ns all p) (tree_of ns ts q)
alike ns all ts us p q dn da wp front wq =
    let short : length ts ≤ length all = omega (arith, ap length front, length-append ts us) in
    let wide : IsWithin ns (length all) q = subst (λ l. IsWithin l (length all) q) (append-nil ns) (IsWithin-more ns [] (length ts) (length all) q short wq) in
    let left : tree_of ns all q ≡ tree_of ns ts q = ap (λ l. tree_of ns l q) front ∙ tree_of-agree ns ns (length ts) ts (ts ++ us) q (Agree-trees ns ts us) wq in
    same_from_decides (flat_eq p q) (same (tree_of ns all p) (tree_of ns ts q)) (flat_eq-Decides p q)
    (Decides-like _ (λ e. tree_of-inj ns all p q dn da wp wide (e ∙ sym left)) (λ e. ap (tree_of ns all) e ∙ left) (same-Decides (tree_of ns all p) (tree_of ns ts q)))

-- looking for a level is looking for its tree
found_alike : (ns : List (List ℕ)) (all ts : List Meaning) (ps : List Flat) (p : Flat) → AreDistinct ns → AreDistinct all → IsWithin ns (length all) p → all ≡ ts ++ trees_from ns ts ps → AreWithin ns (length ts) ps
    → list_any (flat_eq p) ps ≡ list_any (same (tree_of ns all p)) (trees_from ns ts ps)
found_alike ns all ts [] p dn da wp front w = refl
found_alike ns all ts (q ∷ ps) p dn da wp front w =
    let t = tree_of ns ts q in
    let us = trees_from ns (ts ++ t ∷ []) ps in
    let first = alike ns all ts (t ∷ us) p q dn da wp front w.0 in
    let rest = found_alike ns all (ts ++ t ∷ []) ps p dn da wp (front ∙ sym (append_assoc ts (t ∷ []) us)) (subst (λ k. AreWithin ns k ps) (length-snoc ts t) w.1) in λ i. first i || rest i

-- the trees after a level is inserted
pub trees-insert : (limit : ℕ) (ns : List (List ℕ)) (ps : List Flat) (p : Flat) → AreLevelsKept limit ns ps → IsWithin ns (length (trees_from ns [] ps)) p
    → trees_from ns [] (insert_key flat_eq ps p) ≡ with_tree (trees_from ns [] ps) (tree_of ns (trees_from ns [] ps) p)
trees-insert limit ns ps p kept w =
    go (list_any (flat_eq p) ps) ∙ ap (λ b. if b then trees_from ns [] ps else trees_from ns [] ps ++ tree_of ns (trees_from ns [] ps) p ∷ [])
    (found_alike ns (trees_from ns [] ps) [] ps p kept.one_number_a_name kept.distinct w refl kept.within)
  where
    go : (b : Bool) → trees_from ns [] (if b then ps else ps ++ p ∷ []) ≡ (if b then trees_from ns [] ps else trees_from ns [] ps ++ tree_of ns (trees_from ns [] ps) p ∷ [])
    go true = refl
    go false = trees_from-snoc ns [] ps p

with_tree-distinct : (ts : List Meaning) (t : Meaning) → AreDistinct ts → AreDistinct (with_tree ts t)
with_tree-distinct ts t distinct = go (list_any (same t) ts) refl
  where
    go : (b : Bool) → list_any (same t) ts ≡ b → AreDistinct (if b then ts else ts ++ t ∷ [])
    go true e = distinct
    go false e = AreDistinct-snoc same same-Decides ts t distinct e

pub with_tree-begins : (ts : List Meaning) (t : Meaning) → Begins ts (with_tree ts t)
with_tree-begins ts t = go (list_any (same t) ts)
  where
    go : (b : Bool) → Begins ts (if b then ts else ts ++ t ∷ [])
    go true = Begins-refl ts
    go false = Begins-snoc ts t

within-insert : (ns : List (List ℕ)) (ps : List Flat) (p : Flat) → AreWithin ns 0 ps → IsWithin ns (length ps) p → AreWithin ns 0 (insert_key flat_eq ps p)
within-insert ns ps p w last = go (list_any (flat_eq p) ps)
  where
    go : (b : Bool) → AreWithin ns 0 (if b then ps else ps ++ p ∷ [])
    go true = w
    go false = AreWithin-snoc ns 0 ps p w (let e : length ps ≡ 0 + length ps = omega arith in subst (λ k. IsWithin ns k p) e last)

pub kept-insert : (limit : ℕ) (ns : List (List ℕ)) (ps : List Flat) (p : Flat) → AreLevelsKept limit ns ps → IsWithin ns (length (trees_from ns [] ps)) p → length (insert_key flat_eq ps p) ≤ limit
    → AreLevelsKept limit ns (insert_key flat_eq ps p)
kept-insert limit ns ps p kept w room = record {
  within = within-insert ns ps p kept.within (subst (λ k. IsWithin ns k p) (trees_from-length ns [] ps) w);
  one_number_a_name = kept.one_number_a_name;
  distinct = subst AreDistinct (sym (trees-insert limit ns ps p kept w)) (with_tree-distinct (trees_from ns [] ps) (tree_of ns (trees_from ns [] ps) p) kept.distinct);
  room = room;
  narrow = kept.narrow;
}

pub length-insert : (limit : ℕ) (ns : List (List ℕ)) (ps : List Flat) (p : Flat) → AreLevelsKept limit ns ps → IsWithin ns (length (trees_from ns [] ps)) p
    → length (insert_key flat_eq ps p) ≡ length (with_tree (trees_from ns [] ps) (tree_of ns (trees_from ns [] ps) p))
length-insert limit ns ps p kept w = sym (trees_from-length ns [] (insert_key flat_eq ps p)) ∙ ap length (trees-insert limit ns ps p kept w)

-- the number at which a level is found
pub found_level : (p : Flat) (ps : List Flat) (n : ℕ) → position (flat_eq p) ps ≡ Some n → slice_get ps n ≡ Some p
found_level p ps n e =
    let found = position-Some (flat_eq p) ps n p e in
    slice_get-get_or ps n p found.0 ∙ ap Some (sym ((flat_eq-Decides p (get_or ps n p)).0 found.1))

-- a level that stands at a number has its tree there
pub number-insert : (limit : ℕ) (ns : List (List ℕ)) (ps : List Flat) (p : Flat) (n : ℕ) → AreLevelsKept limit ns ps → IsWithin ns (length (trees_from ns [] ps)) p → slice_get (insert_key flat_eq ps p) n ≡ Some p
    → slice_get (trees_from ns [] (insert_key flat_eq ps p)) n ≡ Some (tree_of ns (trees_from ns [] ps) p)
number-insert limit ns ps p n kept w at =
    let ts = trees_from ns [] ps in
    let us = trees_from ns [] (insert_key flat_eq ps p) in
    let within = within-insert ns ps p kept.within (subst (λ k. IsWithin ns k p) (trees_from-length ns [] ps) w) in
    let more = with_tree-begins ts (tree_of ns ts p) in
    let grown : us ≡ ts ++ more.0 = trees-insert limit ns ps p kept w ∙ more.1 in
    let left : tree_of ns us p ≡ tree_of ns ts p = ap (λ l. tree_of ns l p) grown ∙ tree_of-agree ns ns (length ts) ts (ts ++ more.0) p (Agree-trees ns ts more.0) w in
    trees_from-at ns [] (insert_key flat_eq ps p) n within ∙ ap (option_map (tree_of ns us)) at ∙ ap Some left

-- more names
pub kept-names : (limit : ℕ) (ns ns' : List (List ℕ)) (ps : List Flat) → AreLevelsKept limit ns ps → Begins ns ns' → AreDistinct ns' → AreLevelsKept limit ns' ps
kept-names limit ns ns' ps kept more distinct = record {
  within = subst (λ l. AreWithin l 0 ps) (sym more.1) (AreWithin-names ns more.0 0 ps kept.within);
  one_number_a_name = distinct;
  distinct = subst AreDistinct (sym (ap (λ l. trees_from l [] ps) more.1 ∙ trees_from-names ns more.0 [] ps kept.within)) kept.distinct;
  room = kept.room;
  narrow = kept.narrow;
}

pub trees-names : (limit : ℕ) (ns ns' : List (List ℕ)) (ps : List Flat) → AreLevelsKept limit ns ps → Begins ns ns' → trees_from ns' [] ps ≡ trees_from ns [] ps
trees-names limit ns ns' ps kept more = ap (λ l. trees_from l [] ps) more.1 ∙ trees_from-names ns more.0 [] ps kept.within

-- the first levels alone
pub kept-take : (limit : ℕ) (ns : List (List ℕ)) (k : ℕ) (ps : List Flat) → AreLevelsKept limit ns ps → AreLevelsKept limit ns (take k ps)
kept-take limit ns k ps kept = record {
  within = AreWithin-take ns 0 k ps kept.within;
  one_number_a_name = kept.one_number_a_name;
  distinct = subst AreDistinct (sym (trees_from-take ns [] k ps)) (AreDistinct-take k (trees_from ns [] ps) kept.distinct);
  room = (let room = kept.room in omega (arith, length-take k ps));
  narrow = kept.narrow;
}

-- a name that was put in at a number, and names among which a new one is put
pub stored_name : (ns : List (List ℕ)) (n : ℕ) (name there : List ℕ) → slice_get ns n ≡ Some there → bytes_eq name there ≡ true → slice_get ns n ≡ Some name
stored_name ns n name there at same = at ∙ ap Some (sym ((bytes_eq-Decides name there).0 same))

pub names-insert : (ns : List (List ℕ)) (name : List ℕ) → Begins ns (insert_key bytes_eq ns name)
names-insert ns name = go (list_any (bytes_eq name) ns)
  where
    go : (b : Bool) → Begins ns (if b then ns else ns ++ name ∷ [])
    go true = Begins-refl ns
    go false = Begins-snoc ns name

pub names-distinct : (ns : List (List ℕ)) (name : List ℕ) → AreDistinct ns → AreDistinct (insert_key bytes_eq ns name)
names-distinct ns name distinct = go (list_any (bytes_eq name) ns) refl
  where
    go : (b : Bool) → list_any (bytes_eq name) ns ≡ b → AreDistinct (if b then ns else ns ++ name ∷ [])
    go true e = distinct
    go false e = AreDistinct-snoc bytes_eq bytes_eq-Decides ns name distinct e
