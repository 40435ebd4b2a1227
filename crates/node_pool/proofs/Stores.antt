-- What the functions of a store show of its names and levels.
use Rattle.std.proofs.Common.{◌≡◌, ℕ, ◌<◌, ◌≤◌, ◌↔◌, true, List, [], length, take, Result, Ok, Err, OnOk, OnErr, IfOk, Option, Some, None, IfSome, slice_get, option_map, refl, sym, ap, subst, ◌∙◌, arith, ◌+◌, Bor, option_copied}
use Rattle.std.proofs.lemmas.List.{append-nil}
use Rattle.indexmap.specs.IndexSet.{insert_key}
use Rattle.node_pool.specs.declared.fault.PoolFault.{PoolFault}
use Rattle.node_pool.specs.declared.fault.PoolFault.TheVariants.{Full}
use Rattle.node_pool.specs.Flat.{Flat, flat_eq, flat_eq-Decides}
use Rattle.node_pool.specs.Kept.{Kept, seen, AreLevelsKept, Grows}
use Rattle.node_pool.specs.Placing.{PlacesTree}
use Rattle.node_pool.specs.Subtrees.{Begins}
use Rattle.node_pool.specs.Within.{tree_of, trees_from, IsWithin}
use Rattle.node_pool.proofs.Levels.{trees_from-length, trees_from-take, trees_from-at, AreWithin-at}
use Rattle.node_pool.proofs.Adding.{kept-insert, trees-insert, length-insert, number-insert, trees-names}

pub grows-names : (limit : ℕ) (ns ns' : List (List ℕ)) (ps : List Flat) (old : Kept) → AreLevelsKept limit ns ps → seen limit ns ps ≡ old → Begins ns ns' → Grows old (seen limit ns' ps)
grows-names limit ns ns' ps old kept is more =
    subst (λ o. Grows o (seen limit ns' ps)) is (record { limit = refl; names = more; trees = ([], trees-names limit ns ns' ps kept more ∙ sym (append-nil (trees_from ns [] ps))) })

pub same-trees : (limit : ℕ) (ns ns' : List (List ℕ)) (ps : List Flat) (old : Kept) → AreLevelsKept limit ns ps → seen limit ns ps ≡ old → Begins ns ns' → trees_from ns' [] ps ≡ old.trees
same-trees limit ns ns' ps old kept is more = trees-names limit ns ns' ps kept more ∙ ap (λ (o : Kept). o.trees) is

pub seen-length : (limit : ℕ) (ns : List (List ℕ)) (ps : List Flat) (old : Kept) → seen limit ns ps ≡ old → length ps ≡ length old.trees
seen-length limit ns ps old is = sym (trees_from-length ns [] ps) ∙ ap (λ (o : Kept). length o.trees) is

pub seen-room : (limit : ℕ) (ns : List (List ℕ)) (ps : List Flat) (old : Kept) → AreLevelsKept limit ns ps → seen limit ns ps ≡ old → length old.trees ≤ old.limit
seen-room limit ns ps old kept is = subst (λ (o : Kept). length o.trees ≤ o.limit) is (let room = kept.room in omega (arith, trees_from-length ns [] ps))

pub seen-take : (limit n : ℕ) (ns : List (List ℕ)) (ps : List Flat) (old : Kept) → seen limit ns ps ≡ old → trees_from ns [] (take n ps) ≡ take n old.trees
seen-take limit n ns ps old is = trees_from-take ns [] n ps ∙ ap (λ (o : Kept). take n o.trees) is

pub seen-level : (limit number : ℕ) (ns : List (List ℕ)) (ps : List Flat) (old : Kept) → AreLevelsKept limit ns ps → seen limit ns ps ≡ old
    → option_map (tree_of old.names old.trees) (slice_get ps number) ≡ slice_get old.trees number
seen-level limit number ns ps old kept is =
    subst (λ (o : Kept). option_map (tree_of o.names o.trees) (slice_get ps number) ≡ slice_get o.trees number) is (sym (trees_from-at ns [] ps number kept.within))

pub seen-before : (limit number : ℕ) (ns : List (List ℕ)) (ps : List Flat) (old : Kept) → AreLevelsKept limit ns ps → seen limit ns ps ≡ old
    → IfSome (slice_get ps number) (IsWithin old.names number)
seen-before limit number ns ps old kept is =
    subst (λ (o : Kept). IfSome (slice_get ps number) (IsWithin o.names number)) is (go (slice_get ps number) (λ p at. let e : 0 + number ≡ number = omega arith in subst (λ k. IsWithin ns k p) e (AreWithin-at ns 0 ps number p kept.within at)))
  where
    go : (o : Option Flat) → ((p : Flat) → o ≡ Some p → IsWithin ns number p) → IfSome o (IsWithin ns number)
    go None h = tt
    go (Some p) h = h p refl

-- what is said of a look-up's copy is said of the look-up
pub map-copied : {X Y : Type 0} (f : X → Y) (o : Option (Bor X)) (found : Option X) → option_copied o ≡ found → option_map (λ b. f b.now) o ≡ option_map f found
map-copied f None found is = ap (option_map f) is
map-copied f (Some b) found is = ap (option_map f) is

pub if-copied : {X : Type 0} (P : X → Type 0) (o : Option (Bor X)) (found : Option X) → option_copied o ≡ found → IfSome found P → IfSome o (λ b. P b.now)
if-copied P None found is holds = tt
if-copied P (Some b) found is holds = subst (λ f. IfSome f P) (sym is) holds

-- a level that was put in at a number
pub stored : (ps : List Flat) (n : ℕ) (p q : Flat) → slice_get ps n ≡ Some q → flat_eq p q ≡ true → slice_get ps n ≡ Some p
stored ps n p q at same = at ∙ ap Some (sym ((flat_eq-Decides p q).0 same))

pub within-seen : (limit : ℕ) (ns : List (List ℕ)) (ps : List Flat) (p : Flat) (old : Kept) → seen limit ns ps ≡ old → IsWithin old.names (length old.trees) p → IsWithin ns (length (trees_from ns [] ps)) p
within-seen limit ns ps p old is w = subst (λ (o : Kept). IsWithin o.names (length o.trees) p) (sym is) w

pub kept-place : (limit : ℕ) (ns : List (List ℕ)) (ps ps' : List Flat) (p : Flat) (r : Result ℕ PoolFault) → AreLevelsKept limit ns ps → IsWithin ns (length (trees_from ns [] ps)) p
    → OnOk r (ps' ≡ insert_key flat_eq ps p) → OnOk r (length (insert_key flat_eq ps p) ≤ limit) → OnErr r (ps' ≡ ps) → AreLevelsKept limit ns ps'
kept-place limit ns ps ps' p (Ok n) kept w keys fits refused = subst (AreLevelsKept limit ns) (sym keys) (kept-insert limit ns ps p kept w fits)
kept-place limit ns ps ps' p (Err e) kept w keys fits refused = subst (AreLevelsKept limit ns) (sym refused) kept

full-like : (r : Result ℕ PoolFault) (limit k l : ℕ) → k ≡ l → (r ≡ Err Full) ↔ (limit < k) → (r ≡ Err Full) ↔ (limit < l)
full-like r limit k l same full = subst (λ m. (r ≡ Err Full) ↔ (limit < m)) same full

placed-seen : (limit : ℕ) (ns : List (List ℕ)) (ps ps' : List Flat) (p : Flat) (r : Result ℕ PoolFault) → AreLevelsKept limit ns ps → IsWithin ns (length (trees_from ns [] ps)) p
    → OnOk r (ps' ≡ insert_key flat_eq ps p) → IfOk r (λ n. slice_get ps' n ≡ Some p) → OnOk r (length (insert_key flat_eq ps p) ≤ limit) → (r ≡ Err Full) ↔ (limit < length (insert_key flat_eq ps p)) → OnErr r (ps' ≡ ps)
    → PlacesTree (seen limit ns ps) (seen limit ns ps') (tree_of ns (trees_from ns [] ps) p) r
placed-seen limit ns ps ps' p (Ok n) kept w keys at fits full refused = record {
  limit = refl;
  names = refl;
  placed = ap (trees_from ns []) keys ∙ trees-insert limit ns ps p kept w;
  number = ap (λ l. slice_get (trees_from ns [] l) n) keys ∙ number-insert limit ns ps p n kept w (subst (λ l. slice_get l n ≡ Some p) keys at);
  fits = subst (λ k. k ≤ limit) (length-insert limit ns ps p kept w) fits;
  full = full-like (Ok n) limit _ _ (length-insert limit ns ps p kept w) full;
  refused = tt;
}
placed-seen limit ns ps ps' p (Err f) kept w keys at fits full refused = record {
  limit = refl;
  names = refl;
  placed = tt;
  number = tt;
  fits = tt;
  full = full-like (Err f) limit _ _ (length-insert limit ns ps p kept w) full;
  refused = ap (trees_from ns []) refused;
}

-- what `inserted` says of the levels, as `place` says it of the trees
pub place-seen : (limit : ℕ) (ns : List (List ℕ)) (ps ps' : List Flat) (p : Flat) (r : Result ℕ PoolFault) (old : Kept) → AreLevelsKept limit ns ps → seen limit ns ps ≡ old → IsWithin old.names (length old.trees) p
    → OnOk r (ps' ≡ insert_key flat_eq ps p) → IfOk r (λ n. slice_get ps' n ≡ Some p) → OnOk r (length (insert_key flat_eq ps p) ≤ limit) → (r ≡ Err Full) ↔ (limit < length (insert_key flat_eq ps p)) → OnErr r (ps' ≡ ps)
    → PlacesTree old (seen limit ns ps') (tree_of old.names old.trees p) r
place-seen limit ns ps ps' p r old kept is w keys at fits full refused =
    subst (λ (o : Kept). PlacesTree o (seen limit ns ps') (tree_of o.names o.trees p) r) is (placed-seen limit ns ps ps' p r kept (within-seen limit ns ps p old is w) keys at fits full refused)
