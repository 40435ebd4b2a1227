-- What the walk that puts a tree in answers, by its kinds of refusal.
use Rattle.std.proofs.Common.{◌≡◌, ℕ, ◌<◌, ◌≤◌, List, length, fold, sym, subst, ◌∙◌, arith, Result, Ok, Err}
use Rattle.std.specs.Prelude.{OnOk, OnErr, IsErrAnd}
use Rattle.std.proofs.lemmas.Result.{err_from_is_err_and}
use Rattle.base_types.specs.Meaning.{Meaning}
use Rattle.node_pool.specs.declared.fault.PoolFault.{PoolFault}
use Rattle.node_pool.specs.declared.fault.PoolFault.TheVariants.{Full, OutOfMemory}
use Rattle.node_pool.specs.Kept.{Kept, Grows}
use Rattle.node_pool.specs.Subtrees.{inside, interned, with_tree, Begins}
use Rattle.node_pool.proofs.Adding.{with_tree-begins}
use Rattle.node_pool.proofs.Fronts.{Begins-refl}
use Rattle.node_pool.proofs.Walks.{interned-split, interned-longer}

clash : {T : Type 0} (r : Result T PoolFault) (y : PoolFault) → r ≡ Err y → y ≡ OutOfMemory → r ≡ Err Full → ⊥
clash r y is gives full = cc

-- want of memory is no full pool
pub not_full : {T X : Type 0} (r : Result T PoolFault) → IsErrAnd r (λ y. y ≡ OutOfMemory) → r ≡ Err Full → X
not_full r h full = let p = err_from_is_err_and r h in absurd (clash r p.0 p.1 p.2 full)

begins-placed : {T E : Type 0} (r : Result T E) (ts us : List Meaning) (t : Meaning) → OnOk r (us ≡ with_tree ts t) → OnErr r (us ≡ ts) → Begins ts us
begins-placed (Ok n) ts us t placed refused = subst (Begins ts) (sym placed) (with_tree-begins ts t)
begins-placed (Err e) ts us t placed refused = subst (Begins ts) (sym refused) (Begins-refl ts)

pub Grows-placed : {T E : Type 0} (r : Result T E) (o n : Kept) (t : Meaning) → n.limit ≡ o.limit → n.names ≡ o.names → OnOk r (n.trees ≡ with_tree o.trees t) → OnErr r (n.trees ≡ o.trees) → Grows o n
Grows-placed r o n t limit names placed refused = record {
  limit = limit;
  names = subst (Begins o.names) (sym names) (Begins-refl o.names);
  trees = begins-placed r o.trees n.trees t placed refused;
}

-- the trees once the tree itself is put behind what is inside it
pub placed-interned : (ts us : List Meaning) (t p : Meaning) → us ≡ fold with_tree ts (inside t) → p ≡ t → with_tree us p ≡ interned ts t
placed-interned ts us t p inner stands = (λ i. with_tree (inner i) (stands i)) ∙ sym (interned-split ts t)

pub fits-at : {T E : Type 0} (r : Result T E) (xs ys : List Meaning) (k l : ℕ) → xs ≡ ys → k ≡ l → OnOk r (length xs ≤ k) → OnOk r (length ys ≤ l)
fits-at r xs ys k l same limit h = subst (λ m. OnOk r (length ys ≤ m)) limit (subst (λ zs. OnOk r (length zs ≤ k)) same h)

pub full-at : (xs ys : List Meaning) (k l : ℕ) → xs ≡ ys → k ≡ l → k < length xs → l < length ys
full-at xs ys k l same limit h = subst (λ m. m < length ys) limit (subst (λ zs. k < length zs) same h)

pub full-longer : (limit : ℕ) (ts : List Meaning) (t : Meaning) → limit < length (fold with_tree ts (inside t)) → limit < length (interned ts t)
full-longer limit ts t full = let more = interned-longer ts t in omega arith
