-- What a pool holds while trees are put in one after another.
use Rattle.std.proofs.Common.{◌≡◌, ℕ, ◌+◌, ◌<◌, ◌≤◌, List, [], ◌∷◌, ◌++◌, length, take, drop, get_or, refl, sym, ap, subst, ◌∙◌, arith, append_assoc, Result, Err}
use Rattle.std.specs.Result.{IsErrAnd}
use Rattle.std.proofs.lemmas.Result.{err_from_is_err_and}
use Rattle.std.specs.Prelude.{fold}
use Rattle.std.specs.List.{flat_map}
use Rattle.std.proofs.lemmas.Grind.{flat_map-append}
use Rattle.std.proofs.lemmas.List.{append-nil, length-take-le, map-append, take_more, take-append-drop}
use Rattle.std.proofs.lemmas.List.Concat.{flat_map-cons}
use Rattle.std.proofs.lemmas.List.Sums.{fold-append}
use Rattle.base_types.specs.Meaning.{Meaning}
use Rattle.node_pool.specs.Pooled.{Pooled}
use Rattle.node_pool.specs.Subtrees.{Begins, subtrees, with_tree, interned}
use Rattle.node_pool.proofs.Adding.{with_tree-begins}
use Rattle.node_pool.proofs.Fronts.{Begins-refl, Begins-trans, Begins-longer}
use Rattle.log_context.specs.LogTrees.{object_trees, with_trees}

interned-begins : (ts : List Meaning) (t : Meaning) → Begins ts (interned ts t)
interned-begins ts t = folded ts (subtrees t)
  where
    folded : (ts us : List Meaning) → Begins ts (fold with_tree ts us)
    folded ts [] = Begins-refl ts
    folded ts (u ∷ us) = Begins-trans ts (with_tree ts u) (fold with_tree (with_tree ts u) us) (with_tree-begins ts u) (folded (with_tree ts u) us)

-- trees that are put in only lengthen the list
pub with_trees-begins : (ts us : List Meaning) → Begins ts (with_trees ts us)
with_trees-begins ts [] = Begins-refl ts
with_trees-begins ts (u ∷ us) = Begins-trans ts (interned ts u) (with_trees (interned ts u) us) (interned-begins ts u) (with_trees-begins (interned ts u) us)

with_trees-longer : (ts us vs : List Meaning) → length (with_trees ts us) ≤ length (with_trees ts (us ++ vs))
with_trees-longer ts us vs =
    subst (λ l. length (with_trees ts us) ≤ length l) (sym (fold-append interned ts us vs)) (Begins-longer (with_trees ts us) (with_trees (with_trees ts us) vs) (with_trees-begins (with_trees ts us) vs))

-- these trees were put in, one after another
pub record IsGrown (old now : Pooled) (trees : List Meaning) : Type 0 where
  pub holds : now.trees ≡ with_trees old.trees trees
  pub limit : now.limit ≡ old.limit

pub grown_begins : (old now : Pooled) (xs : List Meaning) → IsGrown old now xs → Begins old.trees now.trees
grown_begins old now xs grown = subst (Begins old.trees) (sym grown.holds) (with_trees-begins old.trees xs)

pub grown_more : (old now new : Pooled) (xs ys : List Meaning) → IsGrown old now xs → IsGrown now new ys → IsGrown old new (xs ++ ys)
grown_more old now new xs ys first second = record {
  holds = second.holds ∙ ap (λ l. with_trees l ys) first.holds ∙ sym (fold-append interned old.trees xs ys);
  limit = second.limit ∙ first.limit;
}

-- a pool that is full after some of the trees is full after all of them
pub grown_full : (old now : Pooled) (xs ys zs : List Meaning) → IsGrown old now xs → now.limit < length (with_trees now.trees ys) → old.limit < length (with_trees old.trees (xs ++ (ys ++ zs)))
grown_full old now xs ys zs grown full =
    let same : with_trees now.trees ys ≡ with_trees old.trees (xs ++ ys) = ap (λ l. with_trees l ys) grown.holds ∙ sym (fold-append interned old.trees xs ys) in
    let longer = with_trees-longer old.trees (xs ++ ys) zs in
    let limit = grown.limit in
    subst (λ l. old.limit < length (with_trees old.trees l)) (append_assoc xs ys zs) (omega (arith, ap length same))

-- the function joins what it gives for the parts of a list
pub record IsJoining {X : Type 0} (f : List X → List Meaning) : Type 0 where
  pub joins : (xs ys : List X) → f (xs ++ ys) ≡ f xs ++ f ys

pub more_taken : {X : Type 0} (xs : List X) (i : ℕ) (x : X) → i < length xs → x ≡ get_or xs i x → take (i + 1) xs ≡ take i xs ++ x ∷ []
more_taken xs i x within is = take_more xs i x within ∙ ap (λ y. take i xs ++ y ∷ []) (sym is)

pub length_taken : {X : Type 0} (xs : List X) (i : ℕ) → i < length xs → length (take i xs) ≡ i
length_taken xs i within = length-take-le i xs (omega arith)

pub objects_join : IsJoining object_trees
objects_join = record { joins = λ xs ys. map-append (λ object. object.tree) xs ys }

pub flattened_join : {X : Type 0} (f : X → List Meaning) → IsJoining (flat_map f)
flattened_join f = record { joins = flat_map-append f }

pub one_flattened : {X Y : Type 0} (f : X → List Y) (x : X) → flat_map f (x ∷ []) ≡ f x
one_flattened f x = flat_map-cons f x [] ∙ append-nil (f x)

pub grown_one : {X : Type 0} (f : X → List Meaning) (now new : Pooled) (x : X) → IsGrown now new (f x) → IsGrown now new (flat_map f (x ∷ []))
grown_one f now new x grown = subst (IsGrown now new) (sym (one_flattened f x)) grown

pub full_one : {X : Type 0} (f : X → List Meaning) (now : Pooled) (x : X) → now.limit < length (with_trees now.trees (f x)) → now.limit < length (with_trees now.trees (flat_map f (x ∷ [])))
full_one f now x full = subst (λ l. now.limit < length (with_trees now.trees l)) (sym (one_flattened f x)) full

-- one more item of a loop over a list, of which f tells the trees
pub loop_grown : {X : Type 0} (f : List X → List Meaning) → IsJoining f → (old now new : Pooled) (xs : List X) (i : ℕ) (x : X) → i < length xs → x ≡ get_or xs i x
    → IsGrown old now (f (take i xs)) → IsGrown now new (f (x ∷ [])) → IsGrown old new (f (take (i + 1) xs))
loop_grown f joining old now new xs i x within is grown more =
    subst (IsGrown old new) (sym (ap f (more_taken xs i x within is) ∙ joining.joins (take i xs) (x ∷ []))) (grown_more old now new (f (take i xs)) (f (x ∷ [])) grown more)

pub loop_full : {X : Type 0} (f : List X → List Meaning) → IsJoining f → (old now : Pooled) (xs : List X) (i : ℕ) (x : X) → i < length xs → x ≡ get_or xs i x
    → IsGrown old now (f (take i xs)) → now.limit < length (with_trees now.trees (f (x ∷ []))) → old.limit < length (with_trees old.trees (f xs))
loop_full f joining old now xs i x within is grown full =
    let front : take (i + 1) xs ≡ take i xs ++ x ∷ [] = more_taken xs i x within is in
    let rest = drop (i + 1) xs in
    let whole : xs ≡ take i xs ++ (x ∷ [] ++ rest) = sym (take-append-drop (i + 1) xs) ∙ ap (λ l. l ++ rest) front ∙ append_assoc (take i xs) (x ∷ []) rest in
    let cut : f xs ≡ f (take i xs) ++ (f (x ∷ []) ++ f rest) = ap f whole ∙ joining.joins (take i xs) (x ∷ [] ++ rest) ∙ ap (λ l. f (take i xs) ++ l) (joining.joins (x ∷ []) rest) in
    subst (λ l. old.limit < length (with_trees old.trees l)) (sym cut) (grown_full old now (f (take i xs)) (f (x ∷ [])) (f rest) grown full)

pub grown_none : (old : Pooled) → IsGrown old old []
grown_none old = record { holds = refl; limit = refl }

-- a fault that is passed on stays the same
pub passed_on : {T E : Type 0} (r : Result T E) (given fault : E) → IsErrAnd r (λ e. e ≡ given) → r ≡ Err fault → given ≡ fault
passed_on r given fault is refused =
    let p = err_from_is_err_and r is in
    let same : p.0 ≡ fault = one_fault r p.0 fault p.1 refused in
    sym p.2 ∙ same
  where
    one_fault : {T E : Type 0} (r : Result T E) (x y : E) → r ≡ Err x → r ≡ Err y → x ≡ y
    one_fault r x y p q = cc
