-- A tree that is there adds nothing.
use Rattle.std.proofs.Common.{◌≡◌, ℕ, ◌<◌, ◌≤◌, zero, suc, Bool, true, false, ◌||◌, List, [], ◌∷◌, ◌++◌, length, Ok, Option, Some, None, IfSome, slice_get, option_map, fold, refl, sym, ap, subst, ◌∙◌, arith}
use Rattle.std.specs.Prelude.{if◌then◌else◌}
use Rattle.std.specs.List.{list_any}
use Rattle.base_types.specs.Meaning.{Meaning, null, flag, whole, words, items, members}
use Rattle.base_types.specs.Same.{same, same-Decides}
use Rattle.node_pool.specs.Flat.{Flat, flat_null, flat_flag, flat_whole, flat_words}
use Rattle.node_pool.specs.Kept.{Kept, seen, AreLevelsKept}
use Rattle.node_pool.specs.Leaves.{leaf_of}
use Rattle.node_pool.specs.Placing.{PlacesTree}
use Rattle.node_pool.specs.Subtrees.{inside, interned, with_tree}
use Rattle.node_pool.specs.Within.{tree_of}
use Rattle.node_pool.proofs.Stores.{seen-level}
use Rattle.node_pool.proofs.Walks.{interned-split}

any_at : (t : Meaning) (ts : List Meaning) (n : ℕ) → slice_get ts n ≡ Some t → list_any (same t) ts ≡ true
any_at t [] n at = absurd (cc)
any_at t (u ∷ us) zero at =
    let is : t ≡ u = cc in ap (λ b. b || list_any (same t) us) ((same-Decides t u).1 is)
any_at t (u ∷ us) (suc n) at = ap (λ b. same t u || b) (any_at t us n at) ∙ or_true (same t u)
  where
    or_true : (b : Bool) → (b || true) ≡ true
    or_true true = refl
    or_true false = refl

pub stays : (ts : List Meaning) (t : Meaning) (n : ℕ) → slice_get ts n ≡ Some t → with_tree ts t ≡ ts
stays ts t n at = ap (λ b. if b then ts else ts ++ t ∷ []) (any_at t ts n at)

leaf-inside : (t : Meaning) (p : Flat) → leaf_of t ≡ Some p → inside t ≡ []
leaf-inside null p is = refl
leaf-inside (flag b) p is = refl
leaf-inside (whole z) p is = refl
leaf-inside (words s) p is = refl
leaf-inside (items ts) p is = absurd (cc)
leaf-inside (members ms) p is = absurd (cc)

leaf-tree : (ns : List (List ℕ)) (ts : List Meaning) (t : Meaning) (p : Flat) → leaf_of t ≡ Some p → tree_of ns ts p ≡ t
leaf-tree ns ts null p is =
    let e : p ≡ flat_null = cc in ap (tree_of ns ts) e
leaf-tree ns ts (flag b) p is =
    let e : p ≡ flat_flag b = cc in ap (tree_of ns ts) e
leaf-tree ns ts (whole z) p is =
    let e : p ≡ flat_whole z = cc in ap (tree_of ns ts) e
leaf-tree ns ts (words s) p is =
    let e : p ≡ flat_words s = cc in ap (tree_of ns ts) e
leaf-tree ns ts (items ks) p is = absurd (cc)
leaf-tree ns ts (members ms) p is = absurd (cc)

-- the tree of a level that stands at a number
pub standing-number : (limit : ℕ) (ns : List (List ℕ)) (ps : List Flat) (p : Flat) (r : Option ℕ) (old : Kept) → AreLevelsKept limit ns ps → seen limit ns ps ≡ old → IfSome r (λ n. slice_get ps n ≡ Some p)
    → IfSome r (λ n. slice_get old.trees n ≡ Some (tree_of old.names old.trees p))
standing-number limit ns ps p None old kept is at = tt
standing-number limit ns ps p (Some n) old kept is at = sym (seen-level limit n ns ps old kept is) ∙ ap (option_map (tree_of old.names old.trees)) at

pub standing-placed : (ts : List Meaning) (t : Meaning) (r : Option ℕ) → IfSome r (λ n. slice_get ts n ≡ Some t) → IfSome r (λ n. with_tree ts t ≡ ts)
standing-placed ts t None at = tt
standing-placed ts t (Some n) at = stays ts t n at

-- what `place` says of it, where nothing is done
pub places-standing : (old : Kept) (t : Meaning) (n : ℕ) → slice_get old.trees n ≡ Some t → with_tree old.trees t ≡ old.trees → length old.trees ≤ old.limit → PlacesTree old old t (Ok n)
places-standing old t n number placed room = record {
  limit = refl;
  names = refl;
  placed = sym placed;
  number = number;
  fits = subst (λ ts. length ts ≤ old.limit) (sym placed) room;
  full = (λ e. absurd (cc), λ above. let over : old.limit < length old.trees = subst (λ ts. old.limit < length ts) placed above in absurd (omega arith));
  refused = tt;
}

-- a value that has nothing within it, at the number of its level
pub leaf-number : (limit : ℕ) (ns : List (List ℕ)) (ps : List Flat) (t : Meaning) (r : Option ℕ) (old : Kept) → AreLevelsKept limit ns ps → seen limit ns ps ≡ old
    → IfSome r (λ n. (p : Flat) × (slice_get ps n ≡ Some p) × (leaf_of t ≡ Some p)) → IfSome r (λ n. slice_get old.trees n ≡ Some t)
leaf-number limit ns ps t None old kept is h = tt
leaf-number limit ns ps t (Some n) old kept is h =
    sym (seen-level limit n ns ps old kept is) ∙ ap (option_map (tree_of old.names old.trees)) h.1 ∙ ap Some (leaf-tree old.names old.trees t h.0 h.2)

pub leaf-added : (ps : List Flat) (ts : List Meaning) (t : Meaning) (r : Option ℕ) → IfSome r (λ n. (p : Flat) × (slice_get ps n ≡ Some p) × (leaf_of t ≡ Some p)) → IfSome r (λ n. slice_get ts n ≡ Some t)
    → IfSome r (λ n. interned ts t ≡ ts)
leaf-added ps ts t None h at = tt
leaf-added ps ts t (Some n) h at = interned-split ts t ∙ ap (λ us. with_tree (fold with_tree ts us) t) (leaf-inside t h.0 h.2) ∙ stays ts t n at
