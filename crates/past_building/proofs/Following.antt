-- The positions behind others, found by those before them.
use Rattle.std.proofs.Common.{◌≡◌, ◌≢◌, ℕ, zero, suc, ◌+◌, ◌⊎◌, inl, inr, ⊎_elim, List, [], ◌∷◌, length, length-set, replicate, set, slice_get, Option, Some, None, refl, sym, ap, ◌∙◌, subst, arith}
use Rattle.std.proofs.lemmas.Bool.{cases_lt}
use Rattle.std.proofs.lemmas.List.{length-replicate}
use Rattle.std.proofs.lemmas.Option.{none-some, same_Some}
use Rattle.past_building.specs.Following.{AreNextsBelow, IsNextBelow}

-- what stands in a list where one item was put
put_cases : {X : Type 0} (xs : List X) (j : ℕ) (y : X) (i : ℕ) (x : X) → slice_get (set xs j y) i ≡ Some x → ((i ≡ j) × (y ≡ x)) ⊎ ((i ≢ j) × (slice_get xs i ≡ Some x))
put_cases [] j y i x at = absurd (cc at)
put_cases (z ∷ xs) zero y zero x at = inl (refl, same_Some y x at)
put_cases (z ∷ xs) zero y (suc i) x at = inr ((λ same. omega (arith, same)), at)
put_cases (z ∷ xs) (suc j) y zero x at = inr ((λ same. omega (arith, same)), at)
put_cases (z ∷ xs) (suc j) y (suc i) x at = ⊎_elim
    (λ here. inl (ap suc here.0, here.1))
    (λ other. inr ((λ same. other.0 (omega (arith, same))), other.1))
    (put_cases xs j y i x at)

none_at : (n position : ℕ) (next : Option ℕ) → slice_get (replicate n None) position ≡ Some next → None ≡ next
none_at zero position next at = absurd (cc at)
none_at (suc n) zero next at = same_Some None next at
none_at (suc n) (suc position) next at = none_at n position next at

-- nothing is looked at
pub nexts_begun : (earlier nexts : List (Option ℕ)) → nexts ≡ replicate (length earlier) None → AreNextsBelow earlier 0 nexts
nexts_begun earlier nexts is = record {
  all = ap length is ∙ length-replicate (length earlier) None;
  each = λ position next at. subst (IsNextBelow earlier 0 position) (none_at (length earlier) position next (subst (λ l. slice_get l position ≡ Some next) is at))
      (λ later below link. omega (arith, below));
}

module _ (earlier nexts : List (Option ℕ)) (position : ℕ) (are : AreNextsBelow earlier position nexts) where
  -- a position that the one looked at isn't behind
  other_kept : (i : ℕ) (next : Option ℕ) → (slice_get earlier position ≡ Some (Some i) → ⊥) → IsNextBelow earlier position i next → IsNextBelow earlier (position + 1) i next
  other_kept i None other before = λ later below link. ⊎_elim
      (λ under. before later under link)
      (λ from. let same : later ≡ position = omega (arith, below, from) in other (ap (slice_get earlier) (sym same) ∙ link))
      (cases_lt later position)
  other_kept i (Some next) other before = before

  -- one that is behind none is looked at
  pub nexts_kept : slice_get earlier position ≡ Some None → AreNextsBelow earlier (position + 1) nexts
  nexts_kept none = record {
    all = are.all;
    each = λ i next at. other_kept i next (λ link. none-some i (same_Some None (Some i) (sym none ∙ link))) (are.each i next at);
  }

  -- one that is behind another is looked at
  pub nexts_put : (before : ℕ) → slice_get earlier position ≡ Some (Some before) → AreNextsBelow earlier (position + 1) (set nexts before (Some position))
  nexts_put before is = record {
    all = length-set nexts before (Some position) ∙ are.all;
    each = λ i next at. ⊎_elim
        (λ here. subst (IsNextBelow earlier (position + 1) i) here.1 (is ∙ ap (λ n. Some (Some n)) (sym here.0)))
        (λ other. other_kept i next (λ link. other.0 (sym (same_Some before i (same_Some (Some before) (Some i) (sym is ∙ link))))) (are.each i next other.1))
        (put_cases nexts before (Some position) i next at);
  }
