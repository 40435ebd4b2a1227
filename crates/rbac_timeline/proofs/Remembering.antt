-- One answer more that is remembered.
use Rattle.std.proofs.Common.{◌≡◌, ◌⊎◌, ⊎_elim, inl, inr, true, Some, sym, ◌∙◌, ap}
use Rattle.std.specs.BTreeMap.{BTreeMap, IsUnchanged, Updates, get, is_at}
use Rattle.std.specs.Map.{lookup}
use Rattle.std.specs.Ordering.{is_eq}
use Rattle.std.specs.Result.{OnErr, OnOk}
use Rattle.std.specs.declared.cmp.Ordering.{Ordering}
use Rattle.std.specs.declared.result.Result.{Result}
use Rattle.std.specs.declared.result.Result.TheVariants.{Err, Ok}
use Rattle.std.proofs.lemmas.Bool.{cases_Bool, cond-false, cond-true}

-- by keys that are the same where their order doesn't tell them apart
module _ {K V : Type 0} (order : K → K → Ordering) (exact : (a b : K) → is_eq (order a b) ≡ true → a ≡ b) where
  pub remembered : {A B : Type 0} (old new : BTreeMap K V) (key : K) (answer : V) (result : Result A B) → OnOk result (Updates order old new key (Some answer))
      → OnErr result (IsUnchanged old new) → (other : K) (found : V) → get order new other ≡ Some found → (get order old other ≡ Some found) ⊎ ((key ≡ other) × (answer ≡ found))
  remembered old new key answer (Ok x) updates err other found at = ⊎_elim
      (λ tied. inr (exact key other tied, some_is answer found (sym (cond-true (is_eq (order key other)) (Some answer) (get order old other) tied) ∙ sym (updates.0 other) ∙ at)))
      (λ apart. inl (sym (cond-false (is_eq (order key other)) (Some answer) (get order old other) apart) ∙ sym (updates.0 other) ∙ at))
      (cases_Bool (is_eq (order key other)))
    where
      some_is : (a b : V) → Some a ≡ Some b → a ≡ b
      some_is a b is = cc
  remembered old new key answer (Err x) updates unchanged other found at = inl (get_same old new other unchanged ∙ at)
    where
      get_same : (old new : BTreeMap K V) (key : K) → IsUnchanged old new → get order old key ≡ get order new key
      get_same old new key same = sym (ap (λ entries. lookup (is_at (order key)) entries) same)
