-- Where in a window the latest version is refused, by its uid or its revision.
use Rattle.std.proofs.Common.{◌≡◌, ◌≢◌, ℕ, ◌≤◌, ◌⊎◌, ◌↔◌, List, Bool, Option, Some, None, IsSomeAnd, IfSome, map, inl, inr, refl, sym, subst, ◌∙◌}
use Rattle.std.specs.Prelude.{IsTrue}
use Rattle.base_types.specs.declared.kubernetes.key.ObjectKey.{ObjectKey}
use Rattle.history_model.specs.Bounding.{SomewhereIn}
use Rattle.history_model.specs.Histories.{History, Version}
use Rattle.history_model.specs.Right.{IsRefused}
use Rattle.history_model.specs.States.{latest}
use Rattle.object_past.specs.Modelled.{version_of}
use Rattle.object_past.specs.Past.{Recorded}
use Rattle.write_groups.specs.declared.event.Preconditions.{Preconditions}
use Rattle.write_groups.specs.Modelled.{conditions_of}
use Rattle.local_bounds.proofs.Pasts.{latest_found}
use Rattle.local_bounds.proofs.Refusals.{other_revision, other_uid, by_either}
use Rattle.local_bounds.proofs.Tests.{some_and}
use Rattle.local_bounds.specs.Known.{IsPastOf}

module _ (past : Recorded) (h : History) (p : IsPastOf past h) (key : ObjectKey) (low high : ℕ) (asked : Preconditions) (uid : List ℕ) (u : asked.uid ≡ Some uid) where
  abbrev HasOther : ℕ → Type 0
  HasOther x = IsSomeAnd (latest (map version_of past.versions) key x) (λ v. v.uid ≢ uid)

  abbrev IsRefusedAt : ℕ → Type 0
  IsRefusedAt x = IsSomeAnd (latest h.versions key x) (λ v. IsRefused (conditions_of asked) (Some v))

  pub refused_by_uid : SomewhereIn low high (λ x. IsSomeAnd (latest (map version_of past.versions) key x) (λ v. v.uid ≢ uid))
      → SomewhereIn low high (λ x. IsSomeAnd (latest h.versions key x) (λ v. IsRefused (conditions_of asked) (Some v)))
  refused_by_uid (x, l, m, s) = (
    x,
    l,
    m,
    subst (λ o. IsSomeAnd o (λ v. IsRefused (conditions_of asked) (Some v))) (sym (latest_found past h p key x (latest (map version_of past.versions) key x) refl))
        (some_and (λ v. v.uid ≢ uid) (λ v. IsRefused (conditions_of asked) (Some v)) (latest (map version_of past.versions) key x) (λ v n. other_uid asked v uid u n) s),
  )

  module _ (none : SomewhereIn low high (λ x. IsSomeAnd (latest (map version_of past.versions) key x) (λ v. v.uid ≢ uid)) → ⊥) where
    -- refused, and not by the uid
    by_rest : (x : ℕ) (v : Version) → low ≤ x → x ≤ high → latest h.versions key x ≡ Some v → IsRefused (conditions_of asked) (Some v)
        → IfSome asked.revision (λ wanted. wanted ≡ v.revision) → ⊥
    by_rest x v l m e s = go (by_either asked v uid u s)
      where
        go : (v.uid ≢ uid) ⊎ (IfSome asked.revision (λ wanted. wanted ≡ v.revision) → ⊥) → IfSome asked.revision (λ wanted. wanted ≡ v.revision) → ⊥
        go (inl n) w = none (x, l, m, subst (λ o. IsSomeAnd o (λ (v : Version). v.uid ≢ uid)) (sym e ∙ latest_found past h p key x (latest (map version_of past.versions) key x) refl) n)
        go (inr n) w = n w

    pub refused_by_uid_alone : asked.revision ≡ None → SomewhereIn low high (λ x. IsSomeAnd (latest h.versions key x) (λ v. IsRefused (conditions_of asked) (Some v))) → ⊥
    refused_by_uid_alone e (x, l, m, s) = go (latest h.versions key x) refl s
      where
        go : (o : Option Version) → latest h.versions key x ≡ o → IsSomeAnd o (λ v. IsRefused (conditions_of asked) (Some v)) → ⊥
        go None f s = absurd s
        go (Some v) f s = by_rest x v l m f s (subst (λ o. IfSome o (λ wanted. wanted ≡ v.revision)) (sym e) tt)

    pub refused_by_revision : (revision : ℕ) → asked.revision ≡ Some revision → (test : Bool)
        → IsTrue test ↔ SomewhereIn low high (λ x. IsSomeAnd (latest h.versions key x) (λ v. v.revision ≢ revision))
        → IsTrue test ↔ SomewhereIn low high (λ x. IsSomeAnd (latest h.versions key x) (λ v. IsRefused (conditions_of asked) (Some v)))
    refused_by_revision revision e test other = ((λ t. to (other.0 t)), λ s. other.1 (from s))
      where
        to : SomewhereIn low high (λ x. IsSomeAnd (latest h.versions key x) (λ v. v.revision ≢ revision))
            → SomewhereIn low high (λ x. IsSomeAnd (latest h.versions key x) (λ v. IsRefused (conditions_of asked) (Some v)))
        to (x, l, m, s) = (x, l, m, some_and (λ v. v.revision ≢ revision) (λ v. IsRefused (conditions_of asked) (Some v)) (latest h.versions key x) (λ v n. other_revision asked v revision e n) s)

        from : SomewhereIn low high (λ x. IsSomeAnd (latest h.versions key x) (λ v. IsRefused (conditions_of asked) (Some v)))
            → SomewhereIn low high (λ x. IsSomeAnd (latest h.versions key x) (λ v. v.revision ≢ revision))
        from (x, l, m, s) = go (latest h.versions key x) refl s
          where
            go : (o : Option Version) → latest h.versions key x ≡ o → IsSomeAnd o (λ v. IsRefused (conditions_of asked) (Some v))
                → SomewhereIn low high (λ x. IsSomeAnd (latest h.versions key x) (λ v. v.revision ≢ revision))
            go None f s = absurd s
            go (Some v) f s = (x, l, m, subst (λ o. IsSomeAnd o (λ v. v.revision ≢ revision)) (sym f) (λ same. by_rest x v l m f s (subst (λ o. IfSome o (λ wanted. wanted ≡ v.revision)) (sym e) (sym same))))
