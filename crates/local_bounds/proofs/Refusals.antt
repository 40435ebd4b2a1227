-- What a Conflict tells of the version that was there.
use Rattle.std.proofs.Common.{◌≡◌, ◌≢◌, ℕ, ◌⊎◌, List, Bool, true, false, bytes_eq, Some, None, IfSome, inl, inr, refl, sym, subst}
use Rattle.std.specs.Cmp.Lexicographic.{bytes_decides}
use Rattle.history_model.specs.Histories.{Version}
use Rattle.history_model.specs.Right.{IsRefused}
use Rattle.write_groups.specs.declared.event.Preconditions.{Preconditions}
use Rattle.write_groups.specs.Modelled.{conditions_of}

text_cases : (a b : List ℕ) → (a ≡ b) ⊎ (a ≢ b)
text_cases a b = go (bytes_eq a b) refl
  where
    go : (t : Bool) → bytes_eq a b ≡ t → (a ≡ b) ⊎ (a ≢ b)
    go true e = inl ((bytes_decides a b).0 e)
    go false e = inr (λ s. absurd (cc ((bytes_decides a b).1 s, e)))

module _ (asked : Preconditions) (v : Version) where
  pub other_revision : (revision : ℕ) → asked.revision ≡ Some revision → v.revision ≢ revision → IsRefused (conditions_of asked) (Some v)
  other_revision revision e n = λ m. n (sym (subst (λ o. IfSome o (λ wanted. wanted ≡ v.revision)) e m.0))

  pub other_uid : (uid : List ℕ) → asked.uid ≡ Some uid → v.uid ≢ uid → IsRefused (conditions_of asked) (Some v)
  other_uid uid e n = λ m. n (sym (subst (λ o. IfSome o (λ wanted. wanted ≡ v.uid)) e m.1))

  pub by_revision : (revision : ℕ) → asked.revision ≡ Some revision → asked.uid ≡ None → IsRefused (conditions_of asked) (Some v) → v.revision ≢ revision
  by_revision revision e u s = λ same. s (subst (λ o. IfSome o (λ wanted. wanted ≡ v.revision)) (sym e) (sym same), subst (λ o. IfSome o (λ wanted. wanted ≡ v.uid)) (sym u) tt)

  pub by_nothing : asked.revision ≡ None → asked.uid ≡ None → IsRefused (conditions_of asked) (Some v) → ⊥
  by_nothing e u s = s (subst (λ o. IfSome o (λ wanted. wanted ≡ v.revision)) (sym e) tt, subst (λ o. IfSome o (λ wanted. wanted ≡ v.uid)) (sym u) tt)

  pub by_either : (uid : List ℕ) → asked.uid ≡ Some uid → IsRefused (conditions_of asked) (Some v) → (v.uid ≢ uid) ⊎ (IfSome asked.revision (λ wanted. wanted ≡ v.revision) → ⊥)
  by_either uid u s = go (text_cases v.uid uid)
    where
      go : (v.uid ≡ uid) ⊎ (v.uid ≢ uid) → (v.uid ≢ uid) ⊎ (IfSome asked.revision (λ wanted. wanted ≡ v.revision) → ⊥)
      go (inl e) = inr (λ m. s (m, subst (λ o. IfSome o (λ wanted. wanted ≡ v.uid)) (sym u) (sym e)))
      go (inr n) = inl n
