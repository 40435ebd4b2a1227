-- One version more, and where its uid comes first.
use Rattle.std.proofs.Common.{◌≡◌, ℕ, ◌<◌, ◌↔◌, ⊎_elim, false, true, List, [], ◌∷◌, ◌++◌, Contains, Option, Some, None, map, refl, sym, ◌∙◌, subst, ap, arith}
use Rattle.std.specs.BTreeMap.{BTreeMap, Updates, get}
use Rattle.std.specs.Ordering.{is_eq}
use Rattle.std.specs.Prelude.{IsTrue}
use Rattle.std.proofs.lemmas.Bool.{both_ways, cases_Bool, false≢true, lt-ltb, ltb-false, ltb-true}
use Rattle.std.proofs.lemmas.Cmp.{nat_list_cmp_total, tied_itself}
use Rattle.base_types.proofs.Quantifiers.{Any-contains, Any-head}
use Rattle.clouds.specs.Kept.{text_order}
use Rattle.clouds.proofs.Quantified.{Any-append_cases, Any-append_left, Any-append_right, Any-cons_cases}
use Rattle.history_model.specs.Groups.{Making}
use Rattle.history_model.specs.Histories as past
use Rattle.history_model.specs.Making.{IsUsedUid}
use Rattle.object_past.specs.Modelled.{version_of}
use Rattle.object_past.specs.declared.version.Version.{Version}
use Rattle.rbac_timeline.proofs.Mentions.{same_text}
use Rattle.log_context.specs.Uses.{AreUses, IsUsedBelow, UsesBelow, is_used_below}
use Rattle.write_groups.proofs.Lists.{map_from, map_has}

-- no version has a uid yet
pub none_used : (uses : BTreeMap (List ℕ) ℕ) → ((uid : List ℕ) → get text_order uses uid ≡ None) → AreUses [] uses
none_used uses none uid revision = (
  (λ used. absurd (false≢true (subst (λ o. IsTrue (is_used_below o revision)) (none uid) used))),
  (λ any. absurd (let within = any.2 in omega arith)),
)

-- what is used below one revision and not below another lies behind the other
behind : (first : Option ℕ) (low revision : ℕ) → is_used_below first low ≡ false → is_used_below first revision ≡ true → low < revision
behind None low revision unused used = absurd (false≢true used)
behind (Some first) low revision unused used = let from = ltb-false first low unused in let upto = ltb-true first revision used in omega (arith, from, upto)

module _ (versions : List Version) (v : Version) (uses : BTreeMap (List ℕ) ℕ) (are : AreUses versions uses) where
  one : (uid : List ℕ) (revision : ℕ) → IsUsedBelow (v ∷ []) uid revision → (v.revision < revision) × (v.uid ≡ uid)
  one uid revision any = ⊎_elim (λ here. here) (λ none. absurd (let within = none.2 in omega arith)) (Any-cons_cases (UsesBelow uid revision) v [] any)

  -- an earlier version has the uid
  pub uses_same : is_used_below (get text_order uses v.uid) v.revision ≡ true → AreUses (versions ++ v ∷ []) uses
  uses_same used uid revision = (
    (λ yes. Any-append_left (UsesBelow uid revision) versions (v ∷ []) ((are uid revision).0 yes)),
    (λ any. ⊎_elim
        (λ before. (are uid revision).1 before)
        (λ last. let at = one uid revision last in earlier uid revision at.0 at.1 ((are v.uid v.revision).0 used))
        (Any-append_cases (UsesBelow uid revision) versions (v ∷ []) any)),
  )
    where
      earlier : (uid : List ℕ) (revision : ℕ) → v.revision < revision → v.uid ≡ uid → IsUsedBelow versions v.uid v.revision → is_used_below (get text_order uses uid) revision ≡ true
      earlier uid revision below is any = (are uid revision).1 (any.0, any.1, any.2, any.3, (omega (arith, any.4.0, below), any.4.1 ∙ is))

  -- none has
  module _ (now : BTreeMap (List ℕ) ℕ) (unused : is_used_below (get text_order uses v.uid) v.revision ≡ false) (updates : Updates text_order uses now v.uid (Some v.revision)) where
    here : (revision : ℕ) → IsTrue (is_used_below (get text_order now v.uid) revision) ↔ IsUsedBelow (versions ++ v ∷ []) v.uid revision
    here revision = (
      (λ used. Any-append_right (UsesBelow v.uid revision) versions (v ∷ [])
          (Any-head (UsesBelow v.uid revision) v [] (ltb-true v.revision revision (subst (λ o. IsTrue (is_used_below o revision)) updates.1 used), refl))),
      (λ any. subst (λ o. IsTrue (is_used_below o revision)) (sym updates.1) (lt-ltb v.revision revision (⊎_elim
          (λ before. behind (get text_order uses v.uid) v.revision revision unused ((are v.uid revision).1 before))
          (λ last. (one v.uid revision last).0)
          (Any-append_cases (UsesBelow v.uid revision) versions (v ∷ []) any)))),
    )

    there : (uid : List ℕ) (revision : ℕ) → is_eq (text_order v.uid uid) ≡ false → IsTrue (is_used_below (get text_order now uid) revision) ↔ IsUsedBelow (versions ++ v ∷ []) uid revision
    there uid revision apart = (
      (λ used. Any-append_left (UsesBelow uid revision) versions (v ∷ []) ((are uid revision).0 (subst (λ o. IsTrue (is_used_below o revision)) (updates.2 uid apart) used))),
      (λ any. subst (λ o. IsTrue (is_used_below o revision)) (sym (updates.2 uid apart)) (⊎_elim
          (λ before. (are uid revision).1 before)
          (λ last. absurd (both_ways _ (subst (λ u. is_eq (text_order v.uid u) ≡ false) (sym (one uid revision last).1) apart) (ap is_eq (tied_itself nat_list_cmp_total v.uid))))
          (Any-append_cases (UsesBelow uid revision) versions (v ∷ []) any))),
    )

    pub uses_more : AreUses (versions ++ v ∷ []) now
    uses_more uid revision = ⊎_elim
        (λ tied. subst (λ u. IsTrue (is_used_below (get text_order now u) revision) ↔ IsUsedBelow (versions ++ v ∷ []) u revision) (same_text v.uid uid tied) (here revision))
        (λ apart. there uid revision apart)
        (cases_Bool (is_eq (text_order v.uid uid)))

-- what the versions tell, the history tells
module _ (h : past.History) (versions : List Version) (are : h.versions ≡ map version_of versions) (m : Making) where
  into : IsUsedBelow versions m.item.uid m.item.revision → IsUsedUid h m
  into any = (version_of any.1, subst (λ vs. Contains vs (version_of any.1)) (sym are) (map_has version_of versions any.1 (any.0, any.2, any.3)), any.4.0, any.4.1)

  from : IsUsedUid h m → IsUsedBelow versions m.item.uid m.item.revision
  from used =
      let found = map_from version_of versions used.0 (subst (λ vs. Contains vs used.0) are used.1) in
      Any-contains (UsesBelow m.item.uid m.item.revision) versions found.0 found.1
      (subst (λ (n : ℕ). n < m.item.revision) (sym (ap (λ (v : past.Version). v.revision) found.2)) used.2, ap (λ (v : past.Version). v.uid) found.2 ∙ used.3)

  pub used_in : (t : Type 0) → t ↔ IsUsedBelow versions m.item.uid m.item.revision → t ↔ IsUsedUid h m
  used_in t both = (λ yes. into (both.0 yes), λ used. both.1 (from used))
