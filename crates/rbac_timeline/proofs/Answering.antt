-- From the first places of the ways to those of the decisions.
use Rattle.std.proofs.Common.{ℕ, ◌<◌, ◌≤◌, ⊎_elim, inl, inr, Option, Some, None, arith}
use Rattle.std.specs.Option.{IfNone, IfSome}
use Rattle.std.proofs.lemmas.Bool.{cases_lt}
use Rattle.base_types.specs.PlaceOrder.{AreLeastPlaces, ComesFirst}
use Rattle.base_types.specs.declared.verdict.placed.Places.{Places}
use Rattle.base_types.specs.declared.kubernetes.request.Decision.{Decision}
use Rattle.base_types.specs.declared.kubernetes.request.Decision.TheVariants.{Allow, Forbid}
use Rattle.base_types.specs.declared.kubernetes.request.RequestAttrs.{RequestAttrs}
use Rattle.base_types.specs.declared.kubernetes.request.User.{User}
use Rattle.rbac_timeline.specs.declared.way.Way.{Way}
use Rattle.rbac_timeline.specs.declared.way.Way.TheVariants.{ClusterBindings, ClusterRoles, Roles}
use Rattle.rbac_timeline.specs.Choices.{IsBypassed}
use Rattle.rbac_timeline.specs.Decisions.{IsDecidedAt, IsPossible}
use Rattle.rbac_timeline.specs.Known.{Known}
use Rattle.rbac_timeline.specs.Searched.{AreFirstOf, IsFreeAt, MayGrantAt, all_at}
use Rattle.rbac_timeline.specs.Sound.{AreSound}
use Rattle.rbac_timeline.proofs.Choosing.{allow_from_may, forbid_from_not_must, may_from_allow, not_must_from_forbid}
use Rattle.rbac_timeline.proofs.Ways.{MayInWay, MustInWay, may_from_way, must_from_way, way_from_may, way_from_must}

pub AreFirstOf-same : (P Q : Places → Type 0) (low high : ℕ) (places : Option Places) → ((p : Places) → P p → Q p) → ((p : Places) → Q p → P p) → AreFirstOf P low high places → AreFirstOf Q low high places
AreFirstOf-same P Q low high None forth back none = λ p within holds. none p within (back p holds)
AreFirstOf-same P Q low high (Some places) forth back first = record { within = first.within; here = forth places first.here; least = λ other within holds. first.least other within (back other holds) }

low_first : (low n : ℕ) (rest : Type 0) → low ≤ n → rest → ComesFirst low n rest
low_first low n rest from holds = ⊎_elim (λ (less : low < n). inl less) (λ (upto : n ≤ low). inr (omega arith, holds)) (cases_lt low n)

-- where it holds anywhere, the least places are the lowest
pub AreFirstOf-lowest : (P : Places → Type 0) (low high : ℕ) → low ≤ high → P (all_at low) → AreFirstOf P low high (Some (all_at low))
AreFirstOf-lowest P low high range holds = record {
  within = record {
    roles_from = omega arith;
    roles_upto = range;
    cluster_roles_from = omega arith;
    cluster_roles_upto = range;
    bindings_from = omega arith;
    bindings_upto = range;
    cluster_bindings_from = omega arith;
    cluster_bindings_upto = range;
  };
  here = holds;
  least = λ other within other_holds.
      low_first low other.roles _ within.roles_from
      (low_first low other.cluster_roles _ within.cluster_roles_from
      (low_first low other.bindings _ within.bindings_from within.cluster_bindings_from));
}

module _ (known : Known) (sound : AreSound known.versions known.ends) (who : User) (attrs : RequestAttrs) (plain : IsBypassed known who → ⊥) where
  allow_at : (places : Places) → MayGrantAt known who attrs places → IsPossible known places who attrs Allow
  allow_at places (inl roles) = allow_from_may known sound places who attrs (may_from_way known places who attrs Roles roles)
  allow_at places (inr (inl cluster_roles)) = allow_from_may known sound places who attrs (may_from_way known places who attrs ClusterRoles cluster_roles)
  allow_at places (inr (inr cluster_bindings)) = allow_from_may known sound places who attrs (may_from_way known places who attrs ClusterBindings cluster_bindings)

  by_way : (places : Places) (way : Way) → MayInWay known places who attrs way → MayGrantAt known who attrs places
  by_way places Roles may = inl may
  by_way places ClusterRoles may = inr (inl may)
  by_way places ClusterBindings may = inr (inr may)

  may_at : (places : Places) → IsPossible known places who attrs Allow → MayGrantAt known who attrs places
  may_at places possible = ⊎_elim
      (λ bypassed. absurd (plain bypassed))
      (λ found. by_way places found.0 found.1)
      (way_from_may known places who attrs (may_from_allow known places who attrs possible))

  pub AreFirstOf-allowed : (low high : ℕ) (places : Option Places) → AreFirstOf (MayGrantAt known who attrs) low high places
      → AreFirstOf (λ p. IsPossible known p who attrs Allow) low high places
  AreFirstOf-allowed low high places first = AreFirstOf-same (MayGrantAt known who attrs) (λ p. IsPossible known p who attrs Allow) low high places allow_at may_at first

  not_in_way : (places : Places) → IsFreeAt known who attrs places → (way : Way) → MustInWay known places who attrs way → ⊥
  not_in_way places free Roles must = free.0.0 must
  not_in_way places free ClusterRoles must = free.0.1 must
  not_in_way places free ClusterBindings must = free.1 must

  forbid_at : (places : Places) → IsFreeAt known who attrs places → IsPossible known places who attrs Forbid
  forbid_at places free = forbid_from_not_must known sound places who attrs
      (λ must. ⊎_elim plain (λ found. not_in_way places free found.0 found.1) (way_from_must known sound places who attrs must))

  free_at : (places : Places) → IsPossible known places who attrs Forbid → IsFreeAt known who attrs places
  free_at places possible = (
    (
      (λ must. not_must_from_forbid known places who attrs possible (must_from_way known places who attrs Roles must)),
      (λ must. not_must_from_forbid known places who attrs possible (must_from_way known places who attrs ClusterRoles must)),
    ),
    (λ must. not_must_from_forbid known places who attrs possible (must_from_way known places who attrs ClusterBindings must)),
  )

  pub AreFirstOf-forbidden : (low high : ℕ) (places : Option Places) → AreFirstOf (IsFreeAt known who attrs) low high places
      → AreFirstOf (λ p. IsPossible known p who attrs Forbid) low high places
  AreFirstOf-forbidden low high places first = AreFirstOf-same (IsFreeAt known who attrs) (λ p. IsPossible known p who attrs Forbid) low high places forbid_at free_at first

pub IfSome-least : (known : Known) (low high : ℕ) (who : User) (attrs : RequestAttrs) (decision : Decision) (places : Option Places) → AreFirstOf (λ p. IsPossible known p who attrs decision) low high places
    → IfSome places (AreLeastPlaces (IsDecidedAt known low high who attrs decision))
IfSome-least known low high who attrs decision None none = tt
IfSome-least known low high who attrs decision (Some places) first = record {
  decided = record { within = first.within; possible = first.here };
  least = λ other decided. first.least other decided.within decided.possible;
}

pub IfNone-least : (known : Known) (low high : ℕ) (who : User) (attrs : RequestAttrs) (decision : Decision) (places : Option Places) → AreFirstOf (λ p. IsPossible known p who attrs decision) low high places
    → IfNone places ((p : Places) → IsDecidedAt known low high who attrs decision p → ⊥)
IfNone-least known low high who attrs decision None none = λ p decided. none p decided.within decided.possible
IfNone-least known low high who attrs decision (Some places) first = tt

pub none_in_empty : (known : Known) (low high : ℕ) (who : User) (attrs : RequestAttrs) (decision : Decision) → high < low → (p : Places) → IsDecidedAt known low high who attrs decision p → ⊥
none_in_empty known low high who attrs decision empty p decided = let from = decided.within.roles_from in let upto = decided.within.roles_upto in omega arith
