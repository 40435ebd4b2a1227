-- The least places at which bindings may grant, and at which nothing grants for certain.
use Rattle.std.proofs.Common.{ℕ, ◌<◌, ◌≤◌, ⊎_elim, inl, inr, Option, Some, None, arith}
use Rattle.std.proofs.lemmas.Bool.{cases_lt}
use Rattle.base_types.specs.PlaceOrder.{ComesFirst}
use Rattle.base_types.specs.declared.kubernetes.request.RequestAttrs.{RequestAttrs}
use Rattle.base_types.specs.declared.kubernetes.request.User.{User}
use Rattle.rbac_timeline.specs.declared.way.Way.{Way}
use Rattle.rbac_timeline.specs.declared.way.Way.TheVariants.{ClusterBindings, ClusterRoles, Roles}
use Rattle.rbac_timeline.specs.Extents.{MayGrantInWay}
use Rattle.rbac_timeline.specs.Known.{Known}
use Rattle.rbac_timeline.specs.Searched.{AreFirstOf, IsFirstPair, MayGrantBy, all_at, with_cluster_bindings, with_cluster_roles, with_roles}

module _ (known : Known) (who : User) (attrs : RequestAttrs) where
  abbrev pub MayAt : Way → ℕ → ℕ → Type 0
  MayAt way role_place binding_place = MayGrantInWay known way role_place binding_place who attrs

  -- one way's pair among four places
  pub by_roles : (low high : ℕ) → low ≤ high → (pair : Option (ℕ × ℕ)) → IsFirstPair (MayAt Roles) low high pair → AreFirstOf (MayGrantBy known who attrs Roles) low high (with_roles pair (all_at low))
  by_roles low high range None none = λ places within may.
      none places.roles places.bindings within.roles_from within.roles_upto within.bindings_from within.bindings_upto may
  by_roles low high range (Some pair) first = record {
    within = record {
      roles_from = first.first_from;
      roles_upto = first.first_upto;
      cluster_roles_from = omega arith;
      cluster_roles_upto = range;
      bindings_from = first.second_from;
      bindings_upto = first.second_upto;
      cluster_bindings_from = omega arith;
      cluster_bindings_upto = range;
    };
    here = first.here;
    least = λ other within may. ⊎_elim
        (λ less. inl less)
        (λ same. inr (
          same.0,
          ⊎_elim
              (λ (less : low < other.cluster_roles). inl less)
              (λ (upto : other.cluster_roles ≤ low). let from = within.cluster_roles_from in inr (omega arith, second_then pair.1 other.bindings low other.cluster_bindings same.1 within.cluster_bindings_from))
              (cases_lt low other.cluster_roles),
        ))
        (first.least other.roles other.bindings within.roles_from within.roles_upto within.bindings_from within.bindings_upto may);
  }
    where
      second_then : (a b c d : ℕ) → a ≤ b → c ≤ d → ComesFirst a b (c ≤ d)
      second_then a b c d ab cd = ⊎_elim (λ (less : a < b). inl less) (λ (upto : b ≤ a). inr (omega arith, cd)) (cases_lt a b)

  pub by_cluster_roles : (low high : ℕ) → low ≤ high → (pair : Option (ℕ × ℕ)) → IsFirstPair (MayAt ClusterRoles) low high pair
      → AreFirstOf (MayGrantBy known who attrs ClusterRoles) low high (with_cluster_roles pair (all_at low))
  by_cluster_roles low high range None none = λ places within may.
      none places.cluster_roles places.bindings within.cluster_roles_from within.cluster_roles_upto within.bindings_from within.bindings_upto may
  by_cluster_roles low high range (Some pair) first = record {
    within = record {
      roles_from = omega arith;
      roles_upto = range;
      cluster_roles_from = first.first_from;
      cluster_roles_upto = first.first_upto;
      bindings_from = first.second_from;
      bindings_upto = first.second_upto;
      cluster_bindings_from = omega arith;
      cluster_bindings_upto = range;
    };
    here = first.here;
    least = λ other within may. ⊎_elim
        (λ (less : low < other.roles). inl less)
        (λ (upto : other.roles ≤ low). let from = within.roles_from in inr (
          omega arith,
          ⊎_elim
              (λ less. inl less)
              (λ same. inr (same.0, second_then pair.1 other.bindings low other.cluster_bindings same.1 within.cluster_bindings_from))
              (first.least other.cluster_roles other.bindings within.cluster_roles_from within.cluster_roles_upto within.bindings_from within.bindings_upto may),
        ))
        (cases_lt low other.roles);
  }
    where
      second_then : (a b c d : ℕ) → a ≤ b → c ≤ d → ComesFirst a b (c ≤ d)
      second_then a b c d ab cd = ⊎_elim (λ (less : a < b). inl less) (λ (upto : b ≤ a). inr (omega arith, cd)) (cases_lt a b)

  pub by_cluster_bindings : (low high : ℕ) → low ≤ high → (pair : Option (ℕ × ℕ)) → IsFirstPair (MayAt ClusterBindings) low high pair
      → AreFirstOf (MayGrantBy known who attrs ClusterBindings) low high (with_cluster_bindings pair (all_at low))
  by_cluster_bindings low high range None none = λ places within may.
      none places.cluster_roles places.cluster_bindings within.cluster_roles_from within.cluster_roles_upto within.cluster_bindings_from within.cluster_bindings_upto may
  by_cluster_bindings low high range (Some pair) first = record {
    within = record {
      roles_from = omega arith;
      roles_upto = range;
      cluster_roles_from = first.first_from;
      cluster_roles_upto = first.first_upto;
      bindings_from = omega arith;
      bindings_upto = range;
      cluster_bindings_from = first.second_from;
      cluster_bindings_upto = first.second_upto;
    };
    here = first.here;
    least = λ other within may. ⊎_elim
        (λ (less : low < other.roles). inl less)
        (λ (upto : other.roles ≤ low). let from = within.roles_from in inr (
          omega arith,
          ⊎_elim
              (λ less. inl less)
              (λ same. inr (
                same.0,
                ⊎_elim
                    (λ (less : low < other.bindings). inl less)
                    (λ (below : other.bindings ≤ low). let bound = within.bindings_from in inr (omega arith, same.1))
                    (cases_lt low other.bindings),
              ))
              (first.least other.cluster_roles other.cluster_bindings within.cluster_roles_from within.cluster_roles_upto within.cluster_bindings_from within.cluster_bindings_upto may),
        ))
        (cases_lt low other.roles);
  }
