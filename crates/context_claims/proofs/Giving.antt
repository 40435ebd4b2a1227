-- The places at which a decision could be given, as contexts and as claims say them.
use Rattle.std.proofs.Common.{ℕ, Bool, Option}
use Rattle.std.specs.Prelude.{IfSome, IfNone}
use Rattle.base_types.specs.PlaceOrder.{AreLeastPlaces}
use Rattle.base_types.specs.declared.verdict.placed.Places.{Places}
use Rattle.event_claims.proofs.Options.{if_some, if_none}
use Rattle.event_claims.specs.Given.{IsGivenAt, AreNoneWithin}
use Rattle.log_context.specs.Given.{IsGivenWithin, AreNoneGiven}

module _ (decides : Places → Bool) (low high : ℕ) where
  to_claims : (places : Places) → IsGivenWithin decides low high places → IsGivenAt decides low high places
  to_claims places g = record {
    of_roles = (g.within.roles_from, g.within.roles_upto);
    of_cluster_roles = (g.within.cluster_roles_from, g.within.cluster_roles_upto);
    of_bindings = (g.within.bindings_from, g.within.bindings_upto);
    of_cluster_bindings = (g.within.cluster_bindings_from, g.within.cluster_bindings_upto);
    right = g.right;
  }

  of_claims : (places : Places) → IsGivenAt decides low high places → IsGivenWithin decides low high places
  of_claims places g = record {
    within = record {
      roles_from = g.of_roles.0;
      roles_upto = g.of_roles.1;
      cluster_roles_from = g.of_cluster_roles.0;
      cluster_roles_upto = g.of_cluster_roles.1;
      bindings_from = g.of_bindings.0;
      bindings_upto = g.of_bindings.1;
      cluster_bindings_from = g.of_cluster_bindings.0;
      cluster_bindings_upto = g.of_cluster_bindings.1;
    };
    right = g.right;
  }

  pub least_given : (found : Option Places) → IfSome found (AreLeastPlaces (IsGivenWithin decides low high)) → IfSome found (AreLeastPlaces (IsGivenAt decides low high))
  least_given found = if_some found _ _ (λ places least. record { decided = to_claims places least.decided; least = λ other g. least.least other (of_claims other g) })

  pub none_given : (found : Option Places) → IfNone found (AreNoneGiven decides low high) → IfNone found (AreNoneWithin decides low high)
  none_given found = if_none found _ _ (λ none places g. none places (of_claims places g))
