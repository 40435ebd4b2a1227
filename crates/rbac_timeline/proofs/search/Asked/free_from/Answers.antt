use Rattle.std.proofs.Common.{subst, arith}
use Rattle.rbac_timeline.specs.declared.search.RoleCache.TheVariants.{Cluster, Plain}
use Rattle.rbac_timeline.specs.Freed.{IsBarred, IsFreed}
use Rattle.rbac_timeline.proofs.Freeing.{AreFirstFrom-found, IsWithin-nearer, IsWithin-range, none_by_cluster_roles, none_by_roles}
use Rattle.rbac_timeline.proofs.search.Asked.free_from.Goals as goal

pub first_free-role-requires : goal.first_free-role-requires
first_free-role-requires c =
    let s = c.args.self.now in
    record { range = IsWithin-range s.low s.high c.args.bindings c.requires.within; upto = c.requires.within.upto; remembered = c.requires.remembered }

pub first_free-cluster_role-requires : goal.first_free-cluster_role-requires
first_free-cluster_role-requires c =
    let s = c.args.self.now in
    record { range = IsWithin-range s.low s.high c.args.bindings c.requires.within; upto = c.requires.within.upto; remembered = c.first_free-role.ensures.remembered }

pub returns-in-Ok-clause-places : goal.returns-in-Ok-clause-places
returns-in-Ok-clause-places c =
    let s = c.args.self.now in
    let by_roles = subst (λ o. IsFreed (IsBarred s.timeline.now s.who.now s.attrs.now s.low s.high Plain) c.args.bindings s.low s.high o c.first_free-role.result.last) c.in-Some.is c.first_free-role.ensures.freed in
    let by_cluster = subst (λ o. IsFreed (IsBarred s.timeline.now s.who.now s.attrs.now s.low s.high Cluster) c.args.bindings s.low s.high o c.first_free-cluster_role.result.last) c.in-Some-place.is
    c.first_free-cluster_role.ensures.freed in
    AreFirstFrom-found s.timeline.now s.who.now s.attrs.now s.low s.high c.args.bindings _ _ c.min-last.result _ _ c.min-last.ensures by_roles by_cluster c.in-Ok.cluster_bindings c.requires.within.from c.requires.within.upto c.in-Ok.ensures.found

pub returns-in_default-clause-places : goal.returns-in_default-clause-places
returns-in_default-clause-places c =
    let s = c.args.self.now in
    let freed = subst (λ o. IsFreed (IsBarred s.timeline.now s.who.now s.attrs.now s.low s.high Plain) c.args.bindings s.low s.high o c.first_free-role.result.last) c.in_default.is c.first_free-role.ensures.freed in
    none_by_roles s.timeline.now s.who.now s.attrs.now s.low s.high c.args.bindings c.min-last.result c.first_free-role.result.last (omega (arith, c.min-last.ensures)) freed

pub returns-in_default-place-clause-places : goal.returns-in_default-place-clause-places
returns-in_default-place-clause-places c =
    let s = c.args.self.now in
    let freed = subst (λ o. IsFreed (IsBarred s.timeline.now s.who.now s.attrs.now s.low s.high Cluster) c.args.bindings s.low s.high o c.first_free-cluster_role.result.last) c.in_default-place.is
    c.first_free-cluster_role.ensures.freed in
    none_by_cluster_roles s.timeline.now s.who.now s.attrs.now s.low s.high c.args.bindings c.min-last.result c.first_free-cluster_role.result.last (omega (arith, c.min-last.ensures)) freed

pub returns-in-Ok-clause-last : goal.returns-in-Ok-clause-last
returns-in-Ok-clause-last c =
    let s = c.args.self.now in
    IsWithin-nearer _ _ c.args.bindings s.low s.high _ _ _ _ c.min-last.result c.min-last.ensures c.first_free-role.ensures.freed c.first_free-cluster_role.ensures.freed

pub returns-in_default-clause-last : goal.returns-in_default-clause-last
returns-in_default-clause-last c =
    let s = c.args.self.now in
    IsWithin-nearer _ _ c.args.bindings s.low s.high _ _ _ _ c.min-last.result c.min-last.ensures c.first_free-role.ensures.freed c.first_free-cluster_role.ensures.freed

pub returns-in_default-place-clause-last : goal.returns-in_default-place-clause-last
returns-in_default-place-clause-last c =
    let s = c.args.self.now in
    IsWithin-nearer _ _ c.args.bindings s.low s.high _ _ _ _ c.min-last.result c.min-last.ensures c.first_free-role.ensures.freed c.first_free-cluster_role.ensures.freed
