use Rattle.std.proofs.Common.{ℕ, ◌≤◌, arith}
use Rattle.rbac_timeline.specs.declared.way.Way.TheVariants.{ClusterBindings}
use Rattle.rbac_timeline.specs.Extents.{MustGrantInWay}
use Rattle.rbac_timeline.specs.Searched.{IsFreeCluster}
use Rattle.rbac_timeline.proofs.Throughout.{AreBarred-all, AreBarred-more, AreBarred-start, HoldsUntil-map, least_there}
use Rattle.rbac_timeline.proofs.search.Asked.first_free_cluster_binding.Goals as goal

pub places-init : goal.places-init
places-init c =
    let s = c.args.self.now in
    AreBarred-start (λ (cr b : ℕ). IsFreeCluster s.timeline.now s.who.now s.attrs.now cr b → ⊥) c.args.cluster_roles s.low s.high c.requires.range c.requires.upto

pub granted_until-requires : goal.granted_until-requires
granted_until-requires c = record { roles = c.requires.upto; bindings = c.places.invariant.upto }

pub returns-then-until-self : goal.returns-then-until-self
returns-then-until-self c =
    let s = c.args.self.now in
    AreBarred-all (λ (cr b : ℕ). IsFreeCluster s.timeline.now s.who.now s.attrs.now cr b → ⊥) c.args.cluster_roles s.low s.high c.places.place c.places.last c.min-last.result c.in-Some.until (omega (arith, c.min-last.ensures)) (omega arith)
    c.places.invariant
    (HoldsUntil-map (λ (cr b : ℕ). MustGrantInWay s.timeline.now ClusterBindings cr b s.who.now s.attrs.now) _ c.args.cluster_roles c.places.place s.high c.in-Some.until (λ cr b must free. free must) c.in-Some.ensures)

pub places-preserved : goal.places-preserved
places-preserved c =
    let s = c.args.self.now in
    AreBarred-more (λ (cr b : ℕ). IsFreeCluster s.timeline.now s.who.now s.attrs.now cr b → ⊥) c.args.cluster_roles s.low s.high c.places.place c.places.last c.min-last.result c.in-Some.until (omega (arith, c.min-last.ensures)) (omega arith)
    c.places.invariant
    (HoldsUntil-map (λ (cr b : ℕ). MustGrantInWay s.timeline.now ClusterBindings cr b s.who.now s.attrs.now) _ c.args.cluster_roles c.places.place s.high c.in-Some.until (λ cr b must free. free must) c.in-Some.ensures)

pub places-smaller : goal.places-smaller
places-smaller c = let behind : c.places.place ≤ c.in-Some.until.second = c.in-Some.ensures.second_from in omega arith

pub returns : goal.returns
returns c =
    let s = c.args.self.now in
    let so_far = c.places.invariant in
    least_there (IsFreeCluster s.timeline.now s.who.now s.attrs.now c.args.cluster_roles) s.low s.high c.places.place so_far.from so_far.upto
    (so_far.below.throughout c.args.cluster_roles (omega arith) so_far.below.from) c.in_default.ensures
