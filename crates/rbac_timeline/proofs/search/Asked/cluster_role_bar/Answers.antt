use Rattle.std.proofs.Common.{ℕ, ⊎_elim, inl, inr, sym, ◌∙◌, arith}
use Rattle.clouds.specs.FirstPlace.{HoldsNowhere}
use Rattle.rbac_timeline.specs.declared.way.Way.TheVariants.{ClusterRoles}
use Rattle.rbac_timeline.specs.Extents.{MustGrantInWay}
use Rattle.rbac_timeline.specs.Freed.{IsBarredClusterRole}
use Rattle.rbac_timeline.specs.Searched.{IsFreeCluster}
use Rattle.rbac_timeline.proofs.Freeing.{bar_none, bar_some}
use Rattle.rbac_timeline.proofs.search.Asked.cluster_role_bar.Goals as goal

pub returns-then-is_some-clause-until : goal.returns-then-is_some-clause-until
returns-then-is_some-clause-until c =
    let s = c.args.self.now in
    bar_some (λ (r b : ℕ). MustGrantInWay s.timeline.now ClusterRoles r b s.who.now s.attrs.now) (IsBarredClusterRole s.timeline.now s.who.now s.attrs.now s.low s.high) c.args.cluster_roles c.args.bindings s.high
    c.granted_until-granted.result (sym c.is_some.ensures ∙ c.if-is_some.true) (λ r b must. inl must) c.granted_until-granted.ensures

pub returns-in-Ok-clause-until : goal.returns-in-Ok-clause-until
returns-in-Ok-clause-until c =
    let s = c.args.self.now in
    let not = bar_none (λ (r b : ℕ). MustGrantInWay s.timeline.now ClusterRoles r b s.who.now s.attrs.now) c.args.cluster_roles c.args.bindings s.high c.granted_until-granted.result
    (sym c.is_some.ensures ∙ c.if-is_some.false) c.granted_until-granted.ensures in
    let least = c.in-Ok.ensures.found in
    λ barred. ⊎_elim not (λ (nowhere : HoldsNowhere (IsFreeCluster s.timeline.now s.who.now s.attrs.now c.args.cluster_roles) s.low s.high). nowhere _ least.from_low least.upto_high least.here) barred

pub returns-in-Err-clause-until : goal.returns-in-Err-clause-until
returns-in-Err-clause-until c =
    let none = c.in-Err.ensures.found in
    let bindings = c.requires.bindings in
    record {
      first_from = none.from;
      first_upto = none.upto;
      second_from = bindings;
      second_upto = omega arith;
      throughout = λ r b r_from r_upto b_from b_upto. inr (none.throughout r r_from r_upto);
    }
