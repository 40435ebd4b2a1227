use Rattle.std.proofs.lemmas.Bool.{both_ways, not-false, not-true}
use Rattle.rbac_timeline.specs.Kinds.{IsBindingOf}
use Rattle.rbac_timeline.proofs.Constancy.{must_still}
use Rattle.rbac_timeline.proofs.search.Asked.key_until.Goals as goal

pub returns-then-not-key_extent : goal.returns-then-not-key_extent
returns-then-not-key_extent c = λ must. both_ways _ (not-true _ c.if-not-key_extent.true) (c.key_extent.ensures.must.1 must)

pub returns : goal.returns
returns c =
    let s = c.args.self.now in
    let key = c.args.key.now in
    let place = c.args.link.binding_place in
    let must = c.key_extent.ensures.must.0 (not-false _ c.if-not-key_extent.false) in
    let roles = c.role_until-first.ensures in
    let bindings = c.still_until-second.ensures.holds_upto in
    record {
      first_from = roles.from;
      first_upto = roles.upto;
      second_from = bindings.from;
      second_upto = bindings.upto;
      throughout = λ r b r_from r_upto b_from b_upto. (
        must.0,
        must.1,
        must_still s.timeline.now key place b b_from (bindings.throughout b b_from b_upto) (IsBindingOf key) _ (roles.throughout r r_from r_upto must.2),
      );
    }
