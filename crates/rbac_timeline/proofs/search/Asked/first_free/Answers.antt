use Rattle.std.proofs.Common.{ℕ, ◌≤◌, arith}
use Rattle.rbac_timeline.specs.Freed.{IsBarred}
use Rattle.rbac_timeline.proofs.Freeing.{AreRolesBarred-more, IsFreed-found, IsFreed-none}
use Rattle.rbac_timeline.proofs.Throughout.{AreBarred-start}
use Rattle.rbac_timeline.proofs.search.Asked.first_free.Goals as goal

pub places-init : goal.places-init
places-init c =
    let s = c.args.self.now in
    (AreBarred-start (λ (b r : ℕ). IsBarred s.timeline.now s.who.now s.attrs.now s.low s.high c.args.cache r b) c.args.bindings s.low s.high c.requires.range c.requires.upto, c.requires.remembered)

pub bar-requires : goal.bar-requires
bar-requires c = record { range = c.requires.range; roles = c.places.invariant.0.upto; bindings = c.requires.upto; remembered = c.places.invariant.1 }

pub returns-then-until-self-clause-freed : goal.returns-then-until-self-clause-freed
returns-then-until-self-clause-freed c =
    let s = c.args.self.now in
    IsFreed-none (IsBarred s.timeline.now s.who.now s.attrs.now s.low s.high c.args.cache) c.args.bindings s.low s.high c.places.place c.places.last c.min-last.result c.in-Some.until (omega (arith, c.min-last.ensures)) (omega arith) c.places.invariant.0 c.in-Some.ensures.until

pub places-preserved : goal.places-preserved
places-preserved c =
    let s = c.args.self.now in
    (AreRolesBarred-more (IsBarred s.timeline.now s.who.now s.attrs.now s.low s.high c.args.cache) c.args.bindings s.low s.high c.places.place c.places.last c.min-last.result c.in-Some.until (omega (arith, c.min-last.ensures)) (omega arith) c.places.invariant.0 c.in-Some.ensures.until, c.in-Some.ensures.remembered)

pub places-smaller : goal.places-smaller
places-smaller c = let behind : c.places.place ≤ c.in-Some.until.first = c.in-Some.ensures.until.first_from in omega arith

pub returns-clause-freed : goal.returns-clause-freed
returns-clause-freed c = let s = c.args.self.now in IsFreed-found (IsBarred s.timeline.now s.who.now s.attrs.now s.low s.high c.args.cache) c.args.bindings s.low s.high c.places.place c.places.last c.places.invariant.0 c.in_default.ensures.until
