use Rattle.base_types.specs.declared.kubernetes.request.Decision.TheVariants.{Allow, Forbid}
use Rattle.rbac_timeline.proofs.Answering.{IfNone-least, IfSome-least, none_in_empty}
use Rattle.rbac_timeline.proofs.timeline.Timeline.find_decision.Goals as goal

pub returns-then-low-high-clause-none : goal.returns-then-low-high-clause-none
returns-then-low-high-clause-none c = none_in_empty c.args.self.now c.args.low c.args.high c.args.who.now c.args.attrs.now c.args.wanted c.if-low-high.true

pub returns-in-Allow-clause-some : goal.returns-in-Allow-clause-some
returns-in-Allow-clause-some c = rw c.in-Allow.is (IfSome-least c.args.self.now c.args.low c.args.high c.args.who.now c.args.attrs.now Allow c.find_allowed.result c.find_allowed.ensures)

pub returns-in-Allow-clause-none : goal.returns-in-Allow-clause-none
returns-in-Allow-clause-none c = rw c.in-Allow.is (IfNone-least c.args.self.now c.args.low c.args.high c.args.who.now c.args.attrs.now Allow c.find_allowed.result c.find_allowed.ensures)

pub returns-in-Forbid-clause-some : goal.returns-in-Forbid-clause-some
returns-in-Forbid-clause-some c = rw c.in-Forbid.is (IfSome-least c.args.self.now c.args.low c.args.high c.args.who.now c.args.attrs.now Forbid c.find_forbidden.result c.find_forbidden.ensures)

pub returns-in-Forbid-clause-none : goal.returns-in-Forbid-clause-none
returns-in-Forbid-clause-none c = rw c.in-Forbid.is (IfNone-least c.args.self.now c.args.low c.args.high c.args.who.now c.args.attrs.now Forbid c.find_forbidden.result c.find_forbidden.ensures)
