use Rattle.rbac_timeline.proofs.Lows.{AreLows-anywhere, AreLows-namespace}
use Rattle.rbac_timeline.proofs.nameless.Nameless.add_binding.Goals as goal

pub returns-in-Some : goal.returns-in-Some
returns-in-Some c = λ spans are. AreLows-namespace c.args.self.now spans c.args.span.now are c.add_low.new.lows _ c.requires c.in-Some.is c.in_ok-add_low-in-Some.ensures

pub returns : goal.returns
returns c = λ spans are. rw c.lesser.ensures (AreLows-anywhere c.args.self.now spans c.args.span.now are c.requires c.in-None.is)
