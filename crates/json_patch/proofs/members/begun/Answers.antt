use Rattle.std.proofs.Common.{length, refl}
use Rattle.json_patch.proofs.Naming.{narrowed_whole, narrowed_end}
use Rattle.json_patch.proofs.members.begun.Goals as goal

pub loop-rest-init : goal.loop-rest-init
loop-rest-init c = narrowed_whole c.args.name.now c.args.parts.now (length c.args.parts.now) refl

pub returns : goal.returns
returns c = narrowed_end c.args.name.now c.args.parts.now c.loop-rest.rest c.loop-rest.invariant c.loop-rest-test.false
