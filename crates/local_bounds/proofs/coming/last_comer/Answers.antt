use Rattle.std.proofs.Common.{arith}
use Rattle.local_bounds.proofs.Comers.{none_comes, none_above, one_comes}
use Rattle.local_bounds.proofs.coming.last_comer.Goals as goal

pub returns-in_default : goal.returns-in_default
returns-in_default c = λ h p. none_comes c.args.past.now h p c.args.key.now c.args.low c.args.high c.in_default.ensures.latest

pub returns-then-get-low : goal.returns-then-get-low
returns-then-get-low c = λ h p. none_above c.args.past.now h p c.args.key.now c.args.low c.args.high c.in-Some.version.now c.in-Some.ensures.latest (omega (arith, c.get.ensures.value))

pub returns : goal.returns
returns c = λ h p. one_comes c.args.past.now h p c.args.key.now c.args.low c.args.high c.in-Some.version.now c.in-Some.ensures.latest (omega (arith, c.get.ensures.value))
