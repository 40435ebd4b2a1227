use Rattle.context_claims.proofs.Giving.{least_given, none_given}
use Rattle.context_claims.specs.Judging.{gives}
use Rattle.context_claims.proofs.judge.ContextJudgeDecisions.find.Goals as goal

pub returns-clause-some : goal.returns-clause-some
returns-clause-some c = least_given (gives c.args.self.now c.args.event) c.args.low c.args.high c.find_decision.result c.find_decision.ensures.some

pub returns-clause-none : goal.returns-clause-none
returns-clause-none c = none_given (gives c.args.self.now c.args.event) c.args.low c.args.high c.find_decision.result c.find_decision.ensures.none
