use Rattle.log_context.specs.Histories.{history_of}
use Rattle.log_verdict.proofs.OutcomePlacing.{ArePlacedUpTo}
use Rattle.log_verdict.proofs.outcome.placed.Given as goal

abbrev pub invariant-loop-line : goal.invariant-loop-line
invariant-loop-line g l = ArePlacedUpTo (history_of l.context) l.choice l.line-index l.lines
