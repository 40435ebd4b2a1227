use Rattle.std.proofs.Common.{◌-◌}
use Rattle.cluster_setup.proofs.BlamingFacts.{IsBetween}
use Rattle.cluster_setup.proofs.blaming.first_broken.Given as goal

abbrev pub invariant-halves : goal.invariant-halves
invariant-halves l = IsBetween l.given l.accepted l.first

abbrev pub decreases-halves : goal.decreases-halves
decreases-halves l = l.first.number - l.accepted
