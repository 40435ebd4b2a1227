use Rattle.cluster_setup.proofs.BlamingFacts.{all_fewer}
use Rattle.cluster_setup.proofs.blaming.rule_broken.Goals as goal

pub returns-in-Ok-clause-accepted : goal.returns-in-Ok-clause-accepted
returns-in-Ok-clause-accepted c = all_fewer c.args.given c.args.number c.requires.policy c.requires.trees c.in-Ok.ensures.text.accepted
