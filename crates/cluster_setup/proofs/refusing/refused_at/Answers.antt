use Rattle.cluster_setup.proofs.ListedFacts.{refused_told}
use Rattle.cluster_setup.proofs.refusing.refused_at.Goals as goal

pub returns : goal.returns
returns c = λ tree there. refused_told c.args.trees.now c.args.at c.index-trees-at.result tree c.args.code c.refined-code.result c.requires c.index-trees-at.is c.refined-code.ensures there
