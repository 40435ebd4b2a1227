use Rattle.std.proofs.Common.{◌≡◌, subst}
use Rattle.cluster_setup.specs.Making.{is_served}
use Rattle.cluster_setup.proofs.DocumentFacts.{served_by}
use Rattle.cluster_setup.proofs.documents.Document.is_served.Goals as goal

pub returns : goal.returns
returns c =
    subst (λ document. c.contains.result ≡ is_served document c.args.resource.now c.args.name.now) c.self.view_is
    (served_by c.self.inside.names c.self.inside.tree.now c.args.resource.now c.args.name.now c.in_ok-combined.combined c.contains.result
    c.self.invariant c.in_ok-combined.ensures c.contains.ensures)
