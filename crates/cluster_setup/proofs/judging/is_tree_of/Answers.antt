use Rattle.std.proofs.lemmas.Bool.{false≢true}
use Rattle.cluster_setup.proofs.judging.is_tree_of.Goals as goal

pub returns-in-None : goal.returns-in-None
returns-in-None c =
    let none = rw c.in-None.is at c.in_ok-found.ensures.none in
    (λ e. absurd (false≢true e), λ own. absurd (none c.args.tree.now own))
