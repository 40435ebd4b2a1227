use Rattle.cluster_setup.proofs.making.policy_of.Goals as goal

pub returns-in_default-clause-none : goal.returns-in_default-clause-none
returns-in_default-clause-none c =
    let none = rw c.in_default.is at c.in_ok-tree.ensures.none in
    λ other is. none other is.0
