use Rattle.std.proofs.Common.{sym, subst}
use Rattle.base_types.specs.Values.{InRange}
use Rattle.cluster_setup.specs.Answers.{Breaks}
use Rattle.cluster_setup.proofs.Ranges.{setup_in_range}
use Rattle.cluster_setup.proofs.Same.{shown_text}
use Rattle.cluster_setup.proofs.judging.accept_shown.Goals as goal

pub accept-accepted-requires : goal.accept-accepted-requires
accept-accepted-requires c =
    let g = c.args.given in
    subst InRange (sym c.in_ok-tree.ensures)
    (setup_in_range g.revision.now g.time.now g.policy.now g.trees.now c.args.shown.now g.authorize c.requires.policy c.requires.trees c.requires.shown)

pub returns-clause-text : goal.returns-clause-text
returns-clause-text c = shown_text c.accept-accepted.result _ _ c.in_ok-tree.ensures c.accept-accepted.ensures.text c.accept-accepted.ensures.accepted

pub returns-clause-broken : goal.returns-clause-broken
returns-clause-broken c = λ rule e. subst (λ tree. Breaks tree rule) c.in_ok-tree.ensures (c.accept-accepted.ensures.broken rule e)
