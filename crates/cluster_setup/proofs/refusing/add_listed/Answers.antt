use Rattle.std.proofs.Common.{sym, ap, ◌∙◌}
use Rattle.cluster_setup.specs.Files.{group_of}
use Rattle.cluster_setup.proofs.ListedFacts.{again_told, one_listed}
use Rattle.cluster_setup.proofs.refusing.add_listed.Goals as goal

pub returns-clause-again : goal.returns-clause-again
returns-clause-again c = λ later held.
    again_told c.args.behind.now (c.group_of.result, c.word-2.result) c.in_ok-added.added c.args.tree.now later
    (sym c.is_listing.ensures ∙ c.if-not-is_listing.false) (c.group_of.ensures ∙ ap group_of c.word.ensures) c.word-2.ensures c.in_ok-added.ensures.added held

pub returns-clause-listed : goal.returns-clause-listed
returns-clause-listed c = λ later held.
    one_listed c.args.behind.now c.insert.new.self (c.group_of.result, c.word-2.result) c.args.tree.now later
    (sym c.is_listing.ensures ∙ c.if-not-is_listing.false) (c.group_of.ensures ∙ ap group_of c.word.ensures) c.word-2.ensures c.in_ok-added.ensures.updates held
