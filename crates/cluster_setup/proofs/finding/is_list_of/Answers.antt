use Rattle.std.proofs.Common.{sym, ◌∙◌, codes}
use Rattle.base_types.proofs.MatchingLemmas.{begins_from_strip}
use Rattle.cluster_setup.proofs.ListKinds.{told_by_rest, begins_otherwise}
use Rattle.cluster_setup.proofs.finding.is_list_of.Goals as goal

pub returns-in-Some : goal.returns-in-Some
returns-in-Some c =
    let begins = begins_from_strip c.args.kind.now c.args.list_kind.now c.in-Some.rest.now c.in-Some.ensures.cases in
    c.eq.ensures ∙ told_by_rest c.args.kind.now c.in-Some.rest.now (codes "List") c.args.list_kind.now begins

pub returns-in-None : goal.returns-in-None
returns-in-None c = sym (begins_otherwise c.args.kind.now (codes "List") c.args.list_kind.now c.in-None.ensures.cases)
