use Rattle.std.proofs.Common.{codes}
use Rattle.request_attrs.proofs.QueryLemmas.{strip_text, second_form}
use Rattle.request_attrs.proofs.query.term_name.Goals as goal

pub returns : goal.returns
returns c =
    let first = strip_text (codes "metadata.name==") c.args.term.now c.strip_prefix.result c.strip_prefix.ensures.cases in
    let second = strip_text (codes "metadata.name=") c.args.term.now c.strip_prefix-2.result c.strip_prefix-2.ensures.cases in
    second_form c.args.term.now _ (rw c.in_default.is at first) second
