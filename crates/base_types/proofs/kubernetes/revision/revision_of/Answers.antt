use Rattle.std.proofs.Common.{sym, ◌∙◌}
use Rattle.base_types.proofs.Spelling.{some_is}
use Rattle.base_types.proofs.kubernetes.revision.revision_of.Goals as goal

pub returns : goal.returns
returns c =
    let range = rw c.get-number.ensures.value at c.get-number.ensures.range in
    some_is c.args.text.now c.in_ok-revision.revision range (sym c.as_bytes.ensures.value ∙ c.in_ok-revision.ensures.some)
