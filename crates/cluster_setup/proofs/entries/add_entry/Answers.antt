use Rattle.std.proofs.Common.{◌∙◌}
use Rattle.cluster_setup.specs.Found.{found_for}
use Rattle.cluster_setup.proofs.Added.{entry_added}
use Rattle.cluster_setup.proofs.entries.add_entry.Goals as goal

pub returns : goal.returns
returns c =
    let f = c.in-Some.found in
    c.in_ok-push.ensures.items
    ∙ entry_added c.args.entries.now.items c.args.list.now f.document.now f.entry.now c.in_ok-entry.entry c.word.result.now c.form_for.result (found_for c.args.sources.now c.args.list.now)
    c.in_ok-entry.ensures c.word.ensures c.form_for.ensures c.in-Some.ensures
