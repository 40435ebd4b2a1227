use Rattle.std.proofs.Common.{rules, sym, ◌∙◌}
use Rattle.setup_file.proofs.Fitting.{list_fits}
use Rattle.setup_file.proofs.checkpoints.read_checkpoint.Goals as goal

pub returns : goal.returns
returns c =
    let fits = list_fits c.args.start c.in-Some-2.tracked.now c.in-Some-text_at-2.namespace.now c.in-Some-member.member c.in-Some-3.list (sym c.in_ok-list.ensures ∙ c.in-Some-3.is) in
    let read = fits.0 in
    let fit = fits.1 in
    search (rules, read, fit)
