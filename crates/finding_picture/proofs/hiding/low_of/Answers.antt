use Rattle.std.proofs.Common.{ap, sym, ◌∙◌}
use Rattle.finding_picture.proofs.Timing.{has_times}
use Rattle.finding_picture.proofs.hiding.low_of.Goals as goal

pub window_of-requires : goal.window_of-requires
window_of-requires c = ap (λ s. s.start) c.setup.ensures.setup ∙ sym c.windows.ensures.start

pub returns : goal.returns
returns c = c.window_of.ensures.low _ (has_times c.args.context.now c.windows.result.now c.windows.ensures.start c.windows.ensures.spans)
