use Rattle.std.proofs.Common.{ap, sym, ◌∙◌}
use Rattle.request_bodies.specs.Patched.{untyped}
use Rattle.request_bodies.proofs.MergedLemmas.{merged-typed}
use Rattle.request_bodies.proofs.patched.merged.Goals as goal

pub returns : goal.returns
returns c = λ tracked. c.untyped.ensures ∙ ap untyped c.in_ok-merge.ensures ∙ sym (merged-typed tracked c.args.old.now c.args.body.now c.order_law.ensures)
