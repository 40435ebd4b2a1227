use Rattle.std.proofs.Common.{sym, ◌∙◌}
use Rattle.rbac_rules.proofs.Texts.{has_text-Decides}
use Rattle.rbac_timeline.proofs.timeline.finding.is_among.Goals as goal

pub returns : goal.returns
returns c =
    let told = has_text-Decides c.args.texts.now c.args.text.now in
    ((λ is. told.0 (sym c.has_text.ensures ∙ is)), (λ among. c.has_text.ensures ∙ told.1 among))
