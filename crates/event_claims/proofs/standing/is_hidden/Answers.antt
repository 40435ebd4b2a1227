use Rattle.std.proofs.Common.{◌≡◌, ◌↔◌, ◌∙◌, IsTrue, ap, sym, subst}
use Rattle.history_model.specs.Clouds.{IsCloudedWithin}
use Rattle.write_groups.specs.Modelled.{answer_of}
use Rattle.event_claims.proofs.standing.is_hidden.Goals as goal

pub returns-in-Made : goal.returns-in-Made
returns-in-Made c = λ h item created clouds is.
    let made = sym (ap answer_of c.in-Made.is) ∙ is in
    let same : c.in-Made.item.key ≡ item.key = cc made in
    subst (λ key. IsTrue c.is_clouded_within.result ↔ IsCloudedWithin h key c.args.window.low c.args.window.high) same (c.is_clouded_within.ensures h clouds)
