use Rattle.std.proofs.Common.{sym, ◌∙◌, inl, inr}
use Rattle.rbac_rules.proofs.Texts.{has_text-Decides}
use Rattle.rbac_rules.proofs.granting.takes_name.Goals as goal

pub returns-else-is_empty : goal.returns-else-is_empty
returns-else-is_empty c =
    let told = has_text-Decides c.args.names.now c.args.name.now in (
      λ is. inr (told.0 (sym c.has_text.ensures ∙ is)),
      λ taken. elim taken [
        | inl none ↦ absurd (let empty = c.is_empty.ensures.1 none in cc)
        | inr among ↦ c.has_text.ensures ∙ told.1 among
      ],
    )
