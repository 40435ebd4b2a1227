use Rattle.std.proofs.Common.{◌++◌, ap, string_bytes, sym, ◌∙◌}
use Rattle.finding_picture.specs.Hiding.{hiding_section, hiding_text}
use Rattle.finding_picture.specs.Objects.{key_on}
use Rattle.finding_picture.proofs.hiding.push_hiding.Goals as goal

pub returns-in_ok-push_all-in-None : goal.returns-in_ok-push_all-in-None
unfolding hiding_section
returns-in_ok-push_all-in-None c =
    let none = sym (ap (λ log. key_on log c.args.line) c.log.ensures.log) ∙ sym c.in-None.ensures in
    c.in_ok-push_all-in-None.ensures ∙ ap (λ key. string_bytes c.args.text.now ++ hiding_text c.args.context.now key) (sym none)
