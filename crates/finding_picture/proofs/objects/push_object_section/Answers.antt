use Rattle.std.proofs.Common.{◌++◌, ap, string_bytes, sym, ◌∙◌}
use Rattle.finding_picture.specs.Objects.{key_on, object_section, object_text}
use Rattle.finding_picture.specs.Texts.{no_object}
use Rattle.finding_picture.proofs.objects.push_object_section.Goals as goal

pub returns-in_ok-push_str-in-None : goal.returns-in_ok-push_str-in-None
unfolding object_section object_text no_object
returns-in_ok-push_str-in-None c =
    let none = sym (ap (λ log. key_on log c.args.line) c.log.ensures.log) ∙ sym c.in-None.ensures in
    rw (c.in_ok-push_str-in-None.ensures.bytes) (ap (λ key. string_bytes c.args.text.now ++ object_text c.args.context.now key c.args.low) (sym none))
