use Rattle.std.proofs.Common.{◌++◌, ap, ◌∙◌, string_bytes}
use Rattle.case_maker.proofs.Padding.{both_digits}
use Rattle.case_maker.proofs.event.append_two_digits.Goals as goal

pub returns : goal.returns
returns c = c.in_ok-write.ensures.bytes ∙ ap (λ l. string_bytes c.args.log.now ++ l) (both_digits c.args.number c.requires)
