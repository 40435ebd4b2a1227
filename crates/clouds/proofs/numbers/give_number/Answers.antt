use Rattle.std.proofs.Common.{◌≡◌, Some, subst, ◌∙◌}
use Rattle.clouds.specs.Wide.{number_of}
use Rattle.clouds.proofs.Numbering.{Extends-give}
use Rattle.clouds.proofs.numbers.give_number.Goals as goal

pub returns-clause-kept : goal.returns-clause-kept
returns-clause-kept c =
    Extends-give c.args.numbers.now c.insert.new.self c.in_ok-from_slice.field-0 c.len-number.result
    (λ other was. c.in_default.not-Some other (c.number_at.ensures ∙ subst (λ text. number_of c.args.numbers.now text ≡ Some other) c.in_ok-from_slice.ensures.items was))
    c.in_ok-_none.ensures.updates
