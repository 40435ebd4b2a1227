use Rattle.std.proofs.Common.{◌≡◌, ◌+◌, Some, None, length, sym, ap, ◌∙◌}
use Rattle.label_select.specs.Readings.{selector_of}
use Rattle.label_select.proofs.Sound.{selector_sound}
use Rattle.label_select.proofs.Complete.{selector_complete, spelled_once}
use Rattle.label_select.proofs.reading.read_selector.Goals as goal

pub returns-in-Some-clause-spelled : goal.returns-in-Some-clause-spelled
returns-in-Some-clause-spelled c =
    let read : selector_of c.args.text.now ≡ Some c.in-Some.selector = ap selector_of (sym c.as_bytes.ensures.value) ∙ sym c.in_ok-selector.ensures ∙ c.in-Some.is in
    selector_sound (length c.args.text.now + 1) c.args.text.now c.in-Some.selector read

pub returns-in-Some-clause-only : goal.returns-in-Some-clause-only
returns-in-Some-clause-only c = λ other spelled.
    let read : selector_of c.args.text.now ≡ Some c.in-Some.selector = ap selector_of (sym c.as_bytes.ensures.value) ∙ sym c.in_ok-selector.ensures ∙ c.in-Some.is in
    spelled_once other c.in-Some.selector c.args.text.now spelled (selector_sound (length c.args.text.now + 1) c.args.text.now c.in-Some.selector read)

pub returns-in-None-clause-unspelled : goal.returns-in-None-clause-unspelled
returns-in-None-clause-unspelled c = λ is other spelled.
    let read : selector_of c.args.text.now ≡ None = ap selector_of (sym c.as_bytes.ensures.value) ∙ sym c.in_ok-selector.ensures ∙ c.in-None.is in
    let found = selector_complete other c.args.text.now spelled in
    absurd (cc)
