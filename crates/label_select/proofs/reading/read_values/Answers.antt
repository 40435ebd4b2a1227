use Rattle.std.proofs.Common.{◌≡◌, Some, None, false, codes, sym, ◌∙◌}
use Rattle.label_select.specs.Bytes.{behind, after}
use Rattle.label_select.specs.Readings.{is_empty}
use Rattle.label_select.specs.declared.bytes.Class.TheVariants.{Space}
use Rattle.label_select.proofs.Fronts.{filled_from}
use Rattle.label_select.proofs.Steps.{values_preserved, value_shorter}
use Rattle.label_select.proofs.reading.read_values.Goals as goal

pub loop-values-smaller : goal.loop-values-smaller
loop-values-smaller c =
    let at : after (codes ",") (behind Space c.in_ok-value.more.now) ≡ Some c.in-Some-after.next.now = rw c.behind-end.ensures at (sym c.in-Some-after.ensures) in
    value_shorter c.loop-values.rest.now c.in_ok-value.value c.in_ok-value.more.now c.in-Some-after.next.now (sym c.in_ok-value.ensures) at

pub loop-values-preserved : goal.loop-values-preserved
loop-values-preserved c =
    let found = c.loop-values.invariant in
    let filled : is_empty c.in_ok-value.value ≡ false = filled_from c.in_ok-value.value (λ e. let empty = c.is_empty.ensures.1 e in absurd (cc)) in
    let close : after (codes ")") (behind Space c.in_ok-value.more.now) ≡ None = rw c.behind-end.ensures at (sym c.in_default.ensures) in
    let at : after (codes ",") (behind Space c.in_ok-value.more.now) ≡ Some c.in-Some-after.next.now = rw c.behind-end.ensures at (sym c.in-Some-after.ensures) in
    let step = values_preserved found.0 c.loop-values.rest.now c.in_ok-value.value c.in_ok-value.more.now c.in-Some-after.next.now c.loop-values.values found.1 (sym c.in_ok-value.ensures) filled close at in
    rw c.in_ok-push.ensures.ok (step.0, step.1, found.2 ∙ step.2)
