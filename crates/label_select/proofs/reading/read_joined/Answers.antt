use Rattle.std.proofs.Common.{◌≡◌, ◌+◌, true, false, length, Some, None, codes, sym, ◌∙◌, arith}
use Rattle.label_select.specs.Bytes.{behind, after}
use Rattle.label_select.specs.Readings.{is_empty, requirement_at, selector_of}
use Rattle.label_select.specs.declared.bytes.Class.TheVariants.{Space}
use Rattle.label_select.proofs.Steps.{joined_none, selector_last, selector_broken, selector_preserved, requirement_shorter}
use Rattle.label_select.proofs.reading.read_joined.Goals as goal

pub loop-selector-init : goal.loop-selector-init
loop-selector-init c = rw c.new-selector.ensures (length c.args.bytes.now + 1, omega arith, joined_none (selector_of c.args.bytes.now))

pub returns-then-is_empty : goal.returns-then-is_empty
returns-then-is_empty c =
    let found = c.loop-selector.invariant in
    let read : requirement_at c.loop-selector.rest.now ≡ Some (c.in-Some.requirement, c.in-Some.left.now) = sym (rw c.in-Some.is at c.in_ok-requirement.ensures) in
    let empty : is_empty c.in-Some.left.now ≡ true = sym c.is_empty.ensures ∙ c.if-is_empty.true in
    rw c.in_ok-push.ensures.ok (sym (found.2 ∙ selector_last found.0 c.loop-selector.rest.now c.in-Some.requirement c.in-Some.left.now c.loop-selector.selector found.1 read empty))

pub returns-in_default-after : goal.returns-in_default-after
returns-in_default-after c =
    let found = c.loop-selector.invariant in
    let read : requirement_at c.loop-selector.rest.now ≡ Some (c.in-Some.requirement, c.in-Some.left.now) = sym (rw c.in-Some.is at c.in_ok-requirement.ensures) in
    let filled : is_empty c.in-Some.left.now ≡ false = sym c.is_empty.ensures ∙ c.if-is_empty.false in
    let comma : after (codes ",") (behind Space c.in-Some.left.now) ≡ None = rw c.behind.ensures at (sym c.in_default-after.ensures) in
    sym (found.2 ∙ selector_broken found.0 c.loop-selector.rest.now c.in-Some.requirement c.in-Some.left.now c.loop-selector.selector found.1 read filled comma)

pub loop-selector-smaller : goal.loop-selector-smaller
loop-selector-smaller c =
    let read : requirement_at c.loop-selector.rest.now ≡ Some (c.in-Some.requirement, c.in-Some.left.now) = sym (rw c.in-Some.is at c.in_ok-requirement.ensures) in
    let comma : after (codes ",") (behind Space c.in-Some.left.now) ≡ Some c.in-Some-after.next.now = rw c.behind.ensures at (sym c.in-Some-after.ensures) in
    rw c.behind-rest.ensures (requirement_shorter c.loop-selector.rest.now c.in-Some.requirement c.in-Some.left.now c.in-Some-after.next.now read comma)

pub loop-selector-preserved : goal.loop-selector-preserved
loop-selector-preserved c =
    let found = c.loop-selector.invariant in
    let read : requirement_at c.loop-selector.rest.now ≡ Some (c.in-Some.requirement, c.in-Some.left.now) = sym (rw c.in-Some.is at c.in_ok-requirement.ensures) in
    let filled : is_empty c.in-Some.left.now ≡ false = sym c.is_empty.ensures ∙ c.if-is_empty.false in
    let comma : after (codes ",") (behind Space c.in-Some.left.now) ≡ Some c.in-Some-after.next.now = rw c.behind.ensures at (sym c.in-Some-after.ensures) in
    let step = selector_preserved found.0 c.loop-selector.rest.now c.in-Some.requirement c.in-Some.left.now c.in-Some-after.next.now c.loop-selector.selector found.1 read filled comma in
    rw (c.in_ok-push.ensures.ok, c.behind-rest.ensures) (step.0, step.1, found.2 ∙ step.2)
