use Rattle.std.proofs.Common.{◌<◌, ◌≤◌, ◌∙◌, length, arith, refl, subst, sym, true≢false}
use Rattle.std.proofs.lemmas.List.{length-map}
use Rattle.history_model.specs.Checking.{IsMisplacedAt, IsLeastLine}
use Rattle.serial_machine.proofs.Firsts.{first_misplaced_is, none_misplaced, one_more}
use Rattle.serial_machine.proofs.Numbering.{some_event}
use Rattle.serial_machine.proofs.places.first_misplaced.Goals as goal
use Rattle.serial_machine.specs.Places.{IsMisplaced}
use Rattle.log_context.specs.Histories.{history_of}
use Rattle.write_groups.specs.Modelled.{event_of}

pub loop-number-init : goal.loop-number-init
loop-number-init c = λ k event l. absurd (omega (arith, l))

pub loop-number-preserved : goal.loop-number-preserved
loop-number-preserved c =
    let h = history_of c.args.context.now in
    one_more h (IsMisplaced h c.args.lines.now) c.loop-number.number c.loop-number.invariant (λ event here holds. true≢false (sym ((c.is_misplaced.ensures event here).1 holds) ∙ c.if-is_misplaced.false))

pub returns-then-is_misplaced-clause-some : goal.returns-then-is_misplaced-clause-some
returns-then-is_misplaced-clause-some c =
    let known = c.args.context.now in
    let h = history_of known in
    let n = c.loop-number.number in
    let below : n < length known.log = omega (arith, c.loop-number-test.true, c.event_count-number-end.ensures.count) in
    let e = some_event h known.log refl n below in
    subst (IsLeastLine (IsMisplacedAt h c.args.lines.now)) (sym (c.line_of.ensures e.0 e.1))
    (first_misplaced_is h c.event_count-number-end.ensures.readable c.args.lines.now n e.0 e.1 ((c.is_misplaced.ensures e.0 e.1).0 c.if-is_misplaced.true) c.loop-number.invariant)

pub returns-clause-none : goal.returns-clause-none
returns-clause-none c =
    let h = history_of c.args.context.now in
    let all : length h.events ≤ c.loop-number.number = omega (arith, c.loop-number-test.false, c.event_count-number-end.ensures.count, length-map c.args.context.now.log event_of) in
    none_misplaced h c.event_count-number-end.ensures.readable c.args.lines.now c.loop-number.number all c.loop-number.invariant
