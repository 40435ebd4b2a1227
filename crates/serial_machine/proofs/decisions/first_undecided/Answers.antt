use Rattle.std.proofs.Common.{◌<◌, ◌≤◌, ◌∙◌, length, arith, refl, subst, sym, true≢false}
use Rattle.std.proofs.lemmas.List.{length-map}
use Rattle.history_model.specs.Checking.{IsUndecidedAt, IsLeastLine}
use Rattle.serial_machine.proofs.Firsts.{first_undecided_is, none_undecided, one_more}
use Rattle.serial_machine.proofs.Numbering.{some_event}
use Rattle.serial_machine.proofs.decisions.first_undecided.Goals as goal
use Rattle.serial_machine.specs.Places.{IsUndecided}
use Rattle.log_context.specs.Histories.{history_of}
use Rattle.write_groups.specs.Modelled.{event_of}

pub loop-number-init : goal.loop-number-init
loop-number-init c = λ k event l. absurd (omega (arith, l))

pub loop-number-preserved : goal.loop-number-preserved
loop-number-preserved c =
    let h = history_of c.args.context.now in
    one_more h (IsUndecided h c.args.lines.now) c.loop-number.number c.loop-number.invariant (λ event here holds. true≢false (sym ((c.is_undecided.ensures event here).1 holds) ∙ c.if-is_undecided.false))

pub returns-then-is_undecided-clause-some : goal.returns-then-is_undecided-clause-some
returns-then-is_undecided-clause-some c =
    let known = c.args.context.now in
    let h = history_of known in
    let n = c.loop-number.number in
    let below : n < length known.log = omega (arith, c.loop-number-test.true, c.event_count-number-end.ensures.count) in
    let e = some_event h known.log refl n below in
    subst (IsLeastLine (IsUndecidedAt h c.args.lines.now)) (sym (c.line_of.ensures e.0 e.1))
    (first_undecided_is h c.event_count-number-end.ensures.readable c.args.lines.now n e.0 e.1 ((c.is_undecided.ensures e.0 e.1).0 c.if-is_undecided.true) c.loop-number.invariant)

pub returns-clause-none : goal.returns-clause-none
returns-clause-none c =
    let h = history_of c.args.context.now in
    let all : length h.events ≤ c.loop-number.number = omega (arith, c.loop-number-test.false, c.event_count-number-end.ensures.count, length-map c.args.context.now.log event_of) in
    none_undecided h c.event_count-number-end.ensures.readable c.args.lines.now c.loop-number.number all c.loop-number.invariant
