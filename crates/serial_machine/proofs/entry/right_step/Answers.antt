use Rattle.std.proofs.Common.{refl}
use Rattle.log_context.specs.Histories.{history_of}
use Rattle.serial_machine.proofs.Entering.{event_there, nothing_left, step_known, step_wrong, step_right}
use Rattle.serial_machine.proofs.Telling.{untold}
use Rattle.serial_machine.specs.Made.{astray, strays}
use Rattle.serial_machine.specs.Stepping.{step_of}
use Rattle.serial_machine.proofs.entry.right_step.Goals as goal

pub returns-then-is_astray-clause-wrong : goal.returns-then-is_astray-clause-wrong
returns-then-is_astray-clause-wrong c = λ done made.
    let within = rw c.in-Some.is at c.event_of_line.ensures.within in
    let some = rw c.in-Some.is at c.event_of_line.ensures.some in
    let there = event_there c.args.context.now.log c.in-Some.number within in
    (refl, astray refl c.in-Some.number there.0 (some there.0 there.1) ((c.is_astray.ensures there.0 there.1).0 c.if-is_astray.true))

pub returns-then-strays-clause-wrong : goal.returns-then-strays-clause-wrong
returns-then-strays-clause-wrong c = λ done made.
    let within = rw c.in-Some.is at c.event_of_line.ensures.within in
    let some = rw c.in-Some.is at c.event_of_line.ensures.some in
    let there = event_there c.args.context.now.log c.in-Some.number within in
    (refl, strays refl c.in-Some.number there.0 (some there.0 there.1) (untold c.is_astray.result (c.is_astray.ensures there.0 there.1) c.if-is_astray.false) ((c.strays.ensures there.0 there.1).0 c.if-strays.true))

pub returns-in_default-step_at-clause-right : goal.returns-in_default-step_at-clause-right
returns-in_default-step_at-clause-right c = λ done made.
    let within = rw c.in-Some.is at c.event_of_line.ensures.within in
    let some = rw c.in-Some.is at c.event_of_line.ensures.some in
    let there = event_there c.args.context.now.log c.in-Some.number within in
    let none = rw c.in_default-step_at.is at c.step_at.ensures.none in (
      c.in-Some.number,
      there.0,
      some there.0 there.1,
      untold c.is_astray.result (c.is_astray.ensures there.0 there.1) c.if-is_astray.false,
      nothing_left (history_of c.args.context.now) c.in-Some.number there.0 c.answer_place.result made.readable there.1 (λ step as'. none there.0 step there.1 as')
          (untold c.strays.result (c.strays.ensures there.0 there.1) c.if-strays.false),
    )

pub verdict-requires-clause-known : goal.verdict-requires-clause-known
verdict-requires-clause-known c =
    let within = rw c.in-Some.is at c.event_of_line.ensures.within in
    let there = event_there c.args.context.now.log c.in-Some.number within in
    let as' = rw c.in-Some-step_at.is at c.step_at.ensures.some in
    step_known (history_of c.args.context.now) c.in-Some.number there.0 c.answer_place.result (step_of c.in-Some-step_at.step) there.1 (as' there.0 there.1)

pub returns-in-Some-2-clause-wrong : goal.returns-in-Some-2-clause-wrong
returns-in-Some-2-clause-wrong c = λ done made.
    let within = rw c.in-Some.is at c.event_of_line.ensures.within in
    let some = rw c.in-Some.is at c.event_of_line.ensures.some in
    let there = event_there c.args.context.now.log c.in-Some.number within in
    let as' = rw c.in-Some-step_at.is at c.step_at.ensures.some in
    let verdict = rw c.in-Some-2.is at c.in_ok-code.ensures in (
      refl,
      step_wrong (history_of c.args.context.now) done c.args.placed.now c.in-Some.number there.0 (some there.0 there.1) (untold c.is_astray.result (c.is_astray.ensures there.0 there.1) c.if-is_astray.false)
          c.answer_place.result c.answer_place.ensures (step_of c.in-Some-step_at.step) (as' there.0 there.1) c.args.machine.now c.place.result c.in-Some-2.code c.place.ensures made verdict,
    )

pub returns-clause-right : goal.returns-clause-right
returns-clause-right c = λ done made.
    let within = rw c.in-Some.is at c.event_of_line.ensures.within in
    let some = rw c.in-Some.is at c.event_of_line.ensures.some in
    let there = event_there c.args.context.now.log c.in-Some.number within in
    let as' = rw c.in-Some-step_at.is at c.step_at.ensures.some in
    let verdict = rw c.in_default-2.is at c.in_ok-code.ensures in
    step_right (history_of c.args.context.now) done c.args.placed.now c.in-Some.number there.0 (some there.0 there.1) (untold c.is_astray.result (c.is_astray.ensures there.0 there.1) c.if-is_astray.false)
    c.answer_place.result c.answer_place.ensures (step_of c.in-Some-step_at.step) (as' there.0 there.1) c.args.machine.now c.place.result c.place.ensures made verdict
