use Rattle.std.proofs.Common.{◌≡◌, ◌<◌, ◌≤◌, length, arith, refl, subst, sym}
use Rattle.std.specs.Prelude.{IfNone}
use Rattle.std.proofs.lemmas.List.{length-map}
use Rattle.history_model.specs.Checking.{DiffersAt, NoLine}
use Rattle.serial_machine.proofs.Differing.{further_is, no_further, unlike_is}
use Rattle.serial_machine.proofs.Numbering.{some_event}
use Rattle.serial_machine.proofs.lines.first_difference.Goals as goal
use Rattle.log_context.specs.Histories.{history_of}
use Rattle.write_groups.specs.Modelled.{event_of}

pub returns-in-Some-clause-some : goal.returns-in-Some-clause-some
returns-in-Some-clause-some c =
    let known = c.args.context.now in
    let h = history_of known in
    let n = c.loop-number.number in
    let below : n < length known.log = omega (arith, c.loop-number-test.true, c.event_count-count.ensures.count) in
    let within : n ≤ length h.events = omega (arith, below, length-map known.log event_of) in
    let e = some_event h known.log refl n below in
    unlike_is h c.event_count-count.ensures.readable c.args.lines.now c.requires n within c.loop-number.invariant e.0 c.in-Some.at e.1 (c.in-Some.ensures.some e.0 e.1)

pub returns-in_err-further-clause-none : goal.returns-in_err-further-clause-none
returns-in_err-further-clause-none c =
    let known = c.args.context.now in
    let h = history_of known in
    let n = c.event_count-count.result in
    let all : n ≡ length h.events = omega (arith, c.event_count-count.ensures.count, length-map known.log event_of) in
    subst (λ o. IfNone o (NoLine (DiffersAt h c.args.lines.now))) (sym c.from_residual.ensures)
    (no_further h c.event_count-count.ensures.readable c.args.lines.now c.requires n all (λ k event l. c.loop-number.invariant k event (omega (arith, l, c.loop-number-test.false))) (sym c.in_err-further.ensures))

pub returns-clause-some : goal.returns-clause-some
returns-clause-some c =
    let known = c.args.context.now in
    let h = history_of known in
    let n = c.event_count-count.result in
    let all : n ≡ length h.events = omega (arith, c.event_count-count.ensures.count, length-map known.log event_of) in
    further_is h c.event_count-count.ensures.readable c.args.lines.now c.requires n all (λ k event l. c.loop-number.invariant k event (omega (arith, l, c.loop-number-test.false)))
    c.in_ok-further.further.now (sym c.in_ok-further.ensures)
