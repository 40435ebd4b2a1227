use Rattle.std.proofs.Common.{map, take, refl}
use Rattle.log_context.specs.Histories.{history_of}
use Rattle.history_model.proofs.Members.{all_at}
use Rattle.serial_machine.proofs.Running.{run_begins, run_more, run_stops, run_all, row_in}
use Rattle.serial_machine.specs.Ordered.{row_step}
use Rattle.serial_machine.specs.Stepping.{IsOfHistory}
use Rattle.serial_machine.specs.declared.rows.Row.{Row}
use Rattle.serial_machine.proofs.steps.run.Goals as goal

pub loop-row-init : goal.loop-row-init
loop-row-init c = run_begins (history_of c.args.context.now) c.args.machine c.args.rows.now c.requires.made

pub step_verdict-requires-clause-known : goal.step_verdict-requires-clause-known
step_verdict-requires-clause-known c = all_at (λ (row : Row). IsOfHistory (history_of c.args.context.now) (row_step row)) c.args.rows.now c.row-item.result c.requires.known
    (row_in c.args.rows.now c.loop-row.row-index c.row-item.result c.loop-row-test.true c.row-item.is)

pub step_verdict-requires-clause-rooms : goal.step_verdict-requires-clause-rooms
step_verdict-requires-clause-rooms c = c.loop-row.invariant.made.rooms

pub step_verdict-requires-clause-uses : goal.step_verdict-requires-clause-uses
step_verdict-requires-clause-uses c = c.loop-row.invariant.made.uses

pub returns-in-Some-clause-some : goal.returns-in-Some-clause-some
returns-in-Some-clause-some c =
    let verdict = rw c.in-Some.is at c.in_ok-code.ensures (map row_step (take c.loop-row.row-index c.args.rows.now)) c.loop-row.invariant.made in
    run_stops c.args.rows.now c.loop-row.row-index c.row-item.result c.loop-row-test.true c.row-item.is (history_of c.args.context.now) c.loop-row.machine c.row-item.result.turn.line c.in-Some.code verdict refl c.loop-row.invariant

pub loop-row-preserved : goal.loop-row-preserved
loop-row-preserved c =
    let known = all_at (λ (row : Row). IsOfHistory (history_of c.args.context.now) (row_step row)) c.args.rows.now c.row-item.result c.requires.known
    (row_in c.args.rows.now c.loop-row.row-index c.row-item.result c.loop-row-test.true c.row-item.is) in
    let verdict = rw c.in_default.is at c.in_ok-code.ensures (map row_step (take c.loop-row.row-index c.args.rows.now)) c.loop-row.invariant.made in
    run_more c.args.rows.now c.loop-row.row-index c.row-item.result c.loop-row-test.true c.row-item.is (history_of c.args.context.now) c.loop-row.machine c.make.new.self verdict
    (λ made. c.make.ensures (history_of c.args.context.now) (map row_step (take c.loop-row.row-index c.args.rows.now)) known made) c.loop-row.invariant

pub returns-clause-none : goal.returns-clause-none
returns-clause-none c = run_all (history_of c.args.context.now) c.loop-row.machine c.args.rows.now c.loop-row.row-index c.loop-row-test.false c.loop-row.invariant
