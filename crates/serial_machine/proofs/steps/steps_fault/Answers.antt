use Rattle.std.proofs.lemmas.Result.{IfOk-weaker}
use Rattle.log_context.specs.Histories.{history_of}
use Rattle.serial_machine.proofs.Running.{rows_known, forbidden_is, allowed_are, some_weaker, none_weaker}
use Rattle.serial_machine.proofs.steps.steps_fault.Goals as goal

pub run-requires-clause-made : goal.run-requires-clause-made
run-requires-clause-made c = c.in_ok-machine.ensures

pub run-requires-clause-known : goal.run-requires-clause-known
run-requires-clause-known c = rw c.deref.ensures.value (rows_known (history_of c.args.context.now) c.args.lines.now c.in_ok-rows.rows.items c.in_ok-rows.ensures)

pub returns-clause-some : goal.returns-clause-some
returns-clause-some c =
    let some = rw c.deref.ensures.value at c.run.ensures.some in
    IfOk-weaker c.run.result _ _ (λ found. some_weaker _ _ found (λ fault. forbidden_is (history_of c.args.context.now) c.args.lines.now c.in_ok-rows.rows.items c.in_ok-rows.ensures fault.0 fault.1)) some

pub returns-clause-none : goal.returns-clause-none
returns-clause-none c =
    let none = rw c.deref.ensures.value at c.run.ensures.none in
    IfOk-weaker c.run.result _ _ (λ found. none_weaker _ _ found (allowed_are (history_of c.args.context.now) c.args.lines.now c.in_ok-rows.rows.items c.in_ok-rows.ensures)) none
