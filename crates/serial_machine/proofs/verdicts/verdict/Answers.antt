use Rattle.std.proofs.Common.{sym, subst}
use Rattle.std.specs.Prelude.{IfOk}
use Rattle.log_context.specs.Histories.{history_of}
use Rattle.serial_machine.specs.Stepping.{IsOfHistory, IsVerdictOn, scene_objects, step_of}
use Rattle.serial_machine.proofs.verdicts.verdict.Goals as goal

pub put_verdict-requires-clause-known : goal.put_verdict-requires-clause-known
put_verdict-requires-clause-known c = subst (λ s. IsOfHistory (history_of c.args.scene.context.now) (step_of s)) c.in-Put.is c.requires.known

pub returns-in-Put : goal.returns-in-Put
returns-in-Put c = subst (λ s. IfOk c.put_verdict.result (IsVerdictOn (history_of c.args.scene.context.now) (scene_objects c.args.scene) (step_of s))) (sym c.in-Put.is) c.put_verdict.ensures

pub returns-in-Remove : goal.returns-in-Remove
returns-in-Remove c = subst (λ s. IsVerdictOn (history_of c.args.scene.context.now) (scene_objects c.args.scene) (step_of s) c.remove_verdict.result) (sym c.in-Remove.is) (c.remove_verdict.ensures c.in-Remove.place)

pub reply_verdict-requires-clause-known : goal.reply_verdict-requires-clause-known
reply_verdict-requires-clause-known c = (subst (λ s. IsOfHistory (history_of c.args.scene.context.now) (step_of s)) c.in-Reply.is c.requires.known).0

pub reply_verdict-requires-clause-placed : goal.reply_verdict-requires-clause-placed
reply_verdict-requires-clause-placed c = (subst (λ s. IsOfHistory (history_of c.args.scene.context.now) (step_of s)) c.in-Reply.is c.requires.known).1

pub returns-in-Reply : goal.returns-in-Reply
returns-in-Reply c = subst (λ s. IfOk c.reply_verdict.result (IsVerdictOn (history_of c.args.scene.context.now) (scene_objects c.args.scene) (step_of s))) (sym c.in-Reply.is) c.reply_verdict.ensures
