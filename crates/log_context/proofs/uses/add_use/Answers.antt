use Rattle.std.proofs.Common.{Some, sym, subst, ◌∙◌}
use Rattle.std.specs.BTreeMap.{Updates}
use Rattle.std.proofs.lemmas.Result.{IfOk-weaker}
use Rattle.clouds.specs.Kept.{text_order}
use Rattle.log_context.proofs.Using.{uses_more, uses_same}
use Rattle.log_context.proofs.uses.add_use.Goals as goal

pub returns-then-is_used : goal.returns-then-is_used
returns-then-is_used c = λ versions are. uses_same versions c.args.version.now c.args.uses.now are (sym c.is_used.ensures ∙ c.if-is_used.true)

pub returns : goal.returns
returns c = IfOk-weaker c.put_use.result _ _
    (λ done updates versions are. uses_more versions c.args.version.now c.args.uses.now are c.put_use.new.uses (sym c.is_used.ensures ∙ c.if-is_used.false)
    (subst (λ revision. Updates text_order c.args.uses.now c.put_use.new.uses c.args.version.now.uid (Some revision)) c.get.ensures.value updates)) c.put_use.ensures
