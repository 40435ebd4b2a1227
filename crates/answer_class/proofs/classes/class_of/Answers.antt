use Rattle.std.proofs.Common.{◌≡◌, rules}
use Rattle.std.proofs.lemmas.Result.{IfOk-weaker}
use Rattle.answer_class.specs.Classes.{class_of}
use Rattle.answer_class.specs.Table.{by_table}
use Rattle.answer_class.specs.declared.answer.Answer.TheVariants.{Aside}
use Rattle.answer_class.proofs.Tabled.{tabled_from}
use Rattle.answer_class.proofs.classes.class_of.Goals as goal

pub returns-in_default-clause-table : goal.returns-in_default-clause-table
returns-in_default-clause-table c = tabled_from c.args.setup.now c.args.event.now Aside (search rules)

pub returns-then-is_completing-clause-table : goal.returns-then-is_completing-clause-table
returns-then-is_completing-clause-table c =
    let setup = c.args.setup.now in
    let event = c.args.event.now in
    IfOk-weaker c.tracked_class.result (λ answer. answer ≡ class_of setup event) (λ answer. answer ≡ by_table setup event) (tabled_from setup event) (search rules)

pub returns-clause-table : goal.returns-clause-table
returns-clause-table c = tabled_from c.args.setup.now c.args.event.now Aside (search rules)
