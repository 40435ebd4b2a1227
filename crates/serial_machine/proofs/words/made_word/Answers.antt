use Rattle.std.proofs.Common.{None, Some, arith, subst, sym}
use Rattle.serial_machine.proofs.Wording.{early_write, late_write}
use Rattle.serial_machine.proofs.words.made_word.Goals as goal
use Rattle.serial_machine.specs.Words.{SaysWord}
use Rattle.write_groups.specs.Modelled.{item_of}

pub returns-then-revision-get : goal.returns-then-revision-get
returns-then-revision-get c = λ h event created s p. early_write c.args.past.now h p c.args.start s c.args.number event (item_of c.args.item.now) created c.get-revision.result c.get-revision.ensures.value
    (omega (arith, c.if-revision-get.true, c.get.ensures.value))

pub returns-in-Some : goal.returns-in-Some
returns-in-Some c = λ h event created s p. subst (λ w. SaysWord w c.version_word.result)
    (sym (late_write c.args.past.now h p c.args.start s c.args.number event (item_of c.args.item.now) created c.get-revision.result c.get-revision.ensures.value
    (omega (arith, c.if-revision-get.false, c.get.ensures.value)) (Some c.in-Some.version.now) c.in-Some.ensures))
    (c.version_word.ensures event created)

pub returns-in-None : goal.returns-in-None
returns-in-None c = λ h event created s p. late_write c.args.past.now h p c.args.start s c.args.number event (item_of c.args.item.now) created c.get-revision.result c.get-revision.ensures.value
    (omega (arith, c.if-revision-get.false, c.get.ensures.value)) None c.in-None.ensures
