use Rattle.std.proofs.Common.{sym, subst}
use Rattle.history_model.specs.Words.{answer_word}
use Rattle.serial_machine.proofs.words.word_of.Goals as goal
use Rattle.serial_machine.specs.Words.{SaysWord}
use Rattle.write_groups.specs.Modelled.{event_of, answer_of}

pub returns-in-Made : goal.returns-in-Made
returns-in-Made c = λ h s p. subst (λ a. SaysWord (answer_word h c.args.number (event_of c.args.event.now) (answer_of a)) c.made_word.result) (sym c.in-Made.is)
    (c.made_word.ensures h (event_of c.args.event.now) c.in-Made.created s p)

pub returns-in-Removed : goal.returns-in-Removed
returns-in-Removed c = λ h s p. subst (λ a. SaysWord (answer_word h c.args.number (event_of c.args.event.now) (answer_of a)) c.removed_word.result) (sym c.in-Removed.is)
    (c.removed_word.ensures h p)
