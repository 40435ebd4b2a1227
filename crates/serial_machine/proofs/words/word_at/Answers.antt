use Rattle.std.proofs.Common.{subst}
use Rattle.history_model.specs.Words.{word}
use Rattle.serial_machine.proofs.Knowing.{has_past, same_item}
use Rattle.serial_machine.proofs.words.word_at.Goals as goal
use Rattle.serial_machine.specs.Words.{SaysWord}
use Rattle.log_context.specs.Histories.{history_of}

pub returns : goal.returns
returns c = λ event there.
    let known = c.args.context.now in
    let h = history_of known in
    subst (λ e. SaysWord (word h c.args.number e) c.word_of.result) (same_item known c.log.result.now c.log.ensures.log c.args.number c.requires c.index-log-number.result c.index-log-number.is event there)
    (c.word_of.ensures h (cc (c.setup.ensures.setup)) (has_past known c.past.result.now c.past.ensures.versions c.past.ensures.removals))
