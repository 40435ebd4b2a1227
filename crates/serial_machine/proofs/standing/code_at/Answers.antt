use Rattle.std.proofs.Common.{subst}
use Rattle.history_model.specs.Checking.{HasStandingCode}
use Rattle.serial_machine.proofs.Knowing.{item_event, same_item}
use Rattle.serial_machine.proofs.standing.code_at.Goals as goal
use Rattle.serial_machine.specs.Standing.{IsLeastCode}
use Rattle.log_context.specs.Histories.{history_of}
use Rattle.write_groups.specs.Modelled.{event_of}

pub returns : goal.returns
returns c = λ event there.
    let known = c.args.context.now in
    let h = history_of known in
    let item = c.index-log-number.result in
    let here = item_event known c.log.result.now c.log.ensures.log c.args.number c.requires item c.index-log-number.is in
    subst (λ e. IsLeastCode (HasStandingCode h c.args.number e) c.standing_code.result) (same_item known c.log.result.now c.log.ensures.log c.args.number c.requires item c.index-log-number.is event there)
    (c.standing_code.ensures h c.args.number (c.word_at.ensures (event_of item) here))
