use Rattle.std.proofs.Common.{◌∙◌, sym}
use Rattle.object_past.specs.Modelled.{recorded}
use Rattle.log_context.specs.Histories.{history_of}
use Rattle.write_groups.specs.Modelled.{event_of}
use Rattle.serial_machine.proofs.Telling.{no_uid, no_revision, uid_told, untold}
use Rattle.serial_machine.proofs.verdicts.meets_preconditions.Goals as goal

pub returns-then-not-is_wanted_uid : goal.returns-then-not-is_wanted_uid
returns-then-not-is_wanted_uid c = no_uid (history_of c.args.context.now) (event_of c.args.event.now) (recorded c.args.removal.now) c.args.last
    (untold _ (uid_told c.args.event.now.preconditions.uid c.args.removal.now.uid) (sym c.is_wanted_uid.ensures ∙ c.if-not-is_wanted_uid.true))

pub returns-in_default : goal.returns-in_default
returns-in_default c = no_revision (history_of c.args.context.now) (event_of c.args.event.now) (recorded c.args.removal.now) c.args.last c.in_default.is
    ((uid_told c.args.event.now.preconditions.uid c.args.removal.now.uid).0 (sym c.is_wanted_uid.ensures ∙ c.if-not-is_wanted_uid.false))
