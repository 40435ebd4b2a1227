use Rattle.std.proofs.Common.{sym, subst}
use Rattle.audit_event.specs.Events.{IsUnreadable}
use Rattle.audit_event.proofs.RuleLemmas.{unreadable}
use Rattle.audit_event.proofs.reading.read_attrs.Goals as goal

pub returns-clause-cause : goal.returns-clause-cause
returns-clause-cause c = subst (IsUnreadable c.args.uri.now) (sym c.fault_of.ensures) (unreadable c.args.uri.now c.in-Err.fault (rw c.in_ok-uri.ensures at c.in-Err.ensures.cause))
