use Rattle.std.proofs.Common.{subst, All}
use Rattle.audit_event.specs.Events.{IsSound}
use Rattle.log_context.specs.Known.{Known}
use Rattle.log_context.specs.Log.{AreLines}
use Rattle.log_context.proofs.context.Context.events.Goals as goal

pub returns-clause-sound : goal.returns-clause-sound
returns-clause-sound c = subst (λ (k : Known). All IsSound k.events) c.self.view_is c.self.invariant.events

pub returns-clause-lines : goal.returns-clause-lines
returns-clause-lines c = subst (λ (k : Known). AreLines k.events) c.self.view_is c.self.invariant.event_lines
