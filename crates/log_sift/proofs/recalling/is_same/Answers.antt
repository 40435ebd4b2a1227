use Rattle.std.proofs.lemmas.Bool.Decides.{Decides-at}
use Rattle.audit_event.specs.contracts.event.EventPartialEq.TheImpl as same
use Rattle.log_sift.proofs.EventFacts.{event_decides}
use Rattle.log_sift.proofs.recalling.is_same.Goals as goal

pub returns : goal.returns
returns c = Decides-at c.eq.result (same.eq-value.it c.args.a.now c.args.b.now) c.eq.ensures (event_decides c.args.a.now c.args.b.now)
