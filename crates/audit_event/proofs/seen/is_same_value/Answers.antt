use Rattle.std.proofs.lemmas.Bool.Decides.{Decides-at}
use Rattle.base_types.specs.Same.{same, same-Decides}
use Rattle.audit_event.proofs.seen.is_same_value.Goals as goal

pub returns : goal.returns
returns c = Decides-at c.eq.result (same c.args.a.now c.args.b.now) c.eq.ensures (same-Decides c.args.a.now c.args.b.now)
