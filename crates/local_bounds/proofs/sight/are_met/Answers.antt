use Rattle.std.proofs.Common.{sym, subst}
use Rattle.std.specs.Prelude.{◌↔◌, IsTrue}
use Rattle.local_bounds.specs.Sights.{AreMetBy}
use Rattle.write_groups.proofs.Meeting.{met_told}
use Rattle.local_bounds.proofs.sight.are_met.Goals as goal

pub returns : goal.returns
returns c = subst (λ met. IsTrue met ↔ AreMetBy c.args.asked.now c.args.version.now) (sym c.are_met.ensures) (met_told c.args.asked.now c.args.version.now.revision c.args.version.now.uid)
