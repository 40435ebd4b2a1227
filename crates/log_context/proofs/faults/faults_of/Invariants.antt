use Rattle.std.proofs.Common.{◌≡◌}
use Rattle.history_model.specs.Histories.{History}
use Rattle.history_model.specs.Readable.{IsReadable}
use Rattle.object_past.specs.Past.{HasPast}
use Rattle.write_groups.specs.Modelled.{HasEvents}
use Rattle.log_context.specs.Makings.{AreFaultsUpTo, AreMakersCodes}
use Rattle.log_context.proofs.faults.faults_of.Given as goal

abbrev pub invariant-loop-i : goal.invariant-loop-i
invariant-loop-i g l = (h : History) → IsReadable h → h.start ≡ l.start → h.body ≡ g.B.Bodies.body l.bodies → HasPast l.past h → AreMakersCodes h l.makings → HasEvents l.log h
    → AreFaultsUpTo h l.i l.faults.items
