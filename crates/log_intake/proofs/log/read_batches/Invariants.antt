use Rattle.std.proofs.Common.{◌≡◌, ◌≢◌, ℕ, List, ◌+◌, ◌-◌, ◌*◌}
use Rattle.log_intake.proofs.AheadFacts.{HasDecoded, goes}
use Rattle.log_intake.proofs.log.read_batches.Given as goal

abbrev pub invariant-batches : goal.invariant-batches
invariant-batches g l = record {
  read : HasDecoded (g.D.Desk.left l.fn.desk l.name) (g.D.Desk.left l.desk l.name) (g.D.Desk.faults l.fn.desk) (g.D.Desk.faults l.desk) l.reader l.seen l.place l.front l.next;
  others : (other : List ℕ) → other ≢ l.name → g.D.Desk.left l.desk other ≡ g.D.Desk.left l.fn.desk other;
}

abbrev pub decreases-batches : goal.decreases-batches
decreases-batches g l = 2 * (1099511627776 - l.next.taken) + goes l.next.end
