use Rattle.std.proofs.Common.{◌≡◌, ◌≢◌, ◌≤◌, ℕ, List, ◌-◌, length}
use Rattle.edge_io.specs.Whole.{HasTaken}
use Rattle.edge_io.proofs.whole.read_whole.Given as goal

abbrev pub invariant-pieces : goal.invariant-pieces
invariant-pieces g l = record {
  within : length l.bytes.items ≤ l.most;
  told : HasTaken (g.D.Desk.left l.initial.desk l.name) (g.D.Desk.left l.desk l.name) l.bytes.items;
  counted : g.D.Desk.faults l.initial.desk ≤ g.D.Desk.faults l.desk;
  others : (other : List ℕ) → other ≢ l.name → g.D.Desk.left l.desk other ≡ g.D.Desk.left l.initial.desk other;
}

abbrev pub decreases-pieces : goal.decreases-pieces
decreases-pieces g l = l.most - length l.bytes.items
