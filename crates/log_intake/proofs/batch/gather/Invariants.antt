use Rattle.std.proofs.Common.{◌≡◌, ◌≢◌, ◌≤◌, ℕ, List, ◌-◌, length}
use Rattle.log_intake.specs.declared.batch.BatchEnd.TheVariants.{GoesOn}
use Rattle.log_intake.specs.Batches.{Gathers, line_values}
use Rattle.log_intake.proofs.batch.gather.Given as goal

abbrev pub invariant-pieces : goal.invariant-pieces
invariant-pieces g l = record {
  gathers : Gathers GoesOn (g.D.Desk.left l.initial.desk l.name) (g.D.Desk.left l.desk l.name) l.initial.reader l.reader (line_values l.lines.items) l.taken l.at 1310719;
  counted : g.D.Desk.faults l.initial.desk ≤ g.D.Desk.faults l.desk;
  others : (other : List ℕ) → other ≢ l.name → g.D.Desk.left l.desk other ≡ g.D.Desk.left l.initial.desk other;
  buffer : length l.buffer ≡ length l.initial.buffer;
}

abbrev pub decreases-pieces : goal.decreases-pieces
decreases-pieces g l = 1099511627776 - l.at
