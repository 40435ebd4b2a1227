use Rattle.std.proofs.Common.{◌-◌, length}
use Rattle.edge_io.proofs.WrittenFacts.{IsWritten}
use Rattle.edge_io.proofs.writing.write_whole.Given as goal

abbrev pub invariant-pieces : goal.invariant-pieces
invariant-pieces g l = IsWritten (g.K.Sink.written l.initial.out) (g.K.Sink.written l.out) (g.K.Sink.faults l.initial.out) (g.K.Sink.faults l.out) l.text l.at

abbrev pub decreases-pieces : goal.decreases-pieces
decreases-pieces g l = length l.text - l.at
