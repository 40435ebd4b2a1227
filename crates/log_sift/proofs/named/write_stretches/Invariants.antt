use Rattle.std.proofs.Common.{take}
use Rattle.log_sift.specs.Sifted.{stretches_text}
use Rattle.log_sift.proofs.WritingFacts.{IsSpread}
use Rattle.log_sift.proofs.named.write_stretches.Given as goal

abbrev pub invariant-loop-stretch : goal.invariant-loop-stretch
invariant-loop-stretch g l = IsSpread (g.K.Sink.written l.initial.out) (g.K.Sink.written l.out) (g.K.Sink.faults l.initial.out) (g.K.Sink.faults l.out) (stretches_text l.log (take l.stretch-index l.stays))
