use Rattle.std.proofs.Common.{◌-◌, length}
use Rattle.log_sift.proofs.LoopFacts.{HasSifted}
use Rattle.log_sift.proofs.whole.sift_lines.Given as goal

abbrev pub invariant-lines : goal.invariant-lines
invariant-lines l = HasSifted l.log l.events.entries l.sifting l.number l.from l.start

abbrev pub decreases-lines : goal.decreases-lines
decreases-lines l = length l.log - l.start
