use Rattle.std.specs.Vec.Iter.{into_iter_items}
use Rattle.log_intake.proofs.LineFacts.{HasKept}
use Rattle.log_intake.proofs.keeping.keep_lines.Given as goal

abbrev pub invariant-loop-line : goal.invariant-loop-line
invariant-loop-line l = HasKept l.lines (into_iter_items l.line-iterator) l.initial.place l.place l.initial.seen l.seen l.at
