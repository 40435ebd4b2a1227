use Rattle.std.proofs.Common.{◌≡◌, ◌++◌, drop}
use Rattle.write_groups.specs.Hiding.{spans_from}
use Rattle.write_groups.proofs.hidden.spans_of.Given as goal

abbrev pub invariant-loop-i : goal.invariant-loop-i
invariant-loop-i l = l.spans.items ++ spans_from l.i (drop l.i l.hidings) ≡ spans_from 0 l.hidings
