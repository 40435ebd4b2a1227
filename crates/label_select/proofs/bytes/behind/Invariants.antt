use Rattle.std.proofs.Common.{◌≡◌, length}
use Rattle.label_select.specs.Bytes.{behind}
use Rattle.label_select.proofs.bytes.behind.Given as goal

abbrev pub invariant-loop-rest : goal.invariant-loop-rest
invariant-loop-rest l = behind l.class l.bytes ≡ behind l.class l.rest

abbrev pub decreases-loop-rest : goal.decreases-loop-rest
decreases-loop-rest l = length l.rest
