use Rattle.std.proofs.Common.{◌≡◌, ◌-◌, string_bytes}
use Rattle.case_maker.specs.Case.{log_text}
use Rattle.case_maker.specs.Cluster.{state_after}
use Rattle.case_maker.proofs.case.make_case.Given as goal

abbrev pub invariant-loop-event : goal.invariant-loop-event
invariant-loop-event l = record {
  state : l.cluster ≡ state_after l.fn.number (l.event - 1);
  written : string_bytes l.log ≡ log_text l.fn.number (l.event - 1);
}
