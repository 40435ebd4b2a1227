use Rattle.std.proofs.Common.{◌≤◌, ◌-◌}
use Rattle.base_types.specs.Choices.{IsChoice}
use Rattle.history_model.specs.Histories.{History, ranges}
use Rattle.local_bounds.specs.Known.{IsPastOf}
use Rattle.local_bounds.specs.Places.{IsNarrowed}
use Rattle.local_bounds.proofs.place.first_by_halves.Given as goal

abbrev pub invariant-loop-rest : goal.invariant-loop-rest
invariant-loop-rest l = record {
  within : l.rest.high ≤ l.window.high;
  narrowed : (h : History) → IsPastOf l.past h → IsChoice (ranges h) l.choice → IsNarrowed h l.choice l.key l.sight l.window.low l.rest;
}

abbrev pub decreases-loop-rest : goal.decreases-loop-rest
decreases-loop-rest l = l.rest.high - l.rest.low
