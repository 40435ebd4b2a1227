use Rattle.std.proofs.Common.{◌≤◌, All}
use Rattle.history_model.specs.Histories.{History}
use Rattle.history_model.specs.Readable.{IsReadable}
use Rattle.log_moments.proofs.Gathering.{AreThingsBefore}
use Rattle.log_moments.specs.Views.{IsLogViewOf}
use Rattle.log_moments.proofs.things.things_in.Given as goal

-- the things of the events so far
abbrev pub invariant-loop-number : goal.invariant-loop-number
invariant-loop-number l = record {
  things : (h : History) → IsLogViewOf l.view h → IsReadable h → AreThingsBefore h l.number l.things.items;
  numbers : (h : History) → IsLogViewOf l.view h → All (λ thing. thing.least ≤ thing.greatest) l.things.items;
}
