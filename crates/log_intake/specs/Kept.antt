-- What those who take the events of a log may rest on.
use Rattle.std.specs.Prelude.{ℕ, ◌<◌, ◌≤◌, List, length, All, AllPairs}
use Rattle.audit_event.specs.declared.event.Event.{Event}
use Rattle.audit_event.specs.Events.{IsSound}
use Rattle.audit_event.specs.Keeping.{AreOfOneStage}

pub record AreLogEvents (events : List Event) : Type 0 where
  pub sound : All IsSound events
  pub rise : AllPairs (λ a b. a.line < b.line) events
  pub distinct : AllPairs (λ a b. ¬ AreOfOneStage a b) events
  pub first : All (λ event. 1 ≤ event.line) events
  pub last : All (λ event. event.line ≤ 1099511627776) events
  pub few : length events ≤ 4194304

-- events whose numbers are below this one
pub record AreBefore (number : ℕ) (events : List Event) : Type 0 where
  pub sound : All IsSound events
  pub first : All (λ event. 1 ≤ event.line) events
  pub before : All (λ event. event.line < number) events
  pub few : length events ≤ 4194304
