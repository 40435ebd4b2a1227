-- When a request was received and when the event's stage was reached.
use Rattle.std.specs.Prelude.{ℕ, ℤ, ◌≤ℤ◌, int_lt, List, Option, Some, None, option_and_then, codes, if◌then◌else◌}
use Rattle.serde_json.specs.Data.{Data}
use Rattle.base_types.specs.declared.kubernetes.revision.Moment.{Moment}
use Rattle.audit_event.specs.declared.times.Times.{Times}
use Rattle.audit_event.specs.Members.{text_at}
use Rattle.base_types.specs.Moments.{IsMoment}
use Rattle.base_types.specs.Texts.{◌>>=◌}
use Rattle.timestamps.specs.Timestamps.{moment_of}

abbrev pub moment_at : List ℕ → Data → Option Moment
moment_at name value = option_and_then moment_of (text_at name value)

-- no stage lies before the receipt
abbrev pub in_turn : Moment → Moment → Option Times
in_turn received staged = if int_lt staged.0 received.0 then None else Some (record { received = received; staged = staged })

abbrev pub times_in : Data → Option Times
times_in value = do
  received ← moment_at (codes "requestReceivedTimestamp") value
  staged ← moment_at (codes "stageTimestamp") value
  in_turn received staged

pub record AreSound (received staged : ℤ) : Type 0 where
  pub receipt : IsMoment received
  pub stage : IsMoment staged
  pub rising : received ≤ℤ staged
