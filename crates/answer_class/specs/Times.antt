-- When a request ran, as far as clocks can be trusted.
use Rattle.std.specs.Prelude.{ℤ, pos, ◌+ℤ◌, ◌-ℤ◌, Bool, false, Option, Some, None, int_lt}
use Rattle.base_types.specs.declared.kubernetes.revision.Moment.{Moment}
use Rattle.audit_event.specs.declared.event.Event.{Event}
use Rattle.setup_file.specs.declared.setup.Setup.{Setup}

-- the earliest moment at which it may have begun
abbrev pub lo : Setup → Event → ℤ
lo setup event = event.received.0 -ℤ pos setup.slack

-- the latest moment at which it may have ended
abbrev pub hi : Setup → Event → ℤ
hi setup event = event.staged.0 +ℤ pos setup.slack

-- it may have begun before the log
abbrev pub is_early : Setup → Event → Bool
is_early setup event = int_lt (lo setup event) setup.start_time.0

-- it has ended before the log
abbrev pub is_before : Setup → Event → Bool
is_before setup event = int_lt (hi setup event) setup.start_time.0

-- it may have ended after the log
abbrev pub is_after : Option Moment → ℤ → Bool
is_after None at = false
is_after (Some until) at = int_lt until.0 at

abbrev pub is_late : Setup → Event → Bool
is_late setup event = is_after setup.until (hi setup event)
