-- The class of an event's answer, in its two forms.
use Rattle.std.specs.Prelude.{◌≡◌}
use Rattle.answer_class.specs.Classes.{class_of}
use Rattle.answer_class.specs.Table.{by_table}
use Rattle.audit_event.specs.declared.event.Event.{Event}
use Rattle.setup_file.specs.declared.setup.Setup.{Setup}

-- the first row of the table that applies gives what the decisions give, which the history is made by
abbrev pub IsByTable : Type 0
IsByTable = (setup : Setup) (event : Event) → by_table setup event ≡ class_of setup event
