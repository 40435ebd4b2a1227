-- The answers to the writes of a log, as what the writes asked for.
use Rattle.std.specs.Prelude.{◌≡◌, ◌↔◌, true, Option}
use Rattle.audit_event.specs.declared.event.Event.{Event}
use Rattle.base_types.specs.Meaning.{Meaning}
use Rattle.request_bodies.specs.Right.{IsBodyRight, is_body_right}
use Rattle.setup_file.specs.declared.setup.Setup.{Setup}

-- the test of an answered object, which the history is made by, holds exactly where that object is what the write's body
-- asked of the object before, or of none
abbrev pub AreAsAsked : Type 0
AreAsAsked = (setup : Setup) (event : Event) (answered : Meaning) (old : Option Meaning)
    → (is_body_right setup event answered old ≡ true) ↔ IsBodyRight setup event answered old
