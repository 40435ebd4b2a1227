-- A log reads as one list of events, and a setup as one setup, or it is refused in one way.
use Rattle.std.specs.Prelude.{◌≡◌, ℕ, List, Result}
use Rattle.audit_event.specs.declared.event.Event.{Event}
use Rattle.setup_file.specs.declared.setup.Setup.{Setup}
use Rattle.log_intake.specs.declared.stop.LogStop.{LogStop}
use Rattle.log_intake.specs.declared.stop.SetupStop.{SetupStop}
use Rattle.log_intake.specs.Log.{IsLogRead}
use Rattle.log_intake.specs.Setup.{IsSetupRead}

abbrev pub OneReading : Type 0
OneReading = (bytes : List ℕ) (a b : Result (List Event) LogStop) → IsLogRead bytes a → IsLogRead bytes b → a ≡ b

abbrev pub OneSetup : Type 0
OneSetup = (bytes : List ℕ) (a b : Result Setup SetupStop) → IsSetupRead bytes a → IsSetupRead bytes b → a ≡ b
