-- Of a log that a judge takes nothing is left out.
use Rattle.std.specs.Prelude.{◌≡◌, ℕ, List, [], Ok}
use Rattle.audit_event.specs.declared.event.Event.{Event}
use Rattle.log_intake.specs.Log.{IsLogRead}
use Rattle.log_sift.specs.declared.answer.Fate.{Fate}
use Rattle.log_sift.specs.Sift.{IsSifted}
use Rattle.log_sift.specs.Sifted.{kept_text, left_lines}

abbrev pub NothingLeft : Type 0
NothingLeft = (log : List ℕ) (events : List Event) (fates : List Fate) → IsLogRead log (Ok events) → IsSifted log fates
    → (kept_text log fates ≡ log) × (left_lines 0 fates ≡ [])
