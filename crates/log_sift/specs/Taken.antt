-- What a judge reads of the lines that stay.
use Rattle.std.specs.Prelude.{◌≡◌, ⊤, ◌⊎◌, ℕ, List, [], ◌∷◌, Result, Ok, Err}
use Rattle.audit_event.specs.declared.event.Event.{Event}
use Rattle.audit_event.specs.Keeping.{SameButLine}
use Rattle.log_intake.specs.declared.stop.LogStop.{LogStop}
use Rattle.log_intake.specs.declared.stop.LogStop.TheVariants.{TooLong, TooManyEvents}
use Rattle.log_intake.specs.Log.{IsLogRead}
use Rattle.log_sift.specs.declared.answer.Fate.{Fate}
use Rattle.log_sift.specs.Sift.{IsSifted}
use Rattle.log_sift.specs.Sifted.{kept_text}

-- each event is equal to the other list's in all but the line
abbrev pub AreSameButLine : List Event → List Event → Type 0
AreSameButLine [] [] = ⊤
AreSameButLine [] (y ∷ ys) = ⊥
AreSameButLine (x ∷ xs) [] = ⊥
AreSameButLine (x ∷ xs) (y ∷ ys) = SameButLine x y × AreSameButLine xs ys

-- the kept events are read, unless there are too many or the text is too long
abbrev pub ReadsKept : List Event → Result (List Event) LogStop → Type 0
ReadsKept kept (Ok events) = AreSameButLine events kept
ReadsKept kept (Err stop) = (stop ≡ TooManyEvents) ⊎ (stop ≡ TooLong)

abbrev pub KeptIsTaken : Type 0
KeptIsTaken = (log : List ℕ) (fates : List Fate) (read : Result (List Event) LogStop) (sifted : IsSifted log fates)
    → IsLogRead (kept_text log fates) read → ReadsKept sifted.kept read
