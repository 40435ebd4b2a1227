-- What becomes of the lines of a log. They are taken one after another, each behind the events of those that stay.
use Rattle.std.specs.Prelude.{◌≡◌, ℕ, ◌<◌, ◌≤◌, ◌⊎◌, true, false, List, [], ◌∷◌, ◌++◌, length, Option, Some, None, Result, Ok, Err}
use Rattle.line_reader.specs.Lines.{is_dropped, lines_of, longest_line}
use Rattle.audit_event.specs.declared.event.Event.{Event}
use Rattle.audit_event.specs.declared.fault.Malformed.TheVariants.{M12}
use Rattle.batch_decode.specs.declared.decoded.Decoded.{Decoded}
use Rattle.batch_decode.specs.declared.decoded.ItemFault.{ItemFault}
use Rattle.batch_decode.specs.Batches.{IsDecoded}
use Rattle.log_intake.specs.Log.{IsNew, Repeats, Differs}
use Rattle.log_intake.specs.Steps.{InOrder}
use Rattle.log_sift.specs.declared.answer.LeftCause.{LeftCause}
use Rattle.log_sift.specs.declared.answer.LeftCause.TheVariants.{LineTooLong, Rule}
use Rattle.log_sift.specs.declared.answer.Fate.{Fate}
use Rattle.log_sift.specs.declared.answer.Fate.TheVariants.{Blank, Stays, Left}

-- a new event is kept, and a repeat is dropped
abbrev pub KeepsEvent : List Event → Event → Result (List Event) LeftCause → Type 0
KeepsEvent kept event (Ok after) = (IsNew kept event × (after ≡ kept ++ event ∷ [])) ⊎ (Repeats kept event × (after ≡ kept))
KeepsEvent kept event (Err cause) = Differs kept event × (cause ≡ Rule M12)

abbrev pub unless_fault : Option ItemFault → List Event → Result (List Event) LeftCause
unless_fault None kept = Ok kept
unless_fault (Some fault) kept = Err (Rule fault.code)

-- behind the events of a line comes its fault, if it has one
abbrev pub behind_events : Option ItemFault → Result (List Event) LeftCause → Result (List Event) LeftCause
behind_events fault (Ok kept) = unless_fault fault kept
behind_events fault (Err cause) = Err cause

abbrev pub KeepsDecoded : List Event → Decoded → Result (List Event) LeftCause → Type 0
KeepsDecoded kept decoded found =
    (events : Result (List Event) LeftCause) × InOrder KeepsEvent kept decoded.events events × (found ≡ behind_events decoded.fault events)

-- the events that are kept behind a line that isn't blank, or why it is left out
abbrev pub KeepsLine : List Event → List ℕ → Result (List Event) LeftCause → Type 0
KeepsLine kept line found =
    ((longest_line < length line) × (found ≡ Err LineTooLong))
    ⊎ ((length line ≤ longest_line) × ((decoded : Decoded) × IsDecoded line decoded × KeepsDecoded kept decoded found))

-- what becomes of a line, and the events that are kept behind it
abbrev pub SiftsLine : List Event → List ℕ → Fate → List Event → Type 0
SiftsLine kept line Blank after = (is_dropped line ≡ true) × (after ≡ kept)
SiftsLine kept line Stays after = (is_dropped line ≡ false) × KeepsLine kept line (Ok after)
SiftsLine kept line (Left cause) after = (is_dropped line ≡ false) × KeepsLine kept line (Err cause) × (after ≡ kept)

-- what becomes of each of these lines
abbrev pub SiftsLines : List Event → List (List ℕ) → List Fate → List Event → Type 0
SiftsLines kept [] [] after = after ≡ kept
SiftsLines kept [] (fate ∷ fates) after = ⊥
SiftsLines kept (line ∷ lines) [] after = ⊥
SiftsLines kept (line ∷ lines) (fate ∷ fates) after = (next : List Event) × SiftsLine kept line fate next × SiftsLines next lines fates after

-- what becomes of the lines of a log
pub record IsSifted (log : List ℕ) (fates : List Fate) : Type 0 where
  pub kept : List Event
  pub sifts : SiftsLines [] (lines_of log) fates kept
