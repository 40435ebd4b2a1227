-- What is shown of an event for its code.
use Rattle.std.proofs.Common.{◌≡◌, ℕ, List, Some, slice_get, refl, subst}
use Rattle.base_types.specs.declared.verdict.claim.Reason.{Reason}
use Rattle.base_types.specs.declared.verdict.claim.Reason.TheVariants.{U1, U2, U3, U4, U5, U6, U7, U8, U9, U10, U11, U12, U13, U14}
use Rattle.base_types.specs.declared.verdict.placed.Outcome.TheVariants as printed
use Rattle.base_types.specs.declared.verdict.placed.WriteLine.{WriteLine}
use Rattle.history_model.specs.Events.{Event}
use Rattle.history_model.specs.Histories.{History, IsEvent}
use Rattle.history_model.specs.Outcomes.{AreWrites, shown_high, shown_low}
use Rattle.history_model.specs.Windows.{high_end, low_end}
use Rattle.log_context.specs.Answered.{names}
use Rattle.log_context.specs.Histories.{history_of}
use Rattle.log_context.specs.Known.{Known}
use Rattle.window_writes.specs.Lines.{AreWriteLines}
use Rattle.log_verdict.specs.Findings.{IsFindingOf}

pub record IsOwnWindow (h : History) (event : Event) (reason : Reason) : Type 0 where
  pub low : shown_low h event reason ≡ low_end h event
  pub high : shown_high h event reason ≡ high_end h event

-- but for decisions it is the event's own
pub own_window : (h : History) (event : Event) (reason : Reason) → (reason ≡ U14 → ⊥) → IsOwnWindow h event reason
own_window h event U1 other = record { low = refl; high = refl }
own_window h event U2 other = record { low = refl; high = refl }
own_window h event U3 other = record { low = refl; high = refl }
own_window h event U4 other = record { low = refl; high = refl }
own_window h event U5 other = record { low = refl; high = refl }
own_window h event U6 other = record { low = refl; high = refl }
own_window h event U7 other = record { low = refl; high = refl }
own_window h event U8 other = record { low = refl; high = refl }
own_window h event U9 other = record { low = refl; high = refl }
own_window h event U10 other = record { low = refl; high = refl }
own_window h event U11 other = record { low = refl; high = refl }
own_window h event U12 other = record { low = refl; high = refl }
own_window h event U13 other = record { low = refl; high = refl }
own_window h event U14 other = absurd (other refl)

-- the finding of an event with its window and the lines of the writes there
pub finding_is : (known : Known) (number : ℕ) (reason : Reason) (event : Event) (name : List ℕ) (line low high : ℕ) (lines : List WriteLine)
    → IsEvent (history_of known) number event → line ≡ event.line → slice_get (names known.setup known.events) number ≡ Some name
    → low ≡ shown_low (history_of known) event reason → high ≡ shown_high (history_of known) event reason → AreWriteLines known low high lines
    → IsFindingOf known number reason (printed.Unexplained line name reason low high lines)
finding_is known number reason event name line low high lines k of_line named lows highs written = record {
  event = event;
  is = k;
  writes = written.writes;
  are = subst (λ z. AreWrites (history_of known) z (shown_high (history_of known) event reason) written.writes) lows (subst (λ z. AreWrites (history_of known) low z written.writes) highs written.are);
  printed = (event, name, k, named, λ i. printed.Unexplained (of_line i) name reason (lows i) (highs i) (written.spelled i));
}
