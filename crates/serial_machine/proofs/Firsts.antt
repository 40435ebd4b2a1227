-- The first event with a standing code, with a place that it can't have, or with a decision that isn't given.
use Rattle.std.proofs.Common.{◌≡◌, ℕ, ◌+◌, ◌<◌, ◌≤◌, ◌⊎◌, inl, inr, List, Some, length, refl, sym, subst, arith}
use Rattle.std.proofs.lemmas.Option.{slice_get_within}
use Rattle.base_types.specs.Reasons.{code_number}
use Rattle.base_types.specs.declared.verdict.claim.Reason.{Reason}
use Rattle.base_types.specs.declared.verdict.placed.PlacedLine.{PlacedLine}
use Rattle.history_model.proofs.Fits.{same_event}
use Rattle.history_model.specs.Checking.{HasCodeAt, HasSomeCodeAt, HasStandingCode, IsLeastLine, IsMisplacedAt, IsUndecidedAt, NoLine}
use Rattle.history_model.specs.Events.{Event}
use Rattle.history_model.specs.Histories.{History, IsEvent}
use Rattle.history_model.specs.Readable.{IsReadable}
use Rattle.serial_machine.proofs.Leasts.{HoldsAt, below_or_not, first_is_least, one_event}
use Rattle.serial_machine.specs.Places.{IsMisplaced, IsUndecided}
use Rattle.serial_machine.specs.Standing.{IsLeastCode}

-- it holds of no event before the number
abbrev pub NoneBefore : History → (ℕ → Event → Type 0) → ℕ → Type 0
NoneBefore h Holds number = (k : ℕ) (event : Event) → k < number → IsEvent h k event → Holds k event → ⊥

least_alike : (P Q : ℕ → Type 0) (at : ℕ) → P at → ((other : ℕ) → Q other → P other) → ((other : ℕ) → P other → Q other) → ((other : ℕ) → P other → at ≤ other) → IsLeastLine Q at
least_alike P Q at p back to least = (to at p, λ other q. least other (back other q))

module _ (h : History) (Holds : ℕ → Event → Type 0) where
  -- what holds of no event before another holds of none but those from it on
  pub one_more : (number : ℕ) → NoneBefore h Holds number → ((event : Event) → IsEvent h number event → Holds number event → ⊥) → NoneBefore h Holds (number + 1)
  one_more number before here k event l known holds = go (below_or_not k number)
    where
      go : (k < number) ⊎ (k ≡ number) ⊎ (number < k) → ⊥
      go (inl m) = before k event m known holds
      go (inr (inl e)) = here event (subst (λ n. IsEvent h n event) e known) (subst (λ n. Holds n event) e holds)
      go (inr (inr m)) = absurd (omega (arith, l, m))

  pub none_anywhere : (number at : ℕ) → length h.events ≤ number → NoneBefore h Holds number → HoldsAt h Holds at → ⊥
  none_anywhere number at all before (k, event, known, same, holds) = before k event (omega (arith, slice_get_within h.events k event known, all)) known holds

module _ (h : History) (r : IsReadable h) (lines : List PlacedLine) where
  misplaced_at : (at : ℕ) → IsMisplacedAt h lines at → HoldsAt h (IsMisplaced h lines) at
  misplaced_at at m = (m.number, m.event, m.known, m.of_line, m.outside)

  at_misplaced : (at : ℕ) → HoldsAt h (IsMisplaced h lines) at → IsMisplacedAt h lines at
  at_misplaced at (number, event, known, same, outside) = record { number = number; event = event; known = known; of_line = same; outside = outside }

  pub first_misplaced_is : (number : ℕ) (event : Event) → IsEvent h number event → IsMisplaced h lines number event → NoneBefore h (IsMisplaced h lines) number → IsLeastLine (IsMisplacedAt h lines) event.line
  first_misplaced_is number event known holds before = least_alike (HoldsAt h (IsMisplaced h lines)) (IsMisplacedAt h lines) event.line (number, event, known, refl, holds) misplaced_at at_misplaced
      (first_is_least h (IsMisplaced h lines) number event r known before)

  pub none_misplaced : (number : ℕ) → length h.events ≤ number → NoneBefore h (IsMisplaced h lines) number → NoLine (IsMisplacedAt h lines)
  none_misplaced number all before at m = none_anywhere h (IsMisplaced h lines) number at all before (misplaced_at at m)

  undecided_at : (at : ℕ) → IsUndecidedAt h lines at → HoldsAt h (IsUndecided h lines) at
  undecided_at at u = (u.number, u.event, u.known, u.of_line, (u.decided, u.judged, u.wrong))

  at_undecided : (at : ℕ) → HoldsAt h (IsUndecided h lines) at → IsUndecidedAt h lines at
  at_undecided at (number, event, known, same, (decided, judged, wrong)) = record { number = number; event = event; decided = decided; known = known; of_line = same; judged = judged; wrong = wrong }

  pub first_undecided_is : (number : ℕ) (event : Event) → IsEvent h number event → IsUndecided h lines number event → NoneBefore h (IsUndecided h lines) number → IsLeastLine (IsUndecidedAt h lines) event.line
  first_undecided_is number event known holds before = least_alike (HoldsAt h (IsUndecided h lines)) (IsUndecidedAt h lines) event.line (number, event, known, refl, holds) undecided_at at_undecided
      (first_is_least h (IsUndecided h lines) number event r known before)

  pub none_undecided : (number : ℕ) → length h.events ≤ number → NoneBefore h (IsUndecided h lines) number → NoLine (IsUndecidedAt h lines)
  none_undecided number all before at u = none_anywhere h (IsUndecided h lines) number at all before (undecided_at at u)

-- the event has some standing code
abbrev pub Stands : History → ℕ → Event → Type 0
Stands h number event = (code : Reason) × HasStandingCode h number event code

module _ (h : History) (r : IsReadable h) where
  standing_at : (at : ℕ) → HasSomeCodeAt h at → HoldsAt h (Stands h) at
  standing_at at (code, c) = (c.number, c.event, c.known, c.of_line, (code, c.has))

  at_standing : (at : ℕ) → HoldsAt h (Stands h) at → HasSomeCodeAt h at
  at_standing at (number, event, known, same, (code, has)) = (code, record { number = number; event = event; known = known; of_line = same; has = has })

  pub first_standing_is : (number : ℕ) (event : Event) → IsEvent h number event → Stands h number event → NoneBefore h (Stands h) number → IsLeastLine (HasSomeCodeAt h) event.line
  first_standing_is number event known holds before = least_alike (HoldsAt h (Stands h)) (HasSomeCodeAt h) event.line (number, event, known, refl, holds) standing_at at_standing
      (first_is_least h (Stands h) number event r known before)

  pub none_standing : (number : ℕ) → length h.events ≤ number → NoneBefore h (Stands h) number → NoLine (HasSomeCodeAt h)
  none_standing number all before at c = none_anywhere h (Stands h) number at all before (standing_at at c)

  -- the least code of an event is that of its line
  pub least_at : (number : ℕ) (event : Event) (code : Reason) → IsEvent h number event → IsLeastCode (HasStandingCode h number event) (Some code)
      → (other : Reason) → HasCodeAt h event.line other → code_number code ≤ code_number other
  least_at number event code known least other c = least.1 other (subst (λ (e : Event). HasStandingCode h number e other) same_events (subst (λ n. HasStandingCode h n c.event other) (sym same) c.has))
    where
      same : number ≡ c.number
      same = one_event h number c.number event c.event r known c.known c.of_line

      same_events : c.event ≡ event
      same_events = same_event h number c.event event (subst (λ n. IsEvent h n c.event) (sym same) c.known) known

  pub code_at : (number : ℕ) (event : Event) (code : Reason) → IsEvent h number event → HasStandingCode h number event code → HasCodeAt h event.line code
  code_at number event code known has = record { number = number; event = event; known = known; of_line = refl; has = has }
