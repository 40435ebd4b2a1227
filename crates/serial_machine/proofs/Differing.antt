-- The first difference between a placement and its log.
use Rattle.std.proofs.Common.{◌≡◌, ◌≢◌, ℕ, ◌<◌, ◌≤◌, ◌⊎◌, List, None, Some, Contains, length, get_or, slice_get, inl, inr, refl, sym, ap, ◌∙◌, subst, arith}
use Rattle.std.specs.Prelude.{min}
use Rattle.std.proofs.lemmas.Option.{slice_get_within, slice_get_cases}
use Rattle.base_types.specs.Placements.{RisesByLine}
use Rattle.base_types.specs.declared.verdict.placed.PlacedLine.{PlacedLine}
use Rattle.history_model.proofs.Members.{at_in, in_at, apart}
use Rattle.history_model.proofs.OutcomeLaw.{get_within}
use Rattle.history_model.specs.Checking.{DiffersAt, lacking, unknown, differing, HasWords, IsLeastLine, NoLine}
use Rattle.history_model.specs.Events.{Event}
use Rattle.history_model.specs.Histories.{History, IsEvent}
use Rattle.history_model.specs.Readable.{IsReadable}
use Rattle.serial_machine.proofs.Leasts.{rises, same_at, below_or_not, not_less}
use Rattle.serial_machine.specs.Lines.{IsAlike, IsUnlike, short, elsewhere, worded}

pub none_past : {X : Type 0} (xs : List X) (n : ℕ) → slice_get xs n ≡ None → length xs ≤ n
none_past {X} xs n e = go (slice_get_cases xs n).1
  where
    go : ((x : X) × (n < length xs) × (slice_get xs n ≡ Some x) × (get_or xs n x ≡ x)) ⊎ ((length xs ≤ n) × (slice_get xs n ≡ None)) → length xs ≤ n
    go (inl w) = absurd (cc (w.2, e))
    go (inr w) = w.0

abbrev pub line_of : PlacedLine → ℕ
line_of line = line.line

abbrev pub event_line : Event → ℕ
event_line event = event.line

-- the events before this number have their lines
abbrev pub AreAlikeUpTo : History → List PlacedLine → ℕ → Type 0
AreAlikeUpTo h lines number = (k : ℕ) (event : Event) → k < number → IsEvent h k event → IsAlike h lines k event

-- the line is that of an event from the number on, or of the placement from there on
abbrev IsFrom : History → List PlacedLine → ℕ → ℕ → Type 0
IsFrom h lines number at = ((k : ℕ) × (event : Event) × IsEvent h k event × (event.line ≡ at) × (k < number → ⊥))
    ⊎ ((j : ℕ) × (line : PlacedLine) × (slice_get lines j ≡ Some line) × (line.line ≡ at) × (j < number → ⊥))

module _ (h : History) (r : IsReadable h) (lines : List PlacedLine) (rising : RisesByLine lines) (number : ℕ) (within : number ≤ length h.events) (alike : AreAlikeUpTo h lines number) where
  -- a line before the number is its event's
  line_before : (j : ℕ) (line : PlacedLine) → j < number → slice_get lines j ≡ Some line → (event : Event) × IsEvent h j event × (line.line ≡ event.line)
  line_before j line l q = go (get_within h.events j (omega (arith, l, within)))
    where
      go : (event : Event) × (slice_get h.events j ≡ Some event) → (event : Event) × IsEvent h j event × (line.line ≡ event.line)
      go (event, known) = (event, known, ap line_of (same_at lines j j line (alike j event l known).line refl q (alike j event l known).here) ∙ (alike j event l known).same)

  -- what differs comes from the number on
  differs_from : (at : ℕ) → DiffersAt h lines at → IsFrom h lines number at
  differs_from at (lacking k event known e none) = inl (k, event, known, e, not_before)
    where
      not_before : k < number → ⊥
      not_before l = none a.line (at_in lines k a.line a.here) (a.same ∙ e)
        where
          a : IsAlike h lines k event
          a = alike k event l known
  differs_from at (differing k event line known e c f none) = inl (k, event, known, e, not_before)
    where
      not_before : k < number → ⊥
      not_before l = none (subst (HasWords h k event) (apart line_of lines a.line line rising (at_in lines k a.line a.here) c (a.same ∙ e ∙ sym f)) a.words)
        where
          a : IsAlike h lines k event
          a = alike k event l known
  differs_from at (unknown line c e none) = go (in_at lines line c)
    where
      go : (j : ℕ) × (slice_get lines j ≡ Some line) → IsFrom h lines number at
      go (j, q) = inr (j, line, q, e, not_before)
        where
          not_before : j < number → ⊥
          not_before l = by (line_before j line l q)
            where
              by : (event : Event) × IsEvent h j event × (line.line ≡ event.line) → ⊥
              by (event, known, s) = none j event known (sym s ∙ e)

  -- the event of the number isn't behind what differs there, and neither is its line
  event_not_behind : (event : Event) (k : ℕ) (e : Event) → IsEvent h number event → IsEvent h k e → (k < number → ⊥) → event.line ≤ e.line
  event_not_behind event k e known here l = not_less event_line h.events number k event e r.lines known here l

  line_not_behind : (line : PlacedLine) (j : ℕ) (other : PlacedLine) → slice_get lines number ≡ Some line → slice_get lines j ≡ Some other → (j < number → ⊥) → line.line ≤ other.line
  line_not_behind line j other q p l = not_less line_of lines number j line other rising q p l

  -- a line of the event of the number stands from the number on
  line_from : (event : Event) (j : ℕ) (line : PlacedLine) → IsEvent h number event → slice_get lines j ≡ Some line → line.line ≡ event.line → j < number → ⊥
  line_from event j line known q e l = go (line_before j line l q)
    where
      go : (before : Event) × IsEvent h j before × (line.line ≡ before.line) → ⊥
      go (before, here, s) = omega (arith, rises event_line h.events j number before event r.lines here known l, s, e)

  -- an event of the line of the number stands from the number on
  event_from : (line : PlacedLine) (k : ℕ) (event : Event) → slice_get lines number ≡ Some line → IsEvent h k event → event.line ≡ line.line → k < number → ⊥
  event_from line k event q known e l = omega (arith, rises line_of lines k number (alike k event l known).line line rising (alike k event l known).here q l, (alike k event l known).same, e)

  short_is : (event : Event) → IsEvent h number event → slice_get lines number ≡ None → IsLeastLine (DiffersAt h lines) event.line
  short_is event known q = (lacking number event known refl none, λ other d. least other (differs_from other d))
    where
      none : (line : PlacedLine) → Contains lines line → line.line ≡ event.line → ⊥
      none line c e = go (in_at lines line c)
        where
          go : (j : ℕ) × (slice_get lines j ≡ Some line) → ⊥
          go (j, p) = line_from event j line known p e (omega (arith, slice_get_within lines j line p, none_past lines number q))

      least : (other : ℕ) → IsFrom h lines number other → event.line ≤ other
      least other (inl (k, e, here, same, l)) = omega (arith, event_not_behind event k e known here l, same)
      least other (inr (j, line, p, same, l)) = absurd (l (omega (arith, slice_get_within lines j line p, none_past lines number q)))

  elsewhere_is : (event : Event) (line : PlacedLine) → IsEvent h number event → slice_get lines number ≡ Some line → line.line ≢ event.line → IsLeastLine (DiffersAt h lines) (min event.line line.line)
  elsewhere_is event line known q ne = (differs (below_or_not event.line line.line), λ other d. least other (differs_from other d))
    where
      no_line : event.line < line.line → (other : PlacedLine) → Contains lines other → other.line ≡ event.line → ⊥
      no_line l other c e = go (in_at lines other c)
        where
          go : (j : ℕ) × (slice_get lines j ≡ Some other) → ⊥
          go (j, p) = absurd (omega (arith, line_not_behind line j other q p (line_from event j other known p e), e, l))

      no_event : line.line < event.line → (k : ℕ) (e : Event) → IsEvent h k e → e.line ≡ line.line → ⊥
      no_event l k e here same = omega (arith, event_not_behind event k e known here (event_from line k e q here same), same, l)

      differs : (event.line < line.line) ⊎ (event.line ≡ line.line) ⊎ (line.line < event.line) → DiffersAt h lines (min event.line line.line)
      differs (inl l) = lacking number event known (omega (arith, l)) (λ other c e. no_line l other c (omega (arith, e, l)))
      differs (inr (inl e)) = absurd (ne (sym e))
      differs (inr (inr l)) = unknown line (at_in lines number line q) (omega (arith, l)) (λ k e here same. no_event l k e here (omega (arith, same, l)))

      least : (other : ℕ) → IsFrom h lines number other → min event.line line.line ≤ other
      least other (inl (k, e, here, same, l)) = omega (arith, event_not_behind event k e known here l, same)
      least other (inr (j, found, p, same, l)) = omega (arith, line_not_behind line j found q p l, same)

  worded_is : (event : Event) (line : PlacedLine) → IsEvent h number event → slice_get lines number ≡ Some line → line.line ≡ event.line → (HasWords h number event line → ⊥) → IsLeastLine (DiffersAt h lines) event.line
  worded_is event line known q e none = (differing number event line known refl (at_in lines number line q) e none, λ other d. least other (differs_from other d))
    where
      least : (other : ℕ) → IsFrom h lines number other → event.line ≤ other
      least other (inl (k, ev, here, same, l)) = omega (arith, event_not_behind event k ev known here l, same)
      least other (inr (j, found, p, same, l)) = omega (arith, line_not_behind line j found q p l, same, e)

  -- the first event that isn't alike shows the least line
  pub unlike_is : (event : Event) (at : ℕ) → IsEvent h number event → IsUnlike h lines number event at → IsLeastLine (DiffersAt h lines) at
  unlike_is event at known (short q a) = subst (IsLeastLine (DiffersAt h lines)) (sym a) (short_is event known q)
  unlike_is event at known (elsewhere line q ne a) = subst (IsLeastLine (DiffersAt h lines)) (sym a) (elsewhere_is event line known q ne)
  unlike_is event at known (worded line q e none a) = subst (IsLeastLine (DiffersAt h lines)) (sym a) (worded_is event line known q e none)

module _ (h : History) (r : IsReadable h) (lines : List PlacedLine) (rising : RisesByLine lines) (number : ℕ) (all : number ≡ length h.events) (alike : AreAlikeUpTo h lines number) where
  -- a line behind those of all events
  pub further_is : (line : PlacedLine) → slice_get lines number ≡ Some line → IsLeastLine (DiffersAt h lines) line.line
  further_is line q = (unknown line (at_in lines number line q) refl none, λ other d. least other (differs_from h r lines rising number (omega (arith, all)) alike other d))
    where
      none : (k : ℕ) (event : Event) → IsEvent h k event → event.line ≡ line.line → ⊥
      none k event known e = event_from h r lines rising number (omega (arith, all)) alike line k event q known e (omega (arith, slice_get_within h.events k event known, all))

      least : (other : ℕ) → IsFrom h lines number other → line.line ≤ other
      least other (inl (k, e, here, same, l)) = absurd (l (omega (arith, slice_get_within h.events k e here, all)))
      least other (inr (j, found, p, same, l)) = omega (arith, line_not_behind h r lines rising number (omega (arith, all)) alike line j found q p l, same)

  pub no_further : slice_get lines number ≡ None → NoLine (DiffersAt h lines)
  no_further q at d = go (differs_from h r lines rising number (omega (arith, all)) alike at d)
    where
      go : IsFrom h lines number at → ⊥
      go (inl (k, e, here, same, l)) = l (omega (arith, slice_get_within h.events k e here, all))
      go (inr (j, found, p, same, l)) = l (omega (arith, slice_get_within lines j found p, none_past lines number q))
