-- One line of a placement, and its step.
use Rattle.std.proofs.Common.{◌≡◌, ◌≢◌, ℕ, zero, suc, ◌<◌, ◌==◌, true, List, [], ◌∷◌, ◌++◌, length, map, find, Some, None, slice_get, Contains, refl, sym, ap, ◌∙◌, subst, arith}
use mathlib.Core.Path.{fun_ext}
use Rattle.std.specs.Prelude.{option_map}
use Rattle.std.proofs.lemmas.Option.{slice_get-map, same_Some}
use Rattle.base_types.specs.declared.verdict.claim.Reason.{Reason}
use Rattle.base_types.specs.declared.verdict.placed.PlacedLine.{PlacedLine}
use Rattle.history_model.proofs.Fits.{same_event}
use Rattle.history_model.proofs.Members.{apart, at_in, at_apart}
use Rattle.history_model.proofs.WordLemmas.{IsMadeBy, found_in, not_found, eq_test, test_eq, word_makes, word_removes}
use Rattle.history_model.specs.Checking.{HasWords, Judged}
use Rattle.history_model.specs.Events.{Event}
use Rattle.history_model.specs.Groups.{Making}
use Rattle.history_model.specs.Histories as histories
use Rattle.history_model.specs.Histories.{History, IsEvent}
use Rattle.history_model.specs.Machine.{Step, Put, Remove, Reply, after_all, snapshot_map, step_place, event_line}
use Rattle.history_model.specs.Readable.{IsReadable}
use Rattle.history_model.specs.Words.{Word, Makes, Removes, At, Strays, Nothing, word}
use Rattle.history_model.specs.Placed.{answer_place}
use Rattle.object_past.specs.Modelled.{recorded, version_of}
use Rattle.object_past.specs.declared.removal.Removal.{Removal}
use Rattle.object_past.specs.declared.version.Version.{Version}
use Rattle.write_groups.proofs.Lists.{map_from, map_has}
use Rattle.write_groups.specs.Modelled.{event_of}
use Rattle.write_groups.specs.declared.event.LogEvent.{LogEvent}
use Rattle.serial_machine.proofs.Unmade.{shown_upto, shown_here}
use Rattle.serial_machine.specs.Held.{HasMade, end_of_steps, objects_upto, unmade_puts}
use Rattle.serial_machine.specs.Made.{IsAstray, IsLineOf, IsLineMade, IsRightLine, IsStepAs, IsStepOf, IsWrong, map_before, forbidden, nowhere, stands}
use Rattle.serial_machine.specs.Stepping.{IsOfHistory, IsVerdictOn}
use Rattle.serial_machine.specs.declared.machine.Machine.{Machine}

-- the events of a history are those of its log
pub event_in : (log : List LogEvent) (number : ℕ) (event : Event) → slice_get (map event_of log) number ≡ Some event → (e : LogEvent) × (slice_get log number ≡ Some e) × (event_of e ≡ event)
event_in [] number event e = absurd (cc e)
event_in (x ∷ xs) zero event e = (x, refl, same_Some (event_of x) event e)
event_in (x ∷ xs) (suc number) event e = event_in xs number event e

pub event_there : (log : List LogEvent) (number : ℕ) → number < length log → (event : Event) × (slice_get (map event_of log) number ≡ Some event)
event_there [] number l = absurd (omega arith)
event_there (x ∷ xs) zero l = (event_of x, refl)
event_there (x ∷ xs) (suc number) l = event_there xs number (omega arith)

-- what a scene shows is what the steps left
pub scene_is : (h : History) (machine : Machine) (done : List Step) (step : Step) (place : ℕ) → place ≡ step_place step → HasMade h machine done → objects_upto h machine place ≡ map_before h done step
scene_is h machine done step place e made = fun_ext (λ key. shown_upto h machine done place key made)
    ∙ ap (λ z. after_all (snapshot_map h) (done ++ unmade_puts h (end_of_steps h.start done) z)) e

pub scene_here : (h : History) (machine : Machine) (done : List Step) → HasMade h machine done → objects_upto h machine machine.place ≡ after_all (snapshot_map h) done
scene_here h machine done made = fun_ext (λ key. shown_here h machine done key made)

-- a step of a line is one of the history
pub step_known : (h : History) (number : ℕ) (event : Event) (place : ℕ) (step : Step) → IsEvent h number event → IsStepAs h number event place (word h number event) step → IsOfHistory h step
step_known h number event place step known as' = go (word h number event) refl as'
  where
    go : (w : Word) → word h number event ≡ w → IsStepAs h number event place w step → IsOfHistory h step
    go (Makes m) e (v, c, r, s) = subst (IsOfHistory h) (sym s) c
    go (Removes removal) e s = subst (IsOfHistory h) (sym s) (word_removes h number event removal e).0
    go At e s = subst (IsOfHistory h) (sym s) (known, e)
    go Strays e s = absurd s
    go Nothing e s = absurd s

-- an event without a step that is no stray says nothing
pub nothing_left : (h : History) (number : ℕ) (event : Event) (place : ℕ) → IsReadable h → IsEvent h number event
    → ((step : Step) → IsStepAs h number event place (word h number event) step → ⊥) → (word h number event ≡ Strays → ⊥) → word h number event ≡ Nothing
nothing_left h number event place r known none stray = go (word h number event) refl none
  where
    go : (w : Word) → word h number event ≡ w → ((step : Step) → IsStepAs h number event place w step → ⊥) → word h number event ≡ Nothing
    go (Makes m) e n = absurd (made (word_makes h number event m r known e))
      where
        made : (v : histories.Version) × IsMadeBy h m v × (m.number ≡ number) × (m.event ≡ event) → ⊥
        made (v, b, p, q) = n (Put v) (v, b.known, b.at_revision, refl)
    go (Removes removal) e n = absurd (n (Remove (record { removal = removal; place = place })) refl)
    go At e n = absurd (n (Reply number event place) refl)
    go Strays e n = absurd (stray e)
    go Nothing e n = e

-- the version that a write made
pub made_step : (h : History) (versions : List Version) (number : ℕ) (event : Event) (place revision : ℕ) (m : Making) (v : Version) → h.versions ≡ map version_of versions
    → word h number event ≡ Makes m → m.item.revision ≡ revision → Some v ≡ find (λ w. w.revision == revision) versions → IsStepAs h number event place (word h number event) (Put (version_of v))
made_step h versions number event place revision m v past e at found = subst (λ w. IsStepAs h number event place w (Put (version_of v))) (sym e)
    (version_of v, subst (λ vs. Contains vs (version_of v)) (sym past) (map_has version_of versions v f.0), eq_test v.revision revision f.1 ∙ sym at, refl)
  where
    f : Contains versions v × ((v.revision == revision) ≡ true)
    f = found_in (λ (w : Version). w.revision == revision) versions v (sym found)

pub unmade_step : (h : History) (versions : List Version) (number : ℕ) (event : Event) (place revision : ℕ) (m : Making) (step : Step) → h.versions ≡ map version_of versions
    → word h number event ≡ Makes m → m.item.revision ≡ revision → None ≡ find (λ w. w.revision == revision) versions → IsStepAs h number event place (word h number event) step → ⊥
unmade_step h versions number event place revision m step past e at none as' = go (subst (λ w. IsStepAs h number event place w step) e as')
  where
    go : IsStepAs h number event place (Makes m) step → ⊥
    go (v, c, r, s) = by (map_from version_of versions v (subst (λ vs. Contains vs v) past c))
      where
        by : (w : Version) × Contains versions w × (version_of w ≡ v) → ⊥
        by (w, d, q) = not_found (λ (w : Version). w.revision == revision) versions (sym none) w d (test_eq w.revision revision (ap (λ (z : histories.Version). z.revision) q ∙ r ∙ at))

-- the removal of an event
module _ (h : History) (removals : List Removal) (number : ℕ) (event : Event) (place : ℕ) (removal : histories.Removal) (r : IsReadable h) (past : h.removals ≡ map recorded removals) (e : word h number event ≡ Removes removal) where
  of_word : Contains h.removals removal × (removal.range.event ≡ number)
  of_word = word_removes h number event removal e

  pub removal_step : (found : Removal) → Some found ≡ find (λ z. z.range.event == number) removals → IsStepAs h number event place (word h number event) (Remove (record { removal = recorded found; place = place }))
  removal_step found f = subst (λ w. IsStepAs h number event place w (Remove (record { removal = recorded found; place = place }))) (sym e)
      (ap (λ z. Remove (record { removal = z; place = place })) same)
    where
      g : Contains removals found × ((found.range.event == number) ≡ true)
      g = found_in (λ (z : Removal). z.range.event == number) removals found (sym f)

      same : recorded found ≡ removal
      same = apart (λ (z : histories.Removal). z.range.event) h.removals (recorded found) removal r.removals.rising (subst (λ rs. Contains rs (recorded found)) (sym past) (map_has recorded removals found g.0)) of_word.0
          (eq_test found.range.event number g.1 ∙ sym of_word.1)

  pub no_removal : None ≡ find (λ (z : Removal). z.range.event == number) removals → ⊥
  no_removal f = by (map_from recorded removals removal (subst (λ rs. Contains rs removal) past of_word.0))
    where
      by : (w : Removal) × Contains removals w × (recorded w ≡ removal) → ⊥
      by (w, d, q) = not_found (λ (z : Removal). z.range.event == number) removals (sym f) w d (test_eq w.range.event number (ap (λ (z : histories.Removal). z.range.event) q ∙ of_word.1))

pub event_within : (log : List LogEvent) (number : ℕ) (event : Event) → slice_get (map event_of log) number ≡ Some event → number < length log
event_within [] number event e = absurd (cc e)
event_within (x ∷ xs) zero event e = omega arith
event_within (x ∷ xs) (suc number) event e = let l : number < length xs = event_within xs number event e in omega arith

-- the event that is found in the log
pub event_known : (log found : List LogEvent) (number : ℕ) (e : LogEvent) → found ≡ log → Some e ≡ slice_get found number → slice_get (map event_of log) number ≡ Some (event_of e)
event_known log found number e same at = slice_get-map event_of log number ∙ ap (λ l. option_map event_of (slice_get l number)) (sym same) ∙ ap (option_map event_of) (sym at)

pub event_unknown : (log found : List LogEvent) (number : ℕ) (event : Event) → found ≡ log → None ≡ slice_get found number → slice_get (map event_of log) number ≡ Some event → ⊥
event_unknown log found number event same none known = go (event_in log number event known)
  where
    go : (e : LogEvent) × (slice_get log number ≡ Some e) × (event_of e ≡ event) → ⊥
    go (e, at, is) = let both : None ≡ Some e = none ∙ ap (λ l. slice_get l number) same ∙ at in cc both

pub line_found : (h : History) (log : List LogEvent) (number : ℕ) (e : LogEvent) → h.events ≡ map event_of log → Some e ≡ slice_get log number → e.line ≡ event_line (slice_get h.events number)
line_found h log number e has at = sym (ap event_line (ap (λ l. slice_get l number) has ∙ event_known log log number e refl at))

pub line_none : (h : History) (log : List LogEvent) (number : ℕ) → h.events ≡ map event_of log → None ≡ slice_get log number → 0 ≡ event_line (slice_get h.events number)
line_none h log number has none = sym (ap event_line (ap (λ l. slice_get l number) has ∙ slice_get-map event_of log number ∙ ap (option_map event_of) (sym none)))

-- the line of an event
pub line_of : (log : List LogEvent) (number line : ℕ) → ((e : LogEvent) → slice_get log number ≡ Some e → e.line ≡ line) → (event : Event) → slice_get (map event_of log) number ≡ Some event → event.line ≡ line
line_of log number line of event known = go (event_in log number event known)
  where
    go : (e : LogEvent) × (slice_get log number ≡ Some e) × (event_of e ≡ event) → event.line ≡ line
    go (e, at, is) = ap (λ (z : Event). z.line) (sym is) ∙ of e at

pub no_line : (h : History) (log : List LogEvent) (placed : PlacedLine) → h.events ≡ map event_of log → ((e : LogEvent) → Contains log e → e.line ≢ placed.line)
    → (number : ℕ) (event : Event) → IsLineOf h placed number event → ⊥
no_line h log placed has none number event line = go (event_in log number event (subst (λ es. slice_get es number ≡ Some event) has line.known))
  where
    go : (e : LogEvent) × (slice_get log number ≡ Some e) × (event_of e ≡ event) → ⊥
    go (e, at, is) = none e (at_in log number e at) (ap (λ (z : Event). z.line) is ∙ line.of_line)

pub no_words : (h : History) (placed : PlacedLine) (number : ℕ) (event : Event) → IsReadable h → IsEvent h number event → event.line ≡ placed.line → (HasWords h number event placed → ⊥)
    → (other : ℕ) (found : Event) → IsLineOf h placed other found → ⊥
no_words h placed number event r known of none other found line = none (subst (λ e. HasWords h number e placed) (same_event h number found event (subst (λ n. IsEvent h n found) same line.known) known)
    (subst (λ n. HasWords h n found placed) same line.words))
  where
    same : other ≡ number
    same = at_apart (λ (z : Event). z.line) h.events other number found event r.lines line.known known (line.of_line ∙ sym of)

-- a line that stands at its place, and its step
module _ (h : History) (done : List Step) (placed : PlacedLine) (number : ℕ) (event : Event) (line : IsLineOf h placed number event) (inside : IsAstray h placed number event → ⊥)
    (place : ℕ) (at : place ≡ answer_place placed.answer) (step : Step) (as' : IsStepAs h number event place (word h number event) step) where
  of_line : IsStepOf h placed number event step
  of_line = record { line = line; inside = inside; as_word = subst (λ p. IsStepAs h number event p (word h number event) step) at as' }

  pub step_wrong : (machine : Machine) (upto : ℕ) (code : Reason) → upto ≡ step_place step → HasMade h machine done → IsVerdictOn h (objects_upto h machine upto) step (Some code)
      → IsWrong h done placed (Judged code)
  step_wrong machine upto code e made verdict = forbidden number event step code refl of_line has.0 has.1
    where
      has : IsVerdictOn h (map_before h done step) step (Some code)
      has = subst (λ m. IsVerdictOn h m step (Some code)) (scene_is h machine done step upto e made) verdict

  pub step_right : (machine : Machine) (upto : ℕ) → upto ≡ step_place step → HasMade h machine done → IsVerdictOn h (objects_upto h machine upto) step None
      → IsRightLine h done placed (Some step)
  step_right machine upto e made verdict = (number, event, of_line, subst (λ m. IsVerdictOn h m step None) (scene_is h machine done step upto e made) verdict)

-- a right line, once its step is made
pub line_made : (h : History) (done : List Step) (placed : PlacedLine) (old mid new : Machine) (step : Step) (upto : ℕ) → IsRightLine h done placed (Some step) → upto ≡ step_place step
    → HasMade h mid (done ++ unmade_puts h (end_of_steps h.start done) upto)
    → (IsOfHistory h step → HasMade h mid (done ++ unmade_puts h (end_of_steps h.start done) upto) → HasMade h new (done ++ unmade_puts h (end_of_steps h.start done) upto ++ step ∷ []))
    → IsLineMade h done placed old new
line_made h done placed old mid new step upto (number, event, of, allowed) e put make = stands number event step of allowed
    (subst (λ p. HasMade h new (done ++ unmade_puts h (end_of_steps h.start done) p ++ step ∷ [])) e (make (step_known h number event (answer_place placed.answer) step of.line.known of.as_word) put))

pub line_nowhere : (h : History) (done : List Step) (placed : PlacedLine) (old : Machine) → IsRightLine h done placed None → IsLineMade h done placed old old
line_nowhere h done placed old (number, event, line, inside, none) = nowhere number event line inside none refl
