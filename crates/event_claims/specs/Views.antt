-- The history of which a log and what it tells are known.
use Rattle.std.specs.Prelude.{◌≡◌, ◌^◌, ◌≤ℤ◌, ℕ, neg_ℤ, pos, Bool}
use Rattle.base_types.specs.declared.verdict.placed.Places.{Places}
use Rattle.event_claims.specs.declared.view.View.{View}
use Rattle.history_model.specs.Events.{Event}
use Rattle.history_model.specs.Histories.{History, IsEvent}
use Rattle.history_model.specs.Readable.{IsReadable}
use Rattle.local_bounds.specs.Known.{HasClouds, HasSelectors}
use Rattle.object_past.specs.Past.{HasPast}
use Rattle.write_groups.specs.Modelled.{HasEvents, HasTimes}

-- the view is of the history, whose lists' selectors and whose decisions are judged so
pub record IsViewOf {L D : Type 0} (selects : L → ℕ → ℕ → Bool) (gives : D → ℕ → Places → Bool) (view : View L D) (h : History) : Type 0 where
  pub start : h.start ≡ view.start
  pub lag : h.lag ≡ view.lag
  pub events : HasEvents view.log.now h
  -- the moments of a log are far from the ends of the clock
  pub moments : (number : ℕ) (event : Event) → IsEvent h number event → neg_ℤ (pos (2 ^ 101)) ≤ℤ event.lo
  pub times : HasTimes view.windows.now h
  pub past : HasPast view.past.now h
  pub clouds : HasClouds view.clouds.now h
  pub lists : HasSelectors (selects view.lists.now) h
  pub decisions : (number : ℕ) (places : Places) → gives view.decisions.now number places ≡ h.decides number places
  pub readable : IsReadable h
