-- A history whose order, spans, versions and removals are those of its log.
use Rattle.std.specs.Prelude.{◌≡◌, ◌<◌, ◌≤◌, ℕ, All, AllPairs}
use Rattle.history_model.specs.Events.{Event, Checkpoint}
use Rattle.history_model.specs.Groups.{AreSpans}
use Rattle.history_model.specs.Histories.{History, IsEvent}
use Rattle.history_model.specs.Incarnations.{AreRemovals}
use Rattle.history_model.specs.Judging.{IsOrder}
use Rattle.history_model.specs.Makers.{AreVersions}

pub record IsReadable (h : History) : Type 0 where
  pub lines : AllPairs (λ a b. a.line < b.line) h.events
  pub numbered : All (λ event. 0 < event.line) h.events
  -- a checkpoint isn't older than the snapshot
  pub checkpoints : (number : ℕ) (event : Event) (revision : ℕ) → IsEvent h number event → event.reading ≡ Checkpoint revision → h.start ≤ revision
  pub order : IsOrder h
  pub spans : AreSpans h
  pub versions : AreVersions h
  pub removals : AreRemovals h

-- two histories of one setup and log, whose answers' bodies are judged alike
pub record HaveOneLog (g h : History) : Type 0 where
  pub start : g.start ≡ h.start
  pub snapshot : g.snapshot ≡ h.snapshot
  pub events : g.events ≡ h.events
  pub body : g.body ≡ h.body
