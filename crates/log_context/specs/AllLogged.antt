-- The events of a log, batch by batch and once all are put into the terms of the model of history.
use Rattle.std.specs.Prelude.{◌≡◌, List}
use Rattle.audit_event.specs.declared.event.Event.{Event}
use Rattle.base_types.specs.Meaning.{Meaning}
use Rattle.setup_file.specs.declared.setup.Setup.{Setup}
use Rattle.log_context.specs.Classified.{AddsLogged, AddsSelectors, AreClassified, classified_trees}
use Rattle.log_context.specs.LogSelectors.{AreSelectorsOf}
use Rattle.log_context.specs.LogTrees.{event_trees, with_trees}
use Rattle.log_context.specs.Logged.{AreLoggedEvents}
use Rattle.log_context.specs.declared.log.classifying.Classified.{Classified}
use Rattle.log_context.specs.declared.log.event.LoggedEvents.{LoggedEvents}

-- each has its number and its selector, and the trees of their answers were put into the pool, one after another
pub record AreAllLogged (setup : Setup) (recorded : List Event) (old new : List Meaning) (all : LoggedEvents) : Type 0 where
  pub logged : AreLoggedEvents setup new recorded all.events
  pub selectors : AreSelectorsOf setup recorded all.selectors
  pub added : new ≡ with_trees old (event_trees setup recorded)

-- a batch of classified events was put behind those before, and the trees of their answers into the pool
pub record AddsBatch (old new : List Meaning) (batch : List Classified) (before after : LoggedEvents) : Type 0 where
  pub logged : AddsLogged old new batch before.events after.events
  pub selectors : AddsSelectors before.events batch before.selectors after.selectors
  pub trees : new ≡ with_trees old (classified_trees batch)

-- so was this batch, and the events of the next one were classified
pub record AddsAndClassifies (setup : Setup) (next : List Event) (old new : List Meaning) (batch : List Classified) (before after : LoggedEvents) (classified : List Classified) : Type 0 where
  pub added : AddsBatch old new batch before after
  pub ahead : AreClassified setup next classified
