-- What a setup says of an event alone, and what a log says with it once the trees of its answer have numbers.
use Rattle.std.specs.Prelude.{◌≡◌, ◌++◌, List, length}
use Rattle.std.specs.List.{AllZip, flat_map}
use Rattle.base_types.specs.Meaning.{Meaning}
use Rattle.audit_event.specs.declared.event.Event.{Event}
use Rattle.setup_file.specs.declared.setup.Setup.{Setup}
use Rattle.answer_class.specs.Classes.{class_of}
use Rattle.answer_class.specs.Conditions.{conditions_of}
use Rattle.answer_class.specs.Times.{lo, hi}
use Rattle.write_groups.specs.declared.event.LogEvent.{LogEvent}
use Rattle.log_context.specs.Judged.{judged_decision}
use Rattle.log_context.specs.LogLevels.{other_level, omitted_stage}
use Rattle.log_context.specs.LogSelectors.{Selectors, AreSelectorsOf}
use Rattle.log_context.specs.LogTrees.{answer_trees}
use Rattle.log_context.specs.Logged.{preconditions_of, AreLoggedEvents}
use Rattle.log_context.specs.Readings.{reading_of}
use Rattle.log_context.specs.Shown.{IsShownAs}
use Rattle.log_context.specs.declared.log.classifying.Classified.{Classified}

pub record IsClassified (setup : Setup) (event : Event) (classified : Classified) : Type 0 where
  pub line : classified.line ≡ event.line
  pub lo : classified.lo.0 ≡ lo setup event
  pub hi : classified.hi.0 ≡ hi setup event
  pub reading : classified.reading ≡ reading_of event.attrs
  pub preconditions : classified.preconditions ≡ preconditions_of (conditions_of setup event)
  pub answer : classified.answer ≡ class_of setup event
  pub other_level : classified.other_level ≡ other_level setup event
  pub omitted_stage : classified.omitted_stage ≡ omitted_stage setup event
  pub decision : classified.decision ≡ judged_decision setup event

-- the event of the log is this one
pub record IsLoggedAs (trees : List Meaning) (classified : Classified) (logged : LogEvent) : Type 0 where
  pub line : logged.line ≡ classified.line
  pub lo : logged.lo ≡ classified.lo
  pub hi : logged.hi ≡ classified.hi
  pub reading : logged.reading ≡ classified.reading
  pub preconditions : logged.preconditions ≡ classified.preconditions
  pub answer : IsShownAs trees classified.answer logged.answer
  pub other_level : logged.other_level ≡ classified.other_level
  pub omitted_stage : logged.omitted_stage ≡ classified.omitted_stage
  pub decision : logged.decision ≡ classified.decision

abbrev pub AreClassified : Setup → List Event → List Classified → Type 0
AreClassified setup events classified = AllZip (IsClassified setup) events classified

abbrev pub classified_trees : List Classified → List Meaning
classified_trees classified = flat_map (λ one. answer_trees one.answer) classified

-- whichever events come before, these come next
pub record AddsLogged (old new : List Meaning) (classified : List Classified) (before after : List LogEvent) : Type 0 where
  pub adds : (setup : Setup) (events more : List Event) → AreClassified setup more classified → AreLoggedEvents setup old events before → AreLoggedEvents setup new (events ++ more) after

pub record AddsSelectors (before : List LogEvent) (classified : List Classified) (old new : Selectors) : Type 0 where
  pub adds : (setup : Setup) (events more : List Event) → AreClassified setup more classified → length before ≡ length events → AreSelectorsOf setup events old → AreSelectorsOf setup (events ++ more) new
