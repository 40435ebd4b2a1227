-- What is found of a setup and its log, before it is put together to a context.
use Rattle.std.specs.Prelude.{◌≡◌, ℕ, List, Option}
use Rattle.std.specs.BTreeMap.{BTreeMap}
use Rattle.audit_event.specs.declared.event.Event.{Event}
use Rattle.base_types.specs.Meaning.{Meaning}
use Rattle.base_types.specs.declared.verdict.claim.Reason.{Reason}
use Rattle.history_model.specs.Histories.{History}
use Rattle.history_model.specs.Readable.{IsReadable}
use Rattle.object_past.specs.Faulted.{AreFaults}
use Rattle.object_past.specs.Past.{HasPast}
use Rattle.past_building.specs.declared.log_past.LogPast.{LogPast}
use Rattle.setup_file.specs.declared.setup.Setup.{Setup}
use Rattle.log_context.specs.Contexts.{IsContext}
use Rattle.log_context.specs.Histories.{body_test}
use Rattle.log_context.specs.Makings.{AreMakersCodes, AreMakingsOf}
use Rattle.log_context.specs.declared.build.LogFindings.{LogFindings}
use Rattle.log_context.specs.declared.build.Parts.{Parts}
use Rattle.log_context.specs.declared.log.Log.{Log}
use Rattle.write_groups.specs.Modelled.{HasEvents}
use Rattle.write_groups.specs.declared.event.LogEvent.{LogEvent}

-- what is found is what a context holds
abbrev pub IsFound : Setup → List Event → List Meaning → Log → LogFindings → Type 0
IsFound setup events trees log found = IsContext (record {
  setup = setup;
  events = events;
  trees = trees;
  snapshot = log.snapshot;
  log = log.events;
  order = found.parts.order.items;
  groups = found.parts.groups;
  spans = found.parts.windows.spans;
  versions = found.parts.past.versions;
  removals = found.parts.past.removals;
  rbac = found.told.timeline;
}) log found.parts.windows found.parts.clouds found.told.faults.items

-- the past of a log that these are parts of
abbrev pub past_with : Parts → LogPast
past_with parts = record {
  order = parts.order;
  windows = parts.windows;
  clouds = parts.clouds;
  groups = parts.groups;
  versions = parts.past.versions;
  judged = parts.judged;
  removals = parts.past.removals;
}

-- the faults of the events of each history with this log, these trees and the past that was found
abbrev pub AreFaultsFor : Setup → List Event → List LogEvent → List Meaning → Parts → List (Option Reason) → Type 0
AreFaultsFor setup events log trees parts faults = (h : History) → IsReadable h → h.start ≡ setup.start → h.body ≡ body_test setup events log trees → HasPast parts.past h
    → ((makings : BTreeMap ℕ (Option Reason)) → AreMakingsOf parts.judged.items makings → AreMakersCodes h makings) → HasEvents log h → AreFaults h faults
