-- Steps of the machine, in the terms of the model of history, and what is wrong with one.
use Rattle.std.specs.Prelude.{◌≡◌, ◌≤◌, Option, Some, None, Contains}
use Rattle.base_types.specs.Reasons.{code_number}
use Rattle.base_types.specs.declared.verdict.claim.Reason.{Reason}
use Rattle.history_model.specs.Checking.{HasStepCode}
use Rattle.history_model.specs.Histories.{History, IsEvent}
use Rattle.history_model.specs.Machine as model
use Rattle.history_model.specs.Machine.{IsAllowed}
use Rattle.history_model.specs.States.{Map}
use Rattle.history_model.specs.Words.{At, word}
use Rattle.object_past.specs.Modelled.{recorded, version_of}
use Rattle.serial_machine.specs.Held.{objects_upto}
use Rattle.serial_machine.specs.declared.scene.Scene.{Scene}
use Rattle.serial_machine.specs.declared.step.Step.{Step}
use Rattle.serial_machine.specs.declared.step.Step.TheVariants.{Put, Remove, Reply}
use Rattle.log_context.specs.Histories.{history_of}
use Rattle.write_groups.specs.Modelled.{event_of}

abbrev pub step_of : Step → model.Step
step_of (Put version) = model.Put (version_of version.now)
step_of (Remove removal place) = model.Remove (record { removal = recorded removal.now; place = place })
step_of (Reply number event place) = model.Reply number (event_of event.now) place

-- a write or an answer of the history
abbrev pub IsOfHistory : History → model.Step → Type 0
IsOfHistory h (model.Put v) = Contains h.versions v
IsOfHistory h (model.Remove cut) = Contains h.removals cut.removal
IsOfHistory h (model.Reply number event place) = IsEvent h number event × (word h number event ≡ At)

-- the step is allowed, or this is the least code why it isn't
abbrev pub IsVerdictOn : History → Map → model.Step → Option Reason → Type 0
IsVerdictOn h map step None = IsAllowed h map step
IsVerdictOn h map step (Some code) = HasStepCode h map step code × ((other : Reason) → HasStepCode h map step other → code_number code ≤ code_number other)

-- what a scene shows
abbrev pub scene_objects : Scene → Map
scene_objects scene = objects_upto (history_of scene.context.now) scene.machine.now scene.upto
