-- What a machine makes of one line of a placement.
use Rattle.std.specs.Prelude.{◌≡◌, ◌≤◌, ◌++◌, ◌∷◌, [], ℕ, ◌⊎◌, List, Option, Some, None, All, Contains}
use Rattle.base_types.specs.Reasons.{code_number}
use Rattle.base_types.specs.declared.verdict.claim.Reason.{Reason}
use Rattle.base_types.specs.declared.verdict.claim.Reason.TheVariants.{U3}
use Rattle.base_types.specs.declared.verdict.placed.PlacedLine.{PlacedLine}
use Rattle.history_model.specs.Checking.{CheckCode, V1, V2, Judged, HasStepCode, HasWords, IsOutside}
use Rattle.history_model.specs.Events.{Event}
use Rattle.history_model.specs.Histories.{History, Version, IsEvent}
use Rattle.history_model.specs.Machine.{Step, Put, Remove, Reply, IsAllowed, Precedes, after_all, snapshot_map, step_place}
use Rattle.history_model.specs.Placed.{answer_place, decision_places}
use Rattle.history_model.specs.States.{Map}
use Rattle.history_model.specs.Words.{Word, Makes, Removes, At, Strays, Nothing, word}
use Rattle.serial_machine.specs.Checks.{check_code}
use Rattle.serial_machine.specs.Held.{HasMade, end_of_steps, unmade_puts}
use Rattle.serial_machine.specs.Places.{AreOutOfCaches}
use Rattle.serial_machine.specs.declared.fault.CheckFault.{CheckFault}
use Rattle.serial_machine.specs.declared.fault.CheckFault.TheVariants as fault
use Rattle.serial_machine.specs.declared.machine.Machine.{Machine}

-- the line is that of this event, with its words
pub record IsLineOf (h : History) (placed : PlacedLine) (number : ℕ) (event : Event) : Type 0 where
  pub known : IsEvent h number event
  pub of_line : event.line ≡ placed.line
  pub words : HasWords h number event placed

-- the line has a place that its event can't have
abbrev pub IsAstray : History → PlacedLine → ℕ → Event → Type 0
IsAstray h placed number event = IsOutside h event (word h number event) (answer_place placed.answer) ⊎ AreOutOfCaches h event (decision_places placed.decision)

-- the step of an event with this word at the place; strays, and events that say nothing, have none
abbrev pub IsStepAs : History → ℕ → Event → ℕ → Word → Step → Type 0
IsStepAs h number event place (Makes m) step = (v : Version) × Contains h.versions v × (v.revision ≡ m.item.revision) × (step ≡ Put v)
IsStepAs h number event place (Removes removal) step = step ≡ Remove (record { removal = removal; place = place })
IsStepAs h number event place At step = step ≡ Reply number event place
IsStepAs h number event place Strays step = ⊥
IsStepAs h number event place Nothing step = ⊥

-- the step of the line
pub record IsStepOf (h : History) (placed : PlacedLine) (number : ℕ) (event : Event) (step : Step) : Type 0 where
  pub line : IsLineOf h placed number event
  pub inside : IsAstray h placed number event → ⊥
  pub as_word : IsStepAs h number event (answer_place placed.answer) (word h number event) step

-- what the steps left, and behind them the versions without a maker up to the place of this one
abbrev pub map_before : History → List Step → Step → Map
map_before h done step = after_all (snapshot_map h) (done ++ unmade_puts h (end_of_steps h.start done) (step_place step))

-- the line doesn't stand before a step that was made
abbrev pub StandsBehind : History → List Step → PlacedLine → Type 0
StandsBehind h done placed = (number : ℕ) (event : Event) (step : Step) → IsStepOf h placed number event step → All (λ earlier. Precedes h step earlier → ⊥) done

-- The line is right: its step is allowed and was made behind the versions without a maker up to its place. A line
-- whose event says nothing makes nothing.
pub data IsLineMade (h : History) (done : List Step) (placed : PlacedLine) (old new : Machine) : Type 0 where
  stands : (number : ℕ) → (event : Event) → (step : Step) → IsStepOf h placed number event step → IsAllowed h (map_before h done step) step
      → HasMade h new (done ++ unmade_puts h (end_of_steps h.start done) (step_place step) ++ step ∷ []) → IsLineMade h done placed old new
  nowhere : (number : ℕ) → (event : Event) → IsLineOf h placed number event → (IsAstray h placed number event → ⊥) → word h number event ≡ Nothing
      → new ≡ old → IsLineMade h done placed old new

-- why the line is wrong
pub data IsWrong (h : History) (done : List Step) (placed : PlacedLine) (code : CheckCode) : Type 0 where
  unlike : code ≡ V1 → ((number : ℕ) (event : Event) → IsLineOf h placed number event → ⊥) → IsWrong h done placed code
  astray : code ≡ V2 → (number : ℕ) → (event : Event) → IsLineOf h placed number event → IsAstray h placed number event → IsWrong h done placed code
  strays : code ≡ Judged U3 → (number : ℕ) → (event : Event) → IsLineOf h placed number event → (IsAstray h placed number event → ⊥) → word h number event ≡ Strays
      → IsWrong h done placed code
  forbidden : (number : ℕ) → (event : Event) → (step : Step) → (reason : Reason) → code ≡ Judged reason → IsStepOf h placed number event step
      → HasStepCode h (map_before h done step) step reason
      → ((other : Reason) → HasStepCode h (map_before h done step) step other → code_number reason ≤ code_number other) → IsWrong h done placed code

-- the fault is that of the line; want of memory says nothing
abbrev pub IsFaultOfLine : History → List Step → PlacedLine → CheckFault → Type 0
IsFaultOfLine h done placed (fault.Wrong line code) = (line ≡ placed.line) × IsWrong h done placed (check_code code)
IsFaultOfLine h done placed fault.OutOfMemory = Unit {0}

-- The line is right and has this step, or none, as its event says nothing.
abbrev pub IsRightLine : History → List Step → PlacedLine → Option Step → Type 0
IsRightLine h done placed None = (number : ℕ) × (event : Event) × IsLineOf h placed number event × (IsAstray h placed number event → ⊥) × (word h number event ≡ Nothing)
IsRightLine h done placed (Some step) = (number : ℕ) × (event : Event) × IsStepOf h placed number event step × IsAllowed h (map_before h done step) step
