-- The steps of a placement, and the order in which they are made.
use Rattle.std.specs.Prelude.{◌≡◌, ℕ, ◌+◌, Bool, true, false, nat_lt, List, [], ◌∷◌, Option, Some, None, filter, map, All, length, option_and_then, slice_get}
use Rattle.std.specs.Ordering.{ordering_then, bool_cmp, nat_cmp}
use Rattle.std.specs.declared.cmp.Ordering.{Ordering}
use Rattle.base_types.specs.declared.verdict.placed.PlacedAnswer.{PlacedAnswer}
use Rattle.base_types.specs.declared.verdict.placed.PlacedAnswer.TheVariants as placed
use Rattle.base_types.specs.declared.verdict.placed.PlacedLine.{PlacedLine}
use Rattle.history_model.specs.Events.{Event}
use Rattle.history_model.specs.Histories.{History, Version, Removal}
use Rattle.history_model.specs.Machine.{Step, Put, Remove, Reply, step_line, step_place}
use Rattle.history_model.specs.Placed.{line_place, placement_of}
use Rattle.history_model.specs.Runs.{AreSteps}
use Rattle.serial_machine.specs.Stepping.{step_of}
use Rattle.serial_machine.specs.declared.rows.Row.{Row}
use Rattle.serial_machine.specs.declared.rows.StepTurn.{StepTurn}

abbrev pub versions_above : ℕ → List Version → List Version
versions_above start versions = filter (λ v. nat_lt start v.revision) versions

-- the writes of all versions above the start
abbrev pub puts_above : ℕ → List Version → List Step
puts_above start versions = map Put (versions_above start versions)

abbrev pub placed_puts : History → List Step
placed_puts h = puts_above h.start h.versions

-- each removal, where the line of its event says
abbrev pub placed_removal : List PlacedLine → Removal → Step
placed_removal lines removal = Remove (record { removal = removal; place = line_place (slice_get lines removal.range.event) })

abbrev pub placed_removals : History → List PlacedLine → List Step
placed_removals h lines = map (placed_removal lines) h.removals

-- where an answer stands
abbrev pub placed_at : PlacedAnswer → Option ℕ
placed_at (placed.Made revision) = None
placed_at (placed.Removed place) = None
placed_at (placed.At place) = Some place
placed_at placed.Nowhere = None

abbrev pub reply_before : ℕ → Event → Option ℕ → List Step → List Step
reply_before number event None steps = steps
reply_before number event (Some place) steps = Reply number event place ∷ steps

-- the answers of events that are numbered from this number on, where their lines say
abbrev pub replies_from : List PlacedLine → ℕ → List Event → List Step
replies_from lines number [] = []
replies_from lines number (event ∷ events) =
    reply_before number event (option_and_then (λ line. placed_at line.answer) (slice_get lines number)) (replies_from lines (number + 1) events)

abbrev pub placed_replies : History → List PlacedLine → List Step
placed_replies h lines = replies_from lines 0 h.events

abbrev pub is_answer : Step → Bool
is_answer (Put v) = false
is_answer (Remove cut) = false
is_answer (Reply number event place) = true

-- when a step is made
abbrev pub step_turn : History → Step → StepTurn
step_turn h step = record { place = step_place step; is_answer = is_answer step; line = step_line h step }

-- by place, writes before answers, then by line
abbrev pub step_turn_cmp : StepTurn → StepTurn → Ordering
step_turn_cmp a b = ordering_then (nat_cmp a.place b.place) (ordering_then (bool_cmp a.is_answer b.is_answer) (nat_cmp a.line b.line))

abbrev pub row_step : Row → Step
row_step row = step_of row.step

-- the row has its step's turn
abbrev pub IsInTurn : History → Row → Type 0
IsInTurn h row = row.turn ≡ step_turn h (row_step row)

-- the rows of these steps
pub record AreRowsOf (h : History) (steps : List Step) (rows : List Row) : Type 0 where
  pub turns : All (IsInTurn h) rows
  pub are : map row_step rows ≡ steps

-- the rows of a placement's steps, in the machine's order
pub record AreRows (h : History) (lines : List PlacedLine) (rows : List Row) : Type 0 where
  pub turns : All (IsInTurn h) rows
  pub are : AreSteps h (length h.order) (placement_of h lines) (map row_step rows)
