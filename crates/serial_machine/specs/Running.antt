-- The first step of a list that isn't allowed.
use Rattle.std.specs.Prelude.{◌≡◌, ◌≤◌, ◌++◌, ◌∷◌, ℕ, List, map}
use Rattle.base_types.specs.Reasons.{code_number}
use Rattle.base_types.specs.declared.verdict.claim.Reason.{Reason}
use Rattle.history_model.specs.Checking.{EachStep, HasStepCode}
use Rattle.history_model.specs.Histories.{History}
use Rattle.history_model.specs.Machine.{Runs, after_all, snapshot_map}
use Rattle.serial_machine.specs.Ordered.{row_step}
use Rattle.serial_machine.specs.declared.rows.Row.{Row}

-- the steps before it are allowed, and it has this line and this least code
pub record IsFirstForbidden (h : History) (rows : List Row) (at : ℕ) (code : Reason) : Type 0 where
  pub done : List Row
  pub row : Row
  pub rest : List Row
  pub whole : rows ≡ done ++ row ∷ rest
  pub before : Runs h EachStep (snapshot_map h) (map row_step done)
  pub of_line : row.turn.line ≡ at
  pub has : HasStepCode h (after_all (snapshot_map h) (map row_step done)) (row_step row) code
  pub least : (other : Reason) → HasStepCode h (after_all (snapshot_map h) (map row_step done)) (row_step row) other → code_number code ≤ code_number other
