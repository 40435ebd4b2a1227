-- One step after another, up to the first that isn't allowed.
use Rattle.std.proofs.Common.{◌≡◌, ℕ, ◌+◌, ◌<◌, ◌≤◌, List, [], ◌∷◌, ◌++◌, length, get_or, take, drop, map, Option, Some, None, IfSome, All, Contains, sym, ap, ◌∙◌, subst}
use Rattle.std.specs.Prelude.{IfNone}
use Rattle.std.proofs.lemmas.List.{map-append, take_more, take_all, take-append-drop}
use Rattle.std.proofs.lemmas.List.Elements.{Contains-append_right}
use Rattle.base_types.specs.declared.verdict.claim.Reason.{Reason}
use Rattle.base_types.specs.declared.verdict.placed.PlacedLine.{PlacedLine}
use Rattle.history_model.proofs.CutLemmas.{cut_removal}
use Rattle.history_model.proofs.Members.{here, all_at, all_from}
use Rattle.history_model.specs.Checking.{AreAllowed, EachStep, IsStepFault}
use Rattle.history_model.specs.Histories.{History}
use Rattle.history_model.specs.Machine.{Step, Put, Remove, Reply, IsAllowed, Runs, after, after_all, snapshot_map}
use Rattle.history_model.specs.Placed.{placement_of}
use Rattle.history_model.specs.Runs.{IsStep, Placement}
use Rattle.history_model.specs.States.{Map}
use Rattle.write_groups.proofs.Lists.{map_has}
use Rattle.serial_machine.proofs.Gathering.{rest_at}
use Rattle.serial_machine.specs.Held.{HasMade}
use Rattle.serial_machine.specs.Ordered.{AreRows, IsInTurn, row_step}
use Rattle.serial_machine.specs.Running.{IsFirstForbidden}
use Rattle.serial_machine.specs.Stepping.{IsOfHistory, IsVerdictOn}
use Rattle.serial_machine.specs.declared.machine.Machine.{Machine}
use Rattle.serial_machine.specs.declared.rows.Row.{Row}
use Rattle.serial_machine.specs.declared.rows.StepTurn.{StepTurn}

-- the machine made these rows, and each was allowed
pub record HasRun (h : History) (machine : Machine) (rows : List Row) : Type 0 where
  pub made : HasMade h machine (map row_step rows)
  pub runs : Runs h EachStep (snapshot_map h) (map row_step rows)

runs_push : (h : History) (objects : Map) (steps : List Step) (step : Step) → Runs h EachStep objects steps → IsAllowed h (after_all objects steps) step → Runs h EachStep objects (steps ++ step ∷ [])
runs_push h objects [] step runs a = ((λ k. a), tt)
runs_push h objects (s ∷ ss) step runs a = (runs.0, runs_push h (after objects s) ss step runs.1 a)

-- the rows up to one, and it
module _ (rows : List Row) (i : ℕ) (row : Row) (within : i < length rows) (is : row ≡ get_or rows i row) where
  so_far : take (i + 1) rows ≡ take i rows ++ row ∷ []
  so_far = take_more rows i row within ∙ ap (λ z. take i rows ++ z ∷ []) (sym is)

  steps_so_far : map row_step (take (i + 1) rows) ≡ map row_step (take i rows) ++ row_step row ∷ []
  steps_so_far = ap (map row_step) so_far ∙ map-append row_step (take i rows) (row ∷ [])

  pub run_more : (h : History) (old new : Machine) → IsVerdictOn h (after_all (snapshot_map h) (map row_step (take i rows))) (row_step row) None
      → (HasMade h old (map row_step (take i rows)) → HasMade h new (map row_step (take i rows) ++ row_step row ∷ [])) → HasRun h old (take i rows) → HasRun h new (take (i + 1) rows)
  run_more h old new allowed make run = record {
    made = subst (HasMade h new) (sym steps_so_far) (make run.made);
    runs = subst (Runs h EachStep (snapshot_map h)) (sym steps_so_far) (runs_push h (snapshot_map h) (map row_step (take i rows)) (row_step row) run.runs allowed);
  }

  pub row_in : Contains rows row
  row_in = (i, within, sym is)

  pub run_stops : (h : History) (machine : Machine) (line : ℕ) (code : Reason) → IsVerdictOn h (after_all (snapshot_map h) (map row_step (take i rows))) (row_step row) (Some code)
      → line ≡ row.turn.line → HasRun h machine (take i rows) → IsFirstForbidden h rows line code
  run_stops h machine line code verdict e run = record {
    done = take i rows;
    row = row;
    rest = drop (i + 1) rows;
    whole = sym (take-append-drop i rows) ∙ ap (λ l. take i rows ++ l) (rest_at rows i row within is);
    before = run.runs;
    of_line = sym e;
    has = verdict.0;
    least = verdict.1;
  }

pub run_all : (h : History) (machine : Machine) (rows : List Row) (i : ℕ) → length rows ≤ i → HasRun h machine (take i rows) → Runs h EachStep (snapshot_map h) (map row_step rows)
run_all h machine rows i over run = subst (λ l. Runs h EachStep (snapshot_map h) (map row_step l)) (take_all i rows over) run.runs

of_history : (h : History) (n : ℕ) (p : Placement) (step : Step) → IsStep h n p step → IsOfHistory h step
of_history h n p (Put v) is = is.0
of_history h n p (Remove cut) is = cut_removal h.removals p.choice cut is
of_history h n p (Reply number event place) is = (is.1, is.2)

module _ (h : History) (lines : List PlacedLine) (rows : List Row) (are : AreRows h lines rows) where
  pub rows_known : All (λ (row : Row). IsOfHistory h (row_step row)) rows
  rows_known = all_from (λ (row : Row). IsOfHistory h (row_step row)) rows
      (λ row c. of_history h (length h.order) (placement_of h lines) (row_step row) (are.are.sound (row_step row) (map_has row_step rows row c)))

  pub forbidden_is : (line : ℕ) (code : Reason) → IsFirstForbidden h rows line code → IsStepFault h lines line code
  forbidden_is line code f = record {
    steps = map row_step rows;
    are = are.are;
    done = map row_step f.done;
    step = row_step f.row;
    rest = map row_step f.rest;
    whole = ap (map row_step) f.whole ∙ map-append row_step f.done (f.row ∷ f.rest);
    before = f.before;
    of_line = sym (ap (λ (t : StepTurn). t.line) turn) ∙ f.of_line;
    has = f.has;
    least = f.least;
  }
    where
      turn : IsInTurn h f.row
      turn = all_at (IsInTurn h) rows f.row are.turns (subst (λ l. Contains l f.row) (sym f.whole) (Contains-append_right f.done (f.row ∷ f.rest) f.row (here f.row f.rest)))

  pub allowed_are : Runs h EachStep (snapshot_map h) (map row_step rows) → AreAllowed h lines
  allowed_are runs = record { steps = map row_step rows; are = are.are; runs = runs }

pub run_begins : (h : History) (machine : Machine) (rows : List Row) → HasMade h machine [] → HasRun h machine (take 0 rows)
run_begins h machine rows made = record { made = made; runs = tt }

-- what holds of the value holds of it as another fact
pub some_weaker : {X : Type 0} (P Q : X → Type 0) (o : Option X) → ((x : X) → P x → Q x) → IfSome o P → IfSome o Q
some_weaker P Q None f held = held
some_weaker P Q (Some x) f held = f x held

pub none_weaker : {X : Type 0} (P Q : Type 0) (o : Option X) → (P → Q) → IfNone o P → IfNone o Q
none_weaker P Q None f held = f held
none_weaker P Q (Some x) f held = held
