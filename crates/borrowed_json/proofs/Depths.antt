-- How deep what was read nests.
use Rattle.std.proofs.Common.{◌≡◌, ◌≤◌, ℕ, List, Some, Result, Ok, Err, IfOk}
use Rattle.serde_json.specs.Data.{depth}
use Rattle.serde_json.specs.Read.{read, max_depth}
use Rattle.serde_json.proofs.Nesting.{depth-read}
use Rattle.borrowed_json.specs.View.{view}
use Rattle.borrowed_json.specs.declared.fault.ReadFault.{ReadFault}
use Rattle.borrowed_json.specs.declared.value.JsonValue.{JsonValue}

pub read_nests : (text : List ℕ) (found : Result JsonValue ReadFault) → IfOk found (λ value. read text ≡ Some (view value)) → IfOk found (λ value. depth (view value) ≤ max_depth)
read_nests text (Ok value) is = depth-read text (view value) is
read_nests text (Err fault) is = tt
