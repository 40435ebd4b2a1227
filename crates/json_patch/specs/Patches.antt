-- What a list of operations makes of a document: each in turn, or the first that can't be done (RFC 6902 section 5).
use Rattle.std.specs.Prelude.{ℕ, ◌+◌, List, [], ◌∷◌, Result, Ok, Err}
use Rattle.base_types.specs.Meaning.{Meaning}
use Rattle.json_patch.specs.declared.fault.ApplyCause.{ApplyCause}
use Rattle.json_patch.specs.declared.fault.ApplyFault.{ApplyFault}
use Rattle.json_patch.specs.declared.fault.ApplyFault.TheVariants.{Operation}
use Rattle.json_patch.specs.declared.op.Op.{Op}
use Rattle.json_patch.specs.Effects.{done}

-- the fault of the operation of this number, where it can't be done
abbrev pub at_operation : ℕ → Result Meaning ApplyCause → (Meaning → Result Meaning ApplyFault) → Result Meaning ApplyFault
at_operation n (Err cause) next = Err (Operation n cause)
at_operation n (Ok t) next = next t

-- the operations from the one of this number on
abbrev pub applied : ℕ → List Op → Meaning → Result Meaning ApplyFault
applied n [] t = Ok t
applied n (op ∷ ops) t = at_operation n (done op t) (applied (n + 1) ops)
