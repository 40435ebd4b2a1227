-- The operations of a patch, one after another.
use Rattle.std.proofs.Common.{List, ◌++◌, Result, Ok, Err}
use Rattle.json_patch.specs.declared.fault.PatchFault.{PatchFault}
use Rattle.json_patch.specs.declared.op.Op.{Op}

-- these operations before the others
abbrev pub and_these : List Op → Result (List Op) PatchFault → Result (List Op) PatchFault
and_these done (Err fault) = Err fault
and_these done (Ok ops) = Ok (done ++ ops)
