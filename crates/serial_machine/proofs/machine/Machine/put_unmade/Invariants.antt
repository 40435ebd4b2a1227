use Rattle.std.proofs.Common.{◌++◌, List, take}
use Rattle.history_model.specs.Machine.{Step}
use Rattle.log_context.specs.Histories.{history_of}
use Rattle.serial_machine.proofs.Lating.{late_in}
use Rattle.serial_machine.specs.Held.{HasMade}
use Rattle.serial_machine.proofs.machine.Machine.put_unmade.Given as goal

-- those so far are put
abbrev pub invariant-loop-version : goal.invariant-loop-version
invariant-loop-version l = (done : List Step) → HasMade (history_of l.context) l.initial.self done
    → HasMade (history_of l.context) l.self (done ++ late_in l.place l.upto (take l.version-index l.versions))
