use Rattle.std.proofs.Common.{◌≡◌, take}
use Rattle.log_picture.specs.Page.{unrecorded_writes_in}
use Rattle.log_picture.proofs.page.unrecorded_writes_of.Given as goal
use Rattle.log_context.specs.Histories.{history_of}

-- the unrecorded writes so far
abbrev pub invariant-loop-number : goal.invariant-loop-number
invariant-loop-number l = l.unrecorded_writes.items ≡ unrecorded_writes_in (history_of l.context) (take l.number l.context.log)
