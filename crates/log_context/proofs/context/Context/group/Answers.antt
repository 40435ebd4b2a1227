use Rattle.log_context.proofs.Membering.{group_found, group_lacking}
use Rattle.log_context.proofs.context.Context.group.Goals as goal

pub returns-in-Some : goal.returns-in-Some
returns-in-Some c =
    let found = rw c.as_slice.ensures at c.in-Some.ensures in
    rw (c.as_slice-in-Some.ensures, ← c.self.view_is) (group_found _ c.self.inside.groups c.self.invariant.groups c.args.revision c.in-Some.group.now found)

pub returns-in-None : goal.returns-in-None
returns-in-None c =
    let none = rw c.as_slice.ensures at c.in-None.ensures in
    rw (← c.self.view_is) (group_lacking _ c.self.inside.groups c.self.invariant.groups c.args.revision none)
