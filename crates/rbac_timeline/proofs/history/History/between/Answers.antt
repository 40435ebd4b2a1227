use Rattle.rbac_timeline.proofs.history.History.between.Goals as goal

pub between-requires : goal.between-requires
between-requires c = rw c.as_slice.ensures.value c.self.invariant

pub returns : goal.returns
returns c = rw (← c.self.view_is) (rw c.as_slice.ensures.value at c.between.ensures)
