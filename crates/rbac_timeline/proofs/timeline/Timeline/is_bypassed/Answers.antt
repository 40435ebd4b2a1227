use Rattle.rbac_timeline.proofs.timeline.Timeline.is_bypassed.Goals as goal

pub returns : goal.returns
returns c = let tested = rw c.as_slice.ensures at c.any_group.ensures in rw (← c.self.view_is) tested
