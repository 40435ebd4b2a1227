use Rattle.object_past.proofs.incarnation.extend.Goals as goal

pub returns-then-go_on : goal.returns-then-go_on
returns-then-go_on c = c.go_on.ensures.yes c.if-go_on.true
