use Rattle.std.proofs.Common.{ap, subst, sym, ◌∙◌}
use Rattle.object_past.specs.Incarnated.{AreIncarnations}
use Rattle.object_past.specs.Indexed.{FoundByKey, found_in}
use Rattle.object_past.proofs.Cut.{recorded_of}
use Rattle.object_past.proofs.past.Past.incarnations.Goals as goal

pub returns-in-Some : goal.returns-in-Some
returns-in-Some c =
    rw (← c.self.view_is) (subst (AreIncarnations (recorded_of c.self.inside.versions c.self.inside.removals) c.args.key.now)
    (ap (λ (f : FoundByKey). f.incarnations) (ap found_in (sym c.in-Some.ensures.value)) ∙ sym c.incarnations.ensures) (c.self.invariant.found.each c.args.key.now).incarnations)

pub returns-in-None : goal.returns-in-None
returns-in-None c =
    rw (← c.self.view_is) (subst (AreIncarnations (recorded_of c.self.inside.versions c.self.inside.removals) c.args.key.now)
    (ap (λ (f : FoundByKey). f.incarnations) (ap found_in (sym c.in-None.ensures.value))) (c.self.invariant.found.each c.args.key.now).incarnations)
