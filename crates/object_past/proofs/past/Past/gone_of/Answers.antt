use Rattle.std.proofs.Common.{ap, subst, sym, ◌∙◌}
use Rattle.object_past.specs.Indexed.{AreGone, FoundByKey, found_in}
use Rattle.object_past.proofs.past.Past.gone_of.Goals as goal

pub returns-in-Some : goal.returns-in-Some
returns-in-Some c =
    rw (← c.self.view_is) (subst (λ l. AreGone c.self.inside.versions c.self.inside.removals c.args.key.now l) (ap (λ (f : FoundByKey). f.gone) (ap found_in (sym c.in-Some.ensures.value)) ∙ sym c.gone.ensures)
    (c.self.invariant.found.each c.args.key.now).gone)

pub returns-in-None : goal.returns-in-None
returns-in-None c =
    rw (← c.self.view_is) (subst (λ l. AreGone c.self.inside.versions c.self.inside.removals c.args.key.now l) (ap (λ (f : FoundByKey). f.gone) (ap found_in (sym c.in-None.ensures.value)))
    (c.self.invariant.found.each c.args.key.now).gone)
