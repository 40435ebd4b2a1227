use Rattle.std.proofs.Common.{subst, sym}
use Rattle.object_past.specs.Indexed.{AreKeys}
use Rattle.object_past.proofs.past.Past.keys.Goals as goal

pub returns-clause-exact : goal.returns-clause-exact
returns-clause-exact c =
    rw (← c.self.view_is) (subst (AreKeys c.self.inside.versions) (sym c.as_slice.ensures.value) c.self.invariant.keys_of).exact
