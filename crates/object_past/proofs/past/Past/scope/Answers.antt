use Rattle.object_past.proofs.past.Past.scope.Goals as goal

pub returns-clause-exact : goal.returns-clause-exact
returns-clause-exact c =
    let within = rw c.deref.ensures.value at c.keys_in.ensures.exact in
    let keys = c.self.invariant.keys_of.exact in
    rw (← c.self.view_is) (λ key. (
      (λ among. let held = (within key).0 among in ((keys key).0 held.0, held.1)),
      (λ held. (within key).1 ((keys key).1 held.0, held.1)),
    ))
