use Rattle.std.proofs.Common.{arith}
use Rattle.std.proofs.lemmas.List.Elements.{Contains-get_or}
use Rattle.rbac_timeline.specs.declared.history.Stored.{Stored}
use Rattle.base_types.proofs.Upto.{greatest_upto, last_upto, none_upto}
use Rattle.rbac_timeline.proofs.history.History.latest.Goals as goal

pub returns-then-upto-eq0-clause-none : goal.returns-then-upto-eq0-clause-none
returns-then-upto-eq0-clause-none c =
    let upto = rw c.as_slice.ensures.value at c.count_upto-upto.ensures in
    rw (← c.self.view_is) (none_upto (λ (s : Stored). s.revision) c.self.inside.stored.items c.args.place _ upto.parts c.if-upto-eq0.true)

pub returns-clause-some : goal.returns-clause-some
returns-clause-some c =
    let upto = rw c.as_slice.ensures.value at c.count_upto-upto.ensures in
    let bound = upto.bound in
    rw (c.index.ensures, ← c.self.view_is) (record {
      among = Contains-get_or c.self.inside.stored.items _ _ (omega arith);
      upto = last_upto (λ (s : Stored). s.revision) c.self.inside.stored.items c.args.place _ _ upto.parts (omega arith) bound;
      latest = greatest_upto (λ (s : Stored). s.revision) c.self.inside.stored.items c.args.place _ _ c.self.invariant upto.parts (omega arith) bound;
    })
