use Rattle.std.proofs.Common.{sym, ◌∙◌}
use Rattle.std.proofs.lemmas.Bool.{both_ways}
use Rattle.rbac_timeline.proofs.Lows.{AreLows-cluster, AreLows-other}
use Rattle.rbac_timeline.proofs.nameless.Nameless.add.Goals as goal

pub returns-then-is_kind-2 : goal.returns-then-is_kind-2
returns-then-is_kind-2 c = λ spans are.
    rw c.lesser.ensures (AreLows-cluster c.args.self.now spans c.args.span.now are (sym c.nameless_kind-kind.ensures ∙ c.is_kind-2.ensures.0 c.if-is_kind-2.true))

pub returns : goal.returns
returns c = λ spans are. AreLows-other c.args.self.now spans c.args.span.now are
    (λ is. both_ways _ c.if-is_kind.false (c.is_kind.ensures.1 (c.nameless_kind-kind.ensures ∙ is)))
    (λ is. both_ways _ c.if-is_kind-2.false (c.is_kind-2.ensures.1 (c.nameless_kind-kind.ensures ∙ is)))
