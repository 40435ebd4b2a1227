use Rattle.std.proofs.Common.{sym, ◌∙◌}
use Rattle.std.proofs.lemmas.Bool.{both_ways}
use Rattle.rbac_timeline.proofs.Finding.{AreFound-cluster, AreFound-namespace, AreFound-other}
use Rattle.rbac_timeline.proofs.unsure.Unsure.add.Goals as goal

pub returns-then-is_kind : goal.returns-then-is_kind
returns-then-is_kind c = λ keys are. AreFound-namespace c.args.self.now keys c.args.key.now are c.add_under.new.index
    (sym c.kind_of_key-kind.ensures ∙ c.is_kind.ensures.0 c.if-is_kind.true) c.in_ok-add_under.ensures

pub returns-then-is_kind-2 : goal.returns-then-is_kind-2
returns-then-is_kind-2 c = λ keys are. AreFound-cluster c.args.self.now keys c.args.key.now are c.add.new.self
    (sym c.kind_of_key-kind.ensures ∙ c.is_kind-2.ensures.0 c.if-is_kind-2.true) c.in_ok-add.ensures

pub returns : goal.returns
returns c = λ keys are. AreFound-other c.args.self.now keys c.args.key.now are
    (λ is. both_ways _ c.if-is_kind.false (c.is_kind.ensures.1 (c.kind_of_key-kind.ensures ∙ is)))
    (λ is. both_ways _ c.if-is_kind-2.false (c.is_kind-2.ensures.1 (c.kind_of_key-kind.ensures ∙ is)))
