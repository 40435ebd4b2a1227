use Rattle.std.proofs.Common.{refl, arith, sym, ◌∙◌}
use Rattle.std.proofs.lemmas.List.{set-get_or}
use Rattle.base_types.proofs.Integers.{ge_from_test, lt_from_test}
use Rattle.strict_order.proofs.Raising.{IsLatestSoFar-end, IsRaised-same, IsRaised-set}
use Rattle.strict_order.proofs.latest.raise.Goals as goal
use Rattle.strict_order.proofs.latest.raise.Goals.{then-lt, else-lt}

pub loop-i-preserved : goal.loop-i-preserved
loop-i-preserved c =
    elim c.if-lt.branch [
      | then-lt w ↦ rw w.marks-is (IsRaised-set _ _ _ _ _ (omega arith) (omega arith) c.loop-i.invariant refl refl (lt_from_test _ _ (sym c.lt.ensures ∙ w.if-lt.true)))
      | else-lt w ↦ rw (w.marks-is, set-get_or) (IsRaised-same _ _ _ _ (omega arith) (omega arith) c.loop-i.invariant (ge_from_test _ _ (sym c.lt.ensures ∙ w.if-lt.false)))
    ]

pub returns : goal.returns
returns c = IsLatestSoFar-end _ _ c.loop-i.i (omega arith) c.loop-i.invariant
