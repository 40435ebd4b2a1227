use Rattle.std.proofs.Common.{refl, sym, ◌∙◌}
use Rattle.std.specs.Prelude.{option_map}
use Rattle.answer_class.specs.Requests.{is_filled}
use Rattle.answer_class.proofs.Filled.{held, held_first, held_several, one}
use Rattle.answer_class.proofs.lists.one_at_most.Goals.{then-is_filled+else-is_some, else-is_filled}
use Rattle.answer_class.proofs.lists.one_at_most.Goals as goal

pub returns-then-is_some : goal.returns-then-is_some
returns-then-is_some c =
    held_several (is_filled c.args.name.now) c.args.pairs.now c.loop-pair.pair-index c.pair-item.result c.loop-pair.found (λ pair. pair.now) c.loop-pair-test.true c.pair-item.is
    (sym c.is_filled.ensures ∙ c.if-is_filled.true) (sym c.is_some.ensures ∙ c.if-is_some.true) c.loop-pair.invariant

pub loop-pair-preserved : goal.loop-pair-preserved
loop-pair-preserved c =
    elim c.if-is_filled.branch [
      | then-is_filled+else-is_some w ↦
          held_first (is_filled c.args.name.now) c.args.pairs.now c.loop-pair.pair-index c.pair-item.result c.loop-pair.found c.if-is_filled.found _ (λ pair. pair.now) c.loop-pair-test.true c.pair-item.is
          (sym c.is_filled.ensures ∙ w.if-is_filled.true) (sym w.is_some.ensures ∙ w.if-is_some.false) w.found-is refl c.loop-pair.invariant
      | else-is_filled w ↦
          held (is_filled c.args.name.now) c.args.pairs.now c.loop-pair.pair-index c.pair-item.result c.loop-pair.found c.if-is_filled.found (λ pair. pair.now) c.loop-pair-test.true c.pair-item.is
          (sym c.is_filled.ensures ∙ w.if-is_filled.false) w.found-is c.loop-pair.invariant
    ]

pub returns : goal.returns
returns c =
    sym (one (is_filled c.args.name.now) c.args.pairs.now c.loop-pair.pair-index (option_map (λ pair. pair.now) c.loop-pair.found) c.loop-pair-test.false c.loop-pair.invariant)
