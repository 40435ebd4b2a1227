use Rattle.std.proofs.Common.{find, option_map, sym, ap, ◌∙◌}
use Rattle.std.proofs.lemmas.List.{take_all}
use Rattle.past_building.proofs.Asking.{found_at, none_more}
use Rattle.past_building.specs.Chosen.{finding_at, must_have_made}
use Rattle.past_building.specs.declared.maker.JudgedWrite.{JudgedWrite}
use Rattle.past_building.proofs.maker.first_maker.Goals as goal

pub loop-one-preserved : goal.loop-one-preserved
loop-one-preserved g c =
    none_more (must_have_made (finding_at (g.B.Bodies.body c.args.bodies.now) c.args.events.now)) c.args.judged.now c.loop-one.one-index _ c.loop-one-test.true c.loop-one.invariant
    (sym c.in_ok-must_have_made.ensures ∙ c.if-branch.false)

pub returns-then-branch : goal.returns-then-branch
returns-then-branch g c =
    sym (ap (option_map (λ (one : JudgedWrite). one.number))
    (found_at (must_have_made (finding_at (g.B.Bodies.body c.args.bodies.now) c.args.events.now)) c.args.judged.now c.loop-one.one-index _ c.loop-one-test.true c.loop-one.invariant
    (sym c.in_ok-must_have_made.ensures ∙ c.if-branch.true)))

pub returns : goal.returns
returns g c =
    let must = must_have_made (finding_at (g.B.Bodies.body c.args.bodies.now) c.args.events.now) in
    sym (ap (λ l. option_map (λ (one : JudgedWrite). one.number) (find must l)) (sym (take_all c.loop-one.one-index c.args.judged.now c.loop-one-test.false))
    ∙ ap (option_map (λ (one : JudgedWrite). one.number)) c.loop-one.invariant)
