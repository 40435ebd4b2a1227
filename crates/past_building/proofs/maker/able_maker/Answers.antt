use Rattle.std.proofs.Common.{◌<◌, ◌∙◌, length, filter, is_none, arith}
use Rattle.std.proofs.lemmas.List.Sums.{length-filter}
use Rattle.past_building.proofs.Asking.{one_able}
use Rattle.past_building.specs.Chosen.{finding_at}
use Rattle.past_building.specs.declared.maker.JudgedWrite.{JudgedWrite}
use Rattle.past_building.proofs.maker.able_maker.Goals as goal

pub returns-then-able_count-lt2 : goal.returns-then-able_count-lt2
returns-then-able_count-lt2 g c =
    let judged = c.args.judged.now in
    let few : length (filter (λ (one : JudgedWrite). is_none one.making) judged) < 2 =
    omega (arith, c.if-able_count-lt2.true, c.able_count.ensures, length-filter (λ (one : JudgedWrite). is_none one.making) judged) in
    c.first_able-able.ensures ∙ one_able (finding_at (g.B.Bodies.body c.args.bodies.now) c.args.events.now) judged few
