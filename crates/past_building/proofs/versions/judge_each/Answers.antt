use Rattle.std.proofs.Common.{◌≡◌, ◌+◌, ◌++◌, ◌∷◌, [], Some, map, take, get_or, sym, ap, ◌∙◌, subst}
use Rattle.std.proofs.lemmas.List.{map-append, take_all, take_more}
use Rattle.past_building.proofs.Numbered.{number_is}
use Rattle.past_building.proofs.Writing.{each_more, same_item_key, same_revision}
use Rattle.past_building.specs.Growing.{IsLatestIn}
use Rattle.past_building.specs.Modelled.{making_of}
use Rattle.past_building.specs.Written.{making_at, AreJudged, Extends}
use Rattle.past_building.specs.declared.maker.JudgedWrite.{JudgedWrite}
use Rattle.past_building.proofs.versions.judge_each.Goals as goal

pub loop-number-preserved : goal.loop-number-preserved
loop-number-preserved g c =
    let m = making_of c.write_at-making.result in
    let i = c.loop-number.number-index in
    let at : making_at c.args.log.events.now (get_or c.args.members.now i 0) ≡ Some m = c.write_at-making.ensures in
    let number : c.in_ok-judge.field-0.number ≡ get_or c.args.members.now i 0 = c.in_ok-judge.ensures.number ∙ number_is c.args.log.events.now (get_or c.args.members.now i 0) m at in (
      ap (map (λ (one : JudgedWrite). one.number)) c.in_ok-push.ensures.items ∙ map-append (λ (one : JudgedWrite). one.number) c.loop-number.judged.items (c.in_ok-judge.field-0 ∷ [])
          ∙ ap (λ l. l ++ c.in_ok-judge.field-0.number ∷ []) c.loop-number.invariant.0 ∙ ap (λ n. take i c.args.members.now ++ n ∷ []) number ∙ sym (take_more c.args.members.now i 0 c.loop-number-test.true),
      (λ h key revision of e latest answered.
          let at_revision = same_revision c.args.log.events.now key revision (get_or c.args.members.now i 0) m at (answered i 0 c.loop-number-test.true) in
          let at_key = same_item_key c.args.log.events.now key revision (get_or c.args.members.now i 0) m at (answered i 0 c.loop-number-test.true) in
          subst (AreJudged h c.args.log.events.now (take (i + 1) c.args.members.now)) (sym c.in_ok-push.ensures.items)
          (each_more h c.args.log.events.now c.args.members.now i 0 c.loop-number.judged.items m c.in_ok-judge.field-0 c.loop-number-test.true at c.in_ok-judge.ensures.number
          (c.in_ok-judge.ensures.judged h of (subst (Extends h c.args.grown.now) (sym at_revision) e) (subst (λ k. IsLatestIn c.args.grown.now k c.args.latest) (sym at_key) latest))
          (c.loop-number.invariant.1 h key revision of e latest answered))),
    )

pub returns-clause-judged : goal.returns-clause-judged
returns-clause-judged g c = λ h key revision of e latest answered.
    let all : take c.loop-number.number-index c.args.members.now ≡ c.args.members.now = take_all c.loop-number.number-index c.args.members.now c.loop-number-test.false in
    subst (λ l. AreJudged h c.args.log.events.now l c.loop-number.judged.items) all (c.loop-number.invariant.1 h key revision of e latest answered)
