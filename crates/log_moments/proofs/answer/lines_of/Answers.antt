use Rattle.std.proofs.Common.{◌≡◌, ◌∙◌, ◌++◌, ◌∷◌, [], suc, length, length-append, take, ap, subst, arith}
use Rattle.std.proofs.lemmas.Slice.Zip.{zip_end, zip_turn}
use Rattle.std.specs.Slice.Iter.{iter_rest}
use Rattle.log_moments.proofs.Lining.{lines_all, lines_more}
use Rattle.log_moments.specs.Answers.{lines_of}
use Rattle.log_moments.proofs.answer.lines_of.Goals as goal

pub loop-thing-preserved : goal.loop-thing-preserved
loop-thing-preserved c =
    let things = c.args.things.now in
    let moments = c.args.moments.now in
    let n = length c.loop-thing.yielded in
    let begun = c.into_iter-thing-iterator.ensures.into_iter_gives in
    let first = ap (λ z. iter_rest z.a) begun ∙ ap iter_rest c.zip-thing-items.ensures.first ∙ c.iter.ensures.rest in
    let second = ap (λ z. iter_rest z.b) begun ∙ c.zip-thing-items.ensures.second.0 in
    let turn = zip_turn things moments c.loop-thing.yielded c.into_iter-thing-iterator.result c.loop-thing.thing-iterator c.next.new.self c.next.result first second c.loop-thing.yielded_by (c.in-Some.thing, c.in-Some.moment) c.in-Some.is c.next.ensures.steps in
    let more : suc n ≡ length (c.loop-thing.yielded ++ (c.in-Some.thing, c.in-Some.moment) ∷ []) = omega (arith, length-append c.loop-thing.yielded ((c.in-Some.thing, c.in-Some.moment) ∷ [])) in
    subst (λ k. c.push.new.self ≡ lines_of (take k things) (take k moments)) more
    (c.in_ok-push.ensures.ok ∙ ap (λ l. l ++ record { line = c.in-Some.thing.now.line; moment = c.in-Some.moment.now } ∷ []) c.loop-thing.invariant
    ∙ lines_more things moments n c.in-Some.thing.now c.in-Some.moment.now turn.0 turn.1 turn.2 turn.3)

pub returns : goal.returns
returns c =
    let begun = c.into_iter-thing-iterator.ensures.into_iter_gives in
    let first = ap (λ z. iter_rest z.a) begun ∙ ap iter_rest c.zip-thing-items.ensures.first ∙ c.iter.ensures.rest in
    let second = ap (λ z. iter_rest z.b) begun ∙ c.zip-thing-items.ensures.second.0 in
    c.loop-thing.invariant ∙ lines_all c.args.things.now c.args.moments.now _ (zip_end c.args.things.now c.args.moments.now c.loop-thing.yielded c.into_iter-thing-iterator.result c.loop-thing.thing-iterator c.next.new.self c.next.result first second c.loop-thing.yielded_by c.in-None.is c.next.ensures.steps)
