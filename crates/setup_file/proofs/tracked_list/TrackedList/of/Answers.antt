use Rattle.std.proofs.Common.{◌≡◌, ◌+◌, ◌-◌, ◌<◌, length, arith, rules, subst}
use Rattle.setup_file.specs.Indexed.{AreIndexedFrom}
use Rattle.setup_file.proofs.Indexing.{indexed_more}
use Rattle.setup_file.proofs.tracked_list.TrackedList.of.Goals as goal

pub loop-place-preserved : goal.loop-place-preserved
loop-place-preserved c =
    let before : c.loop-place.place ≡ c.loop-place.place - 1 + 1 = search (rules, arith) in
    let within : c.loop-place.place - 1 < length c.args.all.items = search (rules, arith) in
    indexed_more c.args.all.items c.loop-place.groups c.put_place.new.groups c.index.result.now (c.loop-place.place - 1) within c.index.ensures
    c.in_ok-put_place.ensures
    (subst (λ place. AreIndexedFrom place c.loop-place.groups c.args.all.items) before c.loop-place.invariant)
