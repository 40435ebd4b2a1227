use Rattle.std.proofs.Common.{◌≡◌, ◌<◌, ◌++◌, ◌∷◌, [], ◌+◌, length, take, ap, arith, subst, sym, ◌∙◌}
use Rattle.std.proofs.lemmas.List.{length-take, take_more, take_all}
use Rattle.object_past.specs.Indexed.{AreFound, ChangesAt, IsGrown}
use Rattle.object_past.proofs.Filed.{AreFound-more, taken_below}
use Rattle.object_past.proofs.Gone.{IsEnded-from}
use Rattle.object_past.proofs.filing.file_versions.Goals as goal

pub loop-i-preserved : goal.loop-i-preserved
loop-i-preserved c = λ removals are ends.
    let versions = c.args.versions.now in
    let v = c.index-versions-i.result in
    let none = rw c.get.ensures.value at c.ending_behind-ending.ensures.none in
    let last = rw c.get.ensures.value at c.ending_behind-ending.ensures.last in
    let within : c.loop-i.i < length versions = omega arith in
    let front : c.loop-i.i ≡ length (take c.loop-i.i versions) = omega (arith, length-take c.loop-i.i versions) in
    let more : take (c.loop-i.i + 1) versions ≡ take c.loop-i.i versions ++ v ∷ [] = take_more versions c.loop-i.i v within ∙ ap (λ w. take c.loop-i.i versions ++ w ∷ []) (sym c.index-versions-i.is) in
    subst (λ l. AreFound l removals c.file.new.by_key) (sym more)
    (AreFound-more (take c.loop-i.i versions) v removals c.ending_behind-ending.result c.loop-i.by_key c.file.new.by_key
    (taken_below versions c.loop-i.i v c.requires.rising within c.index-versions-i.is)
    (IsEnded-from versions removals c.args.endings.now v c.ending_behind-ending.result c.requires.rising ends are (c.loop-i.i, within, sym c.index-versions-i.is)
    c.ending_behind-ending.ensures.some last none)
    (subst (λ n. ChangesAt c.loop-i.by_key c.file.new.by_key v.key (IsGrown n v c.ending_behind-ending.result)) front c.in_ok-file.ensures)
    (c.loop-i.invariant removals are ends))

pub returns : goal.returns
returns c = λ removals are ends.
    subst (λ l. AreFound l removals c.loop-i.by_key) (take_all c.loop-i.i c.args.versions.now (omega arith)) (c.loop-i.invariant removals are ends)
