use Rattle.std.proofs.Common.{◌≡◌, ◌∙◌, ap, length, subst, sym, arith}
use Rattle.std.proofs.lemmas.Iterator.Adapters.{YieldsList-from_vec}
use Rattle.std.proofs.lemmas.Iterator.Consumers.{YieldsList-end}
use Rattle.std.proofs.lemmas.List.{map-id}
use Rattle.std.specs.Vec.Iter.{into_iter_items, into_iter_len}
use Rattle.rbac_timeline.specs.Kept.{AreStored}
use Rattle.rbac_timeline.proofs.Storing.{AreStored-more}
use Rattle.rbac_timeline.proofs.history.histories_of.Goals as goal

pub loop-version-preserved : goal.loop-version-preserved
loop-version-preserved c = AreStored-more _ _ _ c.in-Some.version c.in_ok-add_version.ensures c.loop-version.invariant

pub returns : goal.returns
returns c =
    let gives = c.into_iter-version-iterator.ensures.into_iter_gives in
    let count = gives.1 in
    let long = c.into_vec-version-items.result.ok.0 in
    let same : length c.into_vec-version-items.result.items ≡ length c.args.versions = ap length c.into_vec-version-items.ensures in
    let rest : into_iter_items c.into_iter-version-iterator.result ≡ c.args.versions = gives.0 ∙ c.into_vec-version-items.ensures in
    let len : into_iter_len c.into_iter-version-iterator.result ≡ length c.args.versions = omega arith in
    let end = YieldsList-end (YieldsList-from_vec c.args.versions rest len) c.loop-version.yielded c.loop-version.version-iterator c.loop-version.yielded_by c.next.result c.next.new.self c.in-None.is c.next.ensures.steps in
    subst (λ l. AreStored c.loop-version.histories l) (sym (map-id c.loop-version.yielded) ∙ end.0) c.loop-version.invariant
