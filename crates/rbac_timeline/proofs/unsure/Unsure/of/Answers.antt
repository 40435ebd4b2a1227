use Rattle.std.proofs.Common.{[]}
use Rattle.rbac_timeline.proofs.Finding.{AreUnsure-both}
use Rattle.rbac_timeline.proofs.unsure.Unsure.of.Goals as goal

pub returns : goal.returns
returns c =
    let found = rw c.as_slice.ensures.value at c.in_ok-add_each.ensures [] c.new-unsure.ensures in
    AreUnsure-both c.args.clouds.now c.args.versions.now c.args.spans.now c.add_each.new.self _ _ _ c.in_ok-of_versions.ensures c.in_ok-of_spans.ensures c.in_ok-keys.ensures found
