use Rattle.std.proofs.Common.{◌≡◌, map}
use Rattle.clouds.proofs.Firsts.{AreKept-made}
use Rattle.clouds.proofs.clouds.Clouds.build.Goals as goal

pub invariant_of-result : goal.invariant_of-result
invariant_of-result c =
    let spans : map (λ s. s.value) c.of.result.value.items ≡ c.args.spans.now = rw c.of.ensures c.in_ok-shown.ensures in
    let revisions : map (λ s. s.value) c.of-2.result.value.items ≡ c.args.revisions.now = rw c.of-2.ensures c.in_ok-shown-2.ensures in
    AreKept-made c.args.spans.now _ c.args.revisions.now _ c.in_ok-filed.filed.named c.in_ok-filed.filed.wide c.in_ok-recorded.recorded spans revisions
    c.in_ok-filed.ensures c.in_ok-recorded.ensures.revisions c.in_ok-recorded.ensures.firsts
