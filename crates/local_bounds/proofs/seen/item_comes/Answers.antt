use Rattle.std.proofs.Common.{◌≡◌, true≢false, sym, max, min, arith}
use Rattle.object_past.specs.Modelled.{version_of}
use Rattle.write_groups.specs.Modelled.{item_of}
use Rattle.local_bounds.proofs.Comers.{item_none, item_some}
use Rattle.local_bounds.proofs.seen.item_comes.Goals as goal

pub returns-in-Some : goal.returns-in-Some
returns-in-Some c =
    let from : c.max.result ≡ max c.args.window.low c.args.item.now.revision = omega (arith, c.max.ensures, c.get-revision.ensures.value) in
    let to : c.min.result ≡ min c.args.window.high c.args.item.now.revision = omega (arith, c.min.ensures, c.get-revision.ensures.value) in
    λ h p. item_some h p.readable c.args.key.now c.args.window.low c.args.window.high c.max.result c.min.result (item_of c.args.item.now) from to (version_of c.in-Some.version.now) c.is_shown.result (c.in-Some.ensures h p) c.is_shown.ensures

pub returns-in-None : goal.returns-in-None
returns-in-None c =
    let from : c.max.result ≡ max c.args.window.low c.args.item.now.revision = omega (arith, c.max.ensures, c.get-revision.ensures.value) in
    let to : c.min.result ≡ min c.args.window.high c.args.item.now.revision = omega (arith, c.min.ensures, c.get-revision.ensures.value) in
    λ h p. ((λ e. absurd (true≢false (sym e))), λ s. absurd (item_none h p.readable c.args.key.now c.args.window.low c.args.window.high c.max.result c.min.result (item_of c.args.item.now) from to (c.in-None.ensures h p) s))
