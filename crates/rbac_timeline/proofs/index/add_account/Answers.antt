use Rattle.std.proofs.Common.{◌≡◌, Some, None, rules, sym}
use Rattle.std.specs.BTreeMap.{get}
use Rattle.clouds.specs.Kept.{text_order}
use Rattle.rbac_timeline.proofs.Mentions.{AddsAccount-more}
use Rattle.rbac_timeline.proofs.index.add_account.Goals as goal

pub returns-in-Some : goal.returns-in-Some
returns-in-Some c =
    let held : get text_order c.args.accounts.now c.args.namespace.now ≡ Some c.in-Some.names.now = sym c.in-Some.ensures.value in
    let writes = c.get_mut.follows.holds c.add_under.new.index in
    AddsAccount-more _ _ _ _ _ c.args.name.now c.args.key.now held (writes.3 (search rules)) c.in_ok-add_under-in-Some.ensures

pub returns : goal.returns
returns c =
    let none : get text_order c.args.accounts.now c.args.namespace.now ≡ None = sym c.in-None.ensures.value in
    let adds = rw c.get_mut.follows.holds-at-none at c.in_ok-begin_account-in-None.ensures in
    adds none
