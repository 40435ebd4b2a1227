use Rattle.std.proofs.Common.{◌≡◌, Some, ap, subst, sym, rules, ◌∙◌}
use Rattle.std.specs.BTreeMap.{Updates}
use Rattle.base_types.proofs.KeyLemmas.{key_from_parts}
use Rattle.clouds.specs.Kept.{key_order}
use Rattle.log_picture.proofs.Tallying.{counts_updates, grown}
use Rattle.log_picture.proofs.tallies.count_version.Goals as goal

pub returns-in-Some : goal.returns-in-Some
returns-in-Some c =
    let held = sym c.in-Some.ensures.value in
    let writes = c.get_mut.follows.holds c.add.new.self in
    counts_updates c.args.version.now c.args.tallies.now (c.get_mut.follows.lender c.add.new.self) c.add.new.self (search rules) (writes.3 (search rules))
    (c.add.ensures ∙ ap (λ o. grown o c.args.version.now.revision) (sym held))

pub returns : goal.returns
returns c =
    let none = sym c.in-None.ensures.value in
    let parts = c.in_ok-clone-in-None.ensures.cases in
    let copy : c.in_ok-clone-in-None.field-0 ≡ c.args.version.now.key = key_from_parts _ _ parts.0 parts.1.0 parts.1.1.0 parts.1.1.1 in
    let updates = rw c.get_mut.follows.holds-at-none at c.in_ok-_none-in-None.ensures.updates in
    let here : Updates key_order c.args.tallies.now c.insert.new.self c.args.version.now.key (Some c.one-first.result) =
    subst (λ k. Updates key_order c.args.tallies.now c.insert.new.self k (Some c.one-first.result)) copy updates in
    counts_updates c.args.version.now c.args.tallies.now c.insert.new.self c.one-first.result (search rules) here
    (c.one-first.ensures ∙ ap (λ o. grown o c.args.version.now.revision) (sym none))
