use Rattle.std.proofs.Common.{◌≡◌, Some, rules, subst}
use Rattle.std.specs.BTreeMap.{Updates}
use Rattle.clouds.specs.Kept.{text_order}
use Rattle.rbac_timeline.proofs.Mentions.{AddsAccount-first}
use Rattle.rbac_timeline.proofs.index.begin_account.Goals as goal

pub returns : goal.returns
returns c = λ none.
    let made = c.in_ok-names.ensures in
    let copy : c.in-Ok.copy ≡ c.args.namespace.now = search rules in
    let here : Updates text_order c.args.accounts.now c.insert.new.self c.args.namespace.now (Some c.in_ok-names.names) =
    subst (λ k. Updates text_order c.args.accounts.now c.insert.new.self k (Some c.in_ok-names.names)) copy c.in_ok-insert.ensures.updates in
    AddsAccount-first _ _ _ made.0 _ c.args.name.now c.args.key.now none here made.1 made.2
