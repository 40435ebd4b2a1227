use Rattle.std.proofs.Common.{◌≡◌, Some, rules, subst}
use Rattle.std.specs.HashMap.{Updates}
use Rattle.base_types.proofs.KeyLemmas.{key_from_parts}
use Rattle.past_building.specs.Keyed.{key_eq}
use Rattle.past_building.proofs.grown.put_last.Goals as goal

pub returns-in-Some-clause-put : goal.returns-in-Some-clause-put
returns-in-Some-clause-put c = (c.get_mut.follows.holds c.args.position).3 (search rules)

pub returns-clause-put : goal.returns-clause-put
returns-clause-put c =
    let parts = c.in_ok-clone-in-None.ensures.cases in
    let copy : c.in_ok-clone-in-None.field-0 ≡ c.args.key.now = key_from_parts _ _ parts.0 parts.1.0 parts.1.1.0 parts.1.1.1 in
    let updates = rw c.get_mut.follows.holds-at-none at c.in_ok-_none-in-None.ensures.updates in
    subst (λ k. Updates key_eq c.args.last.now c.insert.new.self k (Some c.args.position)) copy updates
