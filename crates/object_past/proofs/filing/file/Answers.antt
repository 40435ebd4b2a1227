use Rattle.std.proofs.Common.{◌≡◌, Some, ap, rules, subst, sym}
use Rattle.std.specs.BTreeMap.{Updates}
use Rattle.base_types.proofs.KeyLemmas.{key_from_parts}
use Rattle.clouds.specs.Kept.{key_order}
use Rattle.object_past.specs.Indexed.{IsGrown, found_at, found_in, nothing}
use Rattle.object_past.proofs.Filed.{ChangesAt-updates}
use Rattle.object_past.proofs.filing.file.Goals as goal

pub returns-in-Some : goal.returns-in-Some
returns-in-Some c =
    let held : found_at c.args.by_key.now c.args.version.now.key ≡ c.in-Some.found.now = ap found_in (sym c.in-Some.ensures.value) in
    let writes = c.get_mut.follows.holds c.add.new.self in
    ChangesAt-updates _ _ _ c.add.new.self (IsGrown c.args.position c.args.version.now c.args.ending) (writes.3 (search rules))
    (subst (λ f. IsGrown c.args.position c.args.version.now c.args.ending f c.add.new.self) (sym held) c.in_ok-add-in-Some.ensures)

pub returns : goal.returns
returns c =
    let none : found_at c.args.by_key.now c.args.version.now.key ≡ nothing = ap found_in (sym c.in-None.ensures.value) in
    let parts = c.in_ok-clone-in-None.ensures.cases in
    let copy : c.in_ok-clone-in-None.field-0 ≡ c.args.version.now.key = key_from_parts _ _ parts.0 parts.1.0 parts.1.1.0 parts.1.1.1 in
    let updates = rw c.get_mut.follows.holds-at-none at c.in_ok-_none-in-None.ensures.updates in
    let here : Updates key_order c.args.by_key.now c.insert.new.self c.args.version.now.key (Some c.add-in-None.new.self) =
    subst (λ k. Updates key_order c.args.by_key.now c.insert.new.self k (Some c.add-in-None.new.self)) copy updates in
    let grown = rw c.new-found.ensures at c.in_ok-add-in-None.ensures in
    ChangesAt-updates _ _ _ c.add-in-None.new.self (IsGrown c.args.position c.args.version.now c.args.ending) here
    (subst (λ f. IsGrown c.args.position c.args.version.now c.args.ending f c.add-in-None.new.self) (sym none) grown)
