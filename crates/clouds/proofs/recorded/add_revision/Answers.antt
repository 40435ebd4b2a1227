use Rattle.std.proofs.Common.{◌≡◌, [], ◌∷◌, Some, ap, rules, subst, sym, ◌∙◌}
use Rattle.std.specs.BTreeMap.{Updates}
use Rattle.base_types.proofs.KeyLemmas.{key_from_parts}
use Rattle.clouds.specs.declared.recorded.Recorded.{Recorded}
use Rattle.clouds.specs.Kept.{key_order}
use Rattle.clouds.specs.Recorded.{firsts_at, firsts_in, revisions_at, revisions_in}
use Rattle.clouds.proofs.Adding.{Adds-updates, Grows, Grows-permuted, Grows-push, key_order_total, same-updates}
use Rattle.clouds.proofs.recorded.add_revision.Goals as goal

pub returns-in-Some-clause-revisions : goal.returns-in-Some-clause-revisions
returns-in-Some-clause-revisions c =
    let held : revisions_at c.args.recorded.now c.args.write.now.key ≡ c.in-Some.held.now.revisions = ap revisions_in (sym c.in-Some.ensures.value) in
    let value : Recorded = record { revisions = c.add.new.self; first_clouded = c.in-Some.held.now.first_clouded } in
    let writes = c.get_mut.follows.holds value in
    let grows = Grows-permuted _ _ _ (rw c.get-revision.ensures.value at c.in_ok-add-in-Some.ensures) in
    Adds-updates key_order key_order_total revisions_in c.args.recorded.now (c.get_mut.follows.lender value) c.args.write.now.key value (writes.3 (search rules)) c.args.write.now.revision
    (subst (λ l. Grows l c.add.new.self c.args.write.now.revision) (sym held) grows)

pub returns-in-Some-clause-firsts : goal.returns-in-Some-clause-firsts
returns-in-Some-clause-firsts c =
    let value : Recorded = record { revisions = c.add.new.self; first_clouded = c.in-Some.held.now.first_clouded } in
    let writes = c.get_mut.follows.holds value in
    same-updates key_order key_order_total firsts_in c.args.recorded.now (c.get_mut.follows.lender value) c.args.write.now.key value (writes.3 (search rules)) (ap firsts_in c.in-Some.ensures.value)

pub returns-clause-revisions : goal.returns-clause-revisions
returns-clause-revisions c =
    let none : revisions_at c.args.recorded.now c.args.write.now.key ≡ [] = ap revisions_in (sym c.in-None.ensures.value) in
    let parts = c.in_ok-clone-in-None.ensures.cases in
    let copy : c.in_ok-clone-in-None.field-0 ≡ c.args.write.now.key = key_from_parts _ _ parts.0 parts.1.0 parts.1.1.0 parts.1.1.1 in
    let value : Recorded = record { revisions = c.in_ok-of-in-None.field-0; first_clouded = c.new.result } in
    let updates = rw c.get_mut.follows.holds-at-none at c.in_ok-_none-in-None.ensures.updates in
    let here : Updates key_order c.args.recorded.now c.insert.new.self c.args.write.now.key (Some value) =
    subst (λ k. Updates key_order c.args.recorded.now c.insert.new.self k (Some value)) copy updates in
    let made : c.in_ok-of-in-None.field-0 ≡ c.args.write.now.revision ∷ [] = rw c.get-revision.ensures.value at c.in_ok-of-in-None.ensures in
    let grows : Grows [] c.in_ok-of-in-None.field-0 c.args.write.now.revision =
    subst (λ l. Grows [] l c.args.write.now.revision) (sym made) (Grows-push [] c.args.write.now.revision) in
    Adds-updates key_order key_order_total revisions_in c.args.recorded.now c.insert.new.self c.args.write.now.key value here c.args.write.now.revision
    (subst (λ l. Grows l c.in_ok-of-in-None.field-0 c.args.write.now.revision) (sym none) grows)

pub returns-clause-firsts : goal.returns-clause-firsts
returns-clause-firsts c =
    let none : firsts_at c.args.recorded.now c.args.write.now.key ≡ [] = ap firsts_in (sym c.in-None.ensures.value) in
    let parts = c.in_ok-clone-in-None.ensures.cases in
    let copy : c.in_ok-clone-in-None.field-0 ≡ c.args.write.now.key = key_from_parts _ _ parts.0 parts.1.0 parts.1.1.0 parts.1.1.1 in
    let value : Recorded = record { revisions = c.in_ok-of-in-None.field-0; first_clouded = c.new.result } in
    let updates = rw c.get_mut.follows.holds-at-none at c.in_ok-_none-in-None.ensures.updates in
    let here : Updates key_order c.args.recorded.now c.insert.new.self c.args.write.now.key (Some value) =
    subst (λ k. Updates key_order c.args.recorded.now c.insert.new.self k (Some value)) copy updates in
    same-updates key_order key_order_total firsts_in c.args.recorded.now c.insert.new.self c.args.write.now.key value here (c.new.ensures ∙ sym none)
