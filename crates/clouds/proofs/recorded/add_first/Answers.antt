use Rattle.std.proofs.Common.{◌≡◌, ap, rules, subst, sym}
use Rattle.clouds.specs.declared.recorded.Recorded.{Recorded}
use Rattle.clouds.specs.Kept.{key_order}
use Rattle.clouds.specs.Recorded.{firsts_at, firsts_in, revisions_at, revisions_in}
use Rattle.clouds.proofs.Adding.{Adds-updates, Grows, Grows-permuted, key_order_total, same-updates}
use Rattle.clouds.proofs.Firsts.{AddsFirst-none, AddsFirst-some}
use Rattle.clouds.proofs.recorded.add_first.Goals as goal

pub returns-in_ok-add-clause-revisions : goal.returns-in_ok-add-clause-revisions
returns-in_ok-add-clause-revisions c =
    let value : Recorded = record { revisions = c.in-Some.held.now.revisions; first_clouded = c.add.new.self } in
    let writes = c.get_mut.follows.holds value in
    same-updates key_order key_order_total revisions_in c.args.recorded.now (c.get_mut.follows.lender value) c.args.write.now.key value (writes.3 (search rules)) (ap revisions_in c.in-Some.ensures.value)

pub returns-in_ok-add-clause-firsts : goal.returns-in_ok-add-clause-firsts
returns-in_ok-add-clause-firsts c = λ spans filed.
    let revisions : revisions_at c.args.recorded.now c.args.write.now.key ≡ c.in-Some.held.now.revisions = ap revisions_in (sym c.in-Some.ensures.value) in
    let held : firsts_at c.args.recorded.now c.args.write.now.key ≡ c.in-Some.held.now.first_clouded = ap firsts_in (sym c.in-Some.ensures.value) in
    let value : Recorded = record { revisions = c.in-Some.held.now.revisions; first_clouded = c.add.new.self } in
    let writes = c.get_mut.follows.holds value in
    let adds = Adds-updates key_order key_order_total firsts_in c.args.recorded.now (c.get_mut.follows.lender value) c.args.write.now.key value (writes.3 (search rules)) c.in-Some-first.place
    (subst (λ l. Grows l c.add.new.self c.in-Some-first.place) (sym held) (Grows-permuted _ _ _ c.in_ok-add.ensures)) in
    let first = rw (c.as_slice-revisions.ensures.places, c.get.ensures.value) at c.in-Some-first.ensures spans filed in
    rw revisions (AddsFirst-some spans c.in-Some.held.now.revisions _ _ c.args.write.now.key c.args.write.now.revision c.in-Some-first.place adds first)

pub returns-in_default-first-clause-revisions : goal.returns-in_default-first-clause-revisions
returns-in_default-first-clause-revisions c =
    let writes = c.get_mut.follows.holds c.in-Some.held.now in
    same-updates key_order key_order_total revisions_in c.args.recorded.now (c.get_mut.follows.lender c.in-Some.held.now) c.args.write.now.key c.in-Some.held.now (writes.3 (search rules)) (ap revisions_in c.in-Some.ensures.value)

pub returns-in_default-first-clause-firsts : goal.returns-in_default-first-clause-firsts
returns-in_default-first-clause-firsts c = λ spans filed.
    let revisions : revisions_at c.args.recorded.now c.args.write.now.key ≡ c.in-Some.held.now.revisions = ap revisions_in (sym c.in-Some.ensures.value) in
    let writes = c.get_mut.follows.holds c.in-Some.held.now in
    let same = same-updates key_order key_order_total firsts_in c.args.recorded.now (c.get_mut.follows.lender c.in-Some.held.now) c.args.write.now.key c.in-Some.held.now (writes.3 (search rules)) (ap firsts_in c.in-Some.ensures.value) in
    let first = rw (c.as_slice-revisions.ensures.places, c.get.ensures.value) at c.in_default-first.ensures spans filed in
    rw revisions (AddsFirst-none spans c.in-Some.held.now.revisions _ _ c.args.write.now.key c.args.write.now.revision same first)
