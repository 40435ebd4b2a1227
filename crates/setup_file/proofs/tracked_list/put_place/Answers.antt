use Rattle.std.proofs.Common.{Some, ap, rules, subst, sym, ◌∙◌}
use Rattle.std.specs.BTreeMap.{Updates}
use Rattle.std.specs.Cmp.Lexicographic.{slice_cmp}
use Rattle.std.specs.Ordering.{nat_cmp}
use Rattle.setup_file.specs.Indexed.{place_among}
use Rattle.setup_file.proofs.Indexing.{no_place, place_put}
use Rattle.setup_file.proofs.tracked_list.put_place.Goals as goal

pub returns-in-Some : goal.returns-in-Some
returns-in-Some c =
    let after = c.put_among.new.places in
    let writes = c.get_mut.follows.holds after in
    place_put c.args.groups.now (c.get_mut.follows.lender after) c.args.tracked.now c.in-Some.places.now after c.args.place
    (λ resource. ap (place_among resource) (sym c.in-Some.ensures.value)) (writes.3 (search rules)) c.in_ok-put_among-in-Some.ensures

pub returns : goal.returns
returns c =
    let places = c.put_among-in-None.new.places in
    let updates = rw c.get_mut.follows.holds-at-none at c.in_ok-_none-in-None.ensures.updates in
    place_put c.args.groups.now c.insert.new.self c.args.tracked.now c.new-places.result places c.args.place
    (λ resource. ap (place_among resource) (sym c.in-None.ensures.value) ∙ sym (no_place c.new-places.result resource c.new-places.ensures.empty))
    (subst (λ group. Updates (slice_cmp nat_cmp) c.args.groups.now c.insert.new.self group (Some places)) c.in_ok-clone-in-None.ensures.cases updates)
    c.in_ok-put_among-in-None.ensures
