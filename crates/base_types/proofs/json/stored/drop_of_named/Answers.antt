use Rattle.std.proofs.Common.{◌≡◌, ℕ, List, ◌<◌, length, get_or, sym, ap, subst, ◌∙◌, arith}
use Rattle.base_types.specs.Meaning.{Meaning, fields_of}
use Rattle.base_types.specs.Search.{IsNamedAt}
use Rattle.base_types.specs.Stored.{without, fields_with}
use Rattle.base_types.proofs.Ordered.{named_within}
use Rattle.base_types.proofs.Removing.{sorted_changed, fields_changed, with_absent}
use Rattle.base_types.proofs.json.stored.drop_of_named.Goals as goal

pub index_mut-member-requires : goal.index_mut-member-requires
index_mut-member-requires c =
    let lt : c.in-Ok.at < length c.args.list.now = named_within c.args.list.now c.args.name.now c.in-Ok.at c.in-Ok.ensures.found in
    let same : length c.list.inside.all.items ≡ length c.args.list.now = ap length c.list.view_is in
    grind arith

pub invariant_of-list : goal.invariant_of-list
invariant_of-list c =
    let all = c.list.inside.all.items in
    let m : List ℕ × Meaning = (c.member.inside.name, c.member.inside.value) in
    let found = subst (λ ms. IsNamedAt c.args.name.now ms c.in-Ok.at) (sym c.list.view_is) c.in-Ok.ensures.found in
    let read : m ≡ get_or all c.in-Ok.at m = subst (λ x. x ≡ get_or all c.in-Ok.at x) (sym c.member.view_is) c.index_mut-member.ensures.value in
    sorted_changed c.args.name.now all c.in-Ok.at m c.drop_member.new.tree c.list.invariant found read

pub returns-in-Ok : goal.returns-in-Ok
returns-in-Ok c =
    let all = c.list.inside.all.items in
    let m : List ℕ × Meaning = (c.member.inside.name, c.member.inside.value) in
    let found = subst (λ ms. IsNamedAt c.args.name.now ms c.in-Ok.at) (sym c.list.view_is) c.in-Ok.ensures.found in
    let read : m ≡ get_or all c.in-Ok.at m = subst (λ x. x ≡ get_or all c.in-Ok.at x) (sym c.member.view_is) c.index_mut-member.ensures.value in
    fields_changed c.args.name.now (without c.args.inner.now) all c.in-Ok.at m c.drop_member.new.tree c.list.invariant found read c.drop_member.ensures
    ∙ ap (λ ms. fields_with c.args.name.now (without c.args.inner.now) (fields_of ms)) c.list.view_is

pub returns-in_default : goal.returns-in_default
returns-in_default c = sym (with_absent c.args.name.now (without c.args.inner.now) c.args.list.now c.in_default.field-0 c.in_default.ensures.place)
