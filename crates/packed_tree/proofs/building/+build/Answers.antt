use Rattle.std.proofs.Common.{◌≡◌, ◌+◌, ◌≤◌, ◌++◌, ℕ, List, [], ◌∷◌, sym, ap, subst, ◌∙◌, append_assoc, append-nil, arith}
use Rattle.base_types.specs.Meaning.{Meaning, kids_of, fields_of}
use Rattle.base_types.specs.Names.{AreSorted}
use Rattle.base_types.specs.Size.{nodes, kids_nodes, fields_nodes}
use Rattle.packed_tree.proofs.building.+build.Goals as goal

kid_less : (all : List Meaning) (x : Meaning) (rest : List Meaning) → nodes x + 1 ≤ kids_nodes (kids_of (all ++ x ∷ rest))
kid_less [] x rest = omega arith
kid_less (y ∷ all) x rest = let less = kid_less all x rest in omega arith

field_less : (all : List (List ℕ × Meaning)) (x : List ℕ × Meaning) (rest : List (List ℕ × Meaning)) → nodes x.1 + 1 ≤ fields_nodes (fields_of (all ++ x ∷ rest))
field_less [] x rest = omega arith
field_less (y ∷ all) x rest = let less = field_less all x rest in omega arith

pub build_items-build-requires : goal.build_items-build-requires
build_items-build-requires t c =
    let step : c.args.list ≡ c.items.all.items ++ c.in-Some.item ∷ c.next.new.self = c.items.invariant ∙ ap (λ xs. c.items.all.items ++ xs) c.in-Some.ensures.item in
    let less = subst (λ xs. nodes c.in-Some.item + 1 ≤ kids_nodes (kids_of xs)) (sym step) (kid_less c.items.all.items c.in-Some.item c.next.new.self) in
    omega arith

pub build_items-items-preserved : goal.build_items-items-preserved
build_items-items-preserved t c =
    let all = c.items.all.items in
    let x = c.in_ok-build.field-0 in
    c.items.invariant ∙ ap (λ xs. all ++ xs) c.in-Some.ensures.item ∙ ap (λ y. all ++ y ∷ c.next.new.self) (sym c.in_ok-build.ensures) ∙ sym (append_assoc all (x ∷ []) c.next.new.self) ∙ ap (λ xs. xs ++ c.next.new.self) (sym c.in_ok-push.ensures.items)

pub build_members-build-requires : goal.build_members-build-requires
build_members-build-requires t c =
    let x : List ℕ × Meaning = (c.in-Some.name.now, c.in-Some.value) in
    let step : c.args.list ≡ c.members.all.items ++ x ∷ c.next.new.self = c.members.invariant ∙ ap (λ xs. c.members.all.items ++ xs) c.in-Some.ensures.member in
    let less = subst (λ xs. nodes x.1 + 1 ≤ fields_nodes (fields_of xs)) (sym step) (field_less c.members.all.items x c.next.new.self) in
    omega arith

pub build_members-invariant_of-result : goal.build_members-invariant_of-result
build_members-invariant_of-result t c =
    let all : c.args.list ≡ c.members.all.items = c.members.invariant ∙ ap (λ xs. c.members.all.items ++ xs) c.in_default.ensures.none ∙ append-nil c.members.all.items in
    subst AreSorted all c.sorted.ensures
