use Rattle.std.proofs.Common.{◌≡◌, ◌<◌, inl, length, refl, sym, ap, subst, ◌∙◌, arith, add-one}
use Rattle.std.proofs.lemmas.Bool.{false≢true}
use Rattle.base_types.proofs.Ordered.{same_name}
use Rattle.path_shape.specs.Forms.{left_of}
use Rattle.path_shape.proofs.SameLemmas.{SameKids, Agree, kids_length, kids_at, kids_step, merged_differ}
use Rattle.path_shape.proofs.sameness.+sameness.Goals as goal

pub are_same_items-returns-then-len : goal.are_same_items-returns-then-len
are_same_items-returns-then-len t c = (
  λ is. absurd (false≢true is),
  λ same. absurd (let one = ap length c.x.view_is in let two = ap length c.y.view_is in let three = kids_length c.args.x.now c.args.y.now same in grind arith),
)

pub are_same_items-returns-then-not-is_same_tree : goal.are_same_items-returns-then-not-is_same_tree
are_same_items-returns-then-not-is_same_tree t c =
    let xs = c.x.inside.all.items in
    let ys = c.y.inside.all.items in
    let lt : c.loop-i.i < length xs = grind arith in
    let lt' : c.loop-i.i < length ys = grind arith in (
      λ is. absurd (false≢true is),
      λ same. c.if-not-is_same_tree.ensures.1 (kids_at xs ys c.loop-i.i c.index.result.now c.index-in-loop-i.result.now (subst (λ l. SameKids l ys) (sym c.x.view_is) (subst (λ l. SameKids c.args.x.now l) (sym c.y.view_is) same)) lt lt' c.index.ensures c.index-in-loop-i.ensures),
    )

pub are_same_items-loop-i-preserved : goal.are_same_items-loop-i-preserved
are_same_items-loop-i-preserved t c =
    let xs = c.x.inside.all.items in
    let ys = c.y.inside.all.items in
    let lt : c.loop-i.i < length xs = grind arith in
    let lt' : c.loop-i.i < length ys = grind arith in
    rw add-one (kids_step xs ys c.loop-i.i c.index.result.now c.index-in-loop-i.result.now lt lt' c.index.ensures c.index-in-loop-i.ensures (c.if-not-is_same_tree.ensures.0 refl) c.loop-i.invariant)

pub are_same_members-returns-in-Differ : goal.are_same_members-returns-in-Differ
are_same_members-returns-in-Differ t c =
    let xs = c.x.inside.all.items in
    let ys = c.y.inside.all.items in
    let lt : c.merge.i < length xs = grind arith in
    let lt' : c.merge.j < length ys = grind arith in (
      λ is. absurd (false≢true is),
      λ agree. absurd (merged_differ xs ys c.merge.i c.merge.j c.index.result.now c.index-in-merge.result.now c.x.invariant c.y.invariant lt lt' c.index.ensures c.index-in-merge.ensures c.in-Differ.ensures c.merge.invariant
          (subst (λ l. Agree l ys) (sym c.x.view_is) (subst (λ l. Agree c.args.x.now l) (sym c.y.view_is) agree))),
    )

pub turn_at-returns-then-is_same_value : goal.turn_at-returns-then-is_same_value
turn_at-returns-then-is_same_value t c =
    let same = same_name c.as_str.result.now c.as_str-2.result.now (sym c.in-Equal.ensures) in
    let names : c.x.inside.name ≡ c.y.inside.name = sym c.as_str.ensures.value ∙ same ∙ c.as_str-2.ensures.value in
    let left : left_of c.x.inside.value ≡ left_of c.y.inside.value = c.if-is_same_value.ensures.0 refl in
    (sym (ap (λ m. m.0) c.x.view_is) ∙ names ∙ ap (λ m. m.0) c.y.view_is, sym (ap (λ m. left_of m.1) c.x.view_is) ∙ left ∙ ap (λ m. left_of m.1) c.y.view_is)

pub turn_at-returns-else-is_same_value : goal.turn_at-returns-else-is_same_value
turn_at-returns-else-is_same_value t c =
    let same = same_name c.as_str.result.now c.as_str-2.result.now (sym c.in-Equal.ensures) in
    let names : c.x.inside.name ≡ c.y.inside.name = sym c.as_str.ensures.value ∙ same ∙ c.as_str-2.ensures.value in
    inl (
      sym (ap (λ m. m.0) c.x.view_is) ∙ names ∙ ap (λ m. m.0) c.y.view_is,
      λ left. false≢true (c.if-is_same_value.ensures.1 (ap (λ m. left_of m.1) c.x.view_is ∙ left ∙ sym (ap (λ m. left_of m.1) c.y.view_is))),
    )
