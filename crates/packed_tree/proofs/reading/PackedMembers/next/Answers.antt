use Rattle.std.proofs.Common.{◌≡◌, ◌<◌, length, ◌∷◌, ap, sym, subst, ◌∙◌, arith}
use Rattle.base_types.specs.Meaning.{fields_list}
use Rattle.packed_tree.specs.Frames.{part_in, rest_in}
use Rattle.packed_tree.specs.Decoding.{decode, fields_in}
use Rattle.packed_tree.specs.Sound.{IsPacked, AreFieldsPacked}
use Rattle.packed_tree.proofs.Steps.{fields_step, fields_packed}
use Rattle.packed_tree.proofs.reading.PackedMembers.next.Goals as goal

pub invariant_of-result : goal.invariant_of-result
invariant_of-result c =
    let bs = c.self.inside.bytes.now in
    let some : 0 < length bs = grind arith in
    let value : c.cut-2.result.0.now ≡ part_in (rest_in bs) = c.cut-2.ensures.part ∙ ap part_in c.cut.ensures.rest in
    subst IsPacked (sym value) (fields_packed bs some c.self.invariant).1

pub invariant_of-self : goal.invariant_of-self
invariant_of-self c =
    let bs = c.self.inside.bytes.now in
    let some : 0 < length bs = grind arith in
    let more : c.cut-2.result.1.now ≡ rest_in (rest_in bs) = c.cut-2.ensures.rest ∙ ap rest_in c.cut.ensures.rest in
    subst AreFieldsPacked (sym more) (fields_packed bs some c.self.invariant).2

pub returns-clause-member : goal.returns-clause-member
returns-clause-member c =
    let bs = c.self.inside.bytes.now in
    let some : 0 < length bs = grind arith in
    let name : part_in bs ≡ c.str_of.result.now = sym c.cut.ensures.part ∙ sym c.str_of.ensures in
    let value : part_in (rest_in bs) ≡ c.cut-2.result.0.now = sym (c.cut-2.ensures.part ∙ ap part_in c.cut.ensures.rest) in
    let more : rest_in (rest_in bs) ≡ c.cut-2.result.1.now = sym (c.cut-2.ensures.rest ∙ ap rest_in c.cut.ensures.rest) in
    sym c.self.view_is ∙ ap fields_list (fields_step bs some) ∙ (λ i. (name i, decode (value i)) ∷ fields_list (fields_in (more i)))
