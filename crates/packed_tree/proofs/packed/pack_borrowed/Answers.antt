use Rattle.std.proofs.Common.{◌≡◌, ◌++◌, Some, ap, sym, ◌∙◌}
use Rattle.packed_tree.specs.Encoding.{encode}
use Rattle.packed_tree.proofs.DecodeLemmas.{is_packed, in_range}
use Rattle.packed_tree.proofs.packed.pack_borrowed.Goals as goal

pub invariant_of-result : goal.invariant_of-result
invariant_of-result c =
    let p = c.in_ok-push_borrowed.ensures.ok in
    let bytes : c.shrink_to_fit.new.self.items ≡ encode p.value = c.shrink_to_fit.ensures.items ∙ p.put ∙ ap (λ xs. xs ++ encode p.value) c.in_ok-bytes.ensures.items in
    (is_packed p.value c.shrink_to_fit.new.self.items p.sound bytes).0

pub returns-clause-ok : goal.returns-clause-ok
returns-clause-ok c =
    let p = c.in_ok-push_borrowed.ensures.ok in
    let bytes : c.shrink_to_fit.new.self.items ≡ encode p.value = c.shrink_to_fit.ensures.items ∙ p.put ∙ ap (λ xs. xs ++ encode p.value) c.in_ok-bytes.ensures.items in
    p.is ∙ ap Some (sym (is_packed p.value c.shrink_to_fit.new.self.items p.sound bytes).1)

pub returns-clause-range : goal.returns-clause-range
returns-clause-range c =
    let p = c.in_ok-push_borrowed.ensures.ok in
    let bytes : c.shrink_to_fit.new.self.items ≡ encode p.value = c.shrink_to_fit.ensures.items ∙ p.put ∙ ap (λ xs. xs ++ encode p.value) c.in_ok-bytes.ensures.items in
    in_range _ (is_packed p.value c.shrink_to_fit.new.self.items p.sound bytes).0.sound
