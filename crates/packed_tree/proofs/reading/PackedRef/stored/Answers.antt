use Rattle.std.proofs.Common.{◌++◌, ap, ◌∙◌}
use Rattle.base_types.specs.Stored.{stored}
use Rattle.packed_tree.specs.Encoding.{encode}
use Rattle.packed_tree.proofs.DecodeLemmas.{is_packed}
use Rattle.packed_tree.proofs.StoredForms.{stored_sound}
use Rattle.packed_tree.proofs.reading.PackedRef.stored.Goals as goal

pub packed_of-requires : goal.packed_of-requires
packed_of-requires c =
    let form = stored c.args.self.now in
    let put = c.shrink_to_fit.ensures.items ∙ c.in_ok-push_stored.ensures ∙ ap (λ xs. xs ++ encode form) c.in_ok-bytes.ensures.items in
    (is_packed form c.shrink_to_fit.new.self.items (stored_sound c.args.self.now c.as_bytes-most.ensures.sound) put).0

pub returns : goal.returns
returns c =
    let form = stored c.args.self.now in
    let put = c.shrink_to_fit.ensures.items ∙ c.in_ok-push_stored.ensures ∙ ap (λ xs. xs ++ encode form) c.in_ok-bytes.ensures.items in
    c.packed_of.ensures ∙ (is_packed form c.shrink_to_fit.new.self.items (stored_sound c.args.self.now c.as_bytes-most.ensures.sound) put).1
