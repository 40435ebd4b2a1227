use Rattle.std.proofs.Common.{◌++◌, ap, sym, ◌∙◌, append-nil}
use Rattle.base_types.specs.Meaning.{fields_of}
use Rattle.packed_tree.specs.Encoding.{encode_fields}
use Rattle.packed_tree.specs.StoredBytes.{stored_bytes, stored_fields}
use Rattle.packed_tree.proofs.StoredForms.{stored_first, piece_put}
use Rattle.packed_tree.proofs.storing.push_stored_members.Goals as goal

pub members-preserved : goal.members-preserved
members-preserved c =
    let before = c.members.out.items in
    let after = c.push_stored_member.new.out.items in
    let name = c.in-Some.name.now in
    let value = c.in-Some.value in
    let left = fields_of c.next.new.self in
    let first = ap (λ ms. encode_fields (stored_fields (fields_of ms))) c.in-Some.ensures.member ∙ stored_first name value left in
    piece_put (c.args.out.now.items ++ encode_fields (stored_fields (fields_of c.args.list))) before after (stored_bytes name value)
    (encode_fields (stored_fields (fields_of c.members.rest))) (encode_fields (stored_fields left)) c.members.invariant first c.in_ok-push_stored_member.ensures

pub returns : goal.returns
returns c =
    let put = c.members.out.items in
    sym (c.members.invariant ∙ ap (λ ms. put ++ encode_fields (stored_fields (fields_of ms))) c.in_default.ensures.none ∙ append-nil put)
