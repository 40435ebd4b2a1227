use Rattle.std.proofs.Common.{◌++◌, ap, sym, ◌∙◌, append-nil}
use Rattle.base_types.specs.Meaning.{fields_of}
use Rattle.base_types.specs.Stored.{fields_without}
use Rattle.packed_tree.specs.Encoding.{encode_fields}
use Rattle.packed_tree.specs.StoredBytes.{other_bytes}
use Rattle.packed_tree.proofs.StoredForms.{others_first, piece_put}
use Rattle.packed_tree.proofs.storing.push_others.Goals as goal

pub members-preserved : goal.members-preserved
members-preserved c =
    let inner = c.args.inner.now in
    let before = c.members.out.items in
    let after = c.push_other.new.out.items in
    let name = c.in-Some.name.now in
    let value = c.in-Some.value in
    let left = fields_of c.next.new.self in
    let first = ap (λ ms. encode_fields (fields_without inner (fields_of ms))) c.in-Some.ensures.member ∙ others_first inner name value left in
    piece_put (c.args.out.now.items ++ encode_fields (fields_without inner (fields_of c.args.list))) before after (other_bytes inner name value)
    (encode_fields (fields_without inner (fields_of c.members.rest))) (encode_fields (fields_without inner left)) c.members.invariant first c.in_ok-push_other.ensures

pub returns : goal.returns
returns c =
    let put = c.members.out.items in
    sym (c.members.invariant ∙ ap (λ ms. put ++ encode_fields (fields_without c.args.inner.now (fields_of ms))) c.in_default.ensures.none ∙ append-nil put)
