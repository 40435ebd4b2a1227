-- A measure of drafts that falls from a value to each value inside it. It has room for the chunks between.
use Rattle.std.specs.Prelude.{◌≡◌, ℕ, ◌+◌, ◌*◌, ◌≤◌, List, [], ◌∷◌, ◌++◌}
use Rattle.std.proofs.Common.{arith}
use denote.Param.Weighed.{most}
use Rattle.base_types.specs.Meaning.{Meaning, kids_of, fields_of}
use Rattle.base_types.specs.Size.{nodes, kids_nodes, fields_nodes}
use Rattle.json_patch.specs.Joined.{joined}

abbrev pub weight : Meaning → ℕ
weight t = 2 * nodes t

abbrev pub chunk_weight : List Meaning → ℕ
chunk_weight ts = 2 * kids_nodes (kids_of ts)

abbrev pub chunks_weight : List Meaning → ℕ
chunks_weight ts = 2 * kids_nodes (kids_of ts) + 1

abbrev pub member_chunk_weight : List (List ℕ × Meaning) → ℕ
member_chunk_weight ms = 2 * fields_nodes (fields_of ms)

abbrev pub members_weight : List (List ℕ × Meaning) → ℕ
members_weight ms = 2 * fields_nodes (fields_of ms) + 1

kids_nodes-append : (a b : List Meaning) → kids_nodes (kids_of (a ++ b)) ≡ kids_nodes (kids_of a) + kids_nodes (kids_of b)
kids_nodes-append [] b = omega arith
kids_nodes-append (t ∷ a) b = omega (arith, kids_nodes-append a b)

pub most_le-chunk : (ts : List Meaning) → most (λ t. weight t + 1) ts ≤ chunk_weight ts
most_le-chunk [] = omega arith
most_le-chunk (t ∷ ts) = omega (arith, most_le-chunk ts)

pub most_le-chunks : (parts : List (List Meaning)) → most (λ ts. chunk_weight ts + 1) parts ≤ chunks_weight (joined parts)
most_le-chunks [] = omega arith
most_le-chunks (part ∷ parts) = omega (arith, most_le-chunks parts, kids_nodes-append part (joined parts))

fields_nodes-append : (a b : List (List ℕ × Meaning)) → fields_nodes (fields_of (a ++ b)) ≡ fields_nodes (fields_of a) + fields_nodes (fields_of b)
fields_nodes-append [] b = omega arith
fields_nodes-append (m ∷ a) b = omega (arith, fields_nodes-append a b)

pub most_le-member_chunk : (ms : List (List ℕ × Meaning)) → most (λ m. weight m.1 + 1 + 1) ms ≤ member_chunk_weight ms
most_le-member_chunk [] = omega arith
most_le-member_chunk (m ∷ ms) = omega (arith, most_le-member_chunk ms)

pub most_le-members : (parts : List (List (List ℕ × Meaning))) → most (λ ms. member_chunk_weight ms + 1) parts ≤ members_weight (joined parts)
most_le-members [] = omega arith
most_le-members (part ∷ parts) = omega (arith, most_le-members parts, fields_nodes-append part (joined parts))
