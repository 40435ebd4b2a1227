-- A measure of trees that falls from a value to each value inside it.
use Rattle.std.specs.Prelude.{ℕ, ◌+◌, ◌≤◌, List, [], ◌∷◌}
use Rattle.std.proofs.Common.{arith}
use denote.Param.Weighed.{most}
use Rattle.base_types.specs.Meaning.{Meaning, null, flag, whole, words, items, members, Kids, no_kids, kid, Fields, no_fields, field, kids_of, fields_of}

-- how many values, and list cells
abbrev mutual
  pub nodes : Meaning → ℕ
  nodes null = 1
  nodes (flag b) = 1
  nodes (whole z) = 1
  nodes (words s) = 1
  nodes (items ts) = kids_nodes ts + 2
  nodes (members ms) = fields_nodes ms + 2

  pub kids_nodes : Kids → ℕ
  kids_nodes no_kids = 0
  kids_nodes (kid t ts) = nodes t + kids_nodes ts + 1

  pub fields_nodes : Fields → ℕ
  fields_nodes no_fields = 0
  fields_nodes (field k t ms) = nodes t + fields_nodes ms + 2

-- no child has as many as the whole list
pub most_le-kids : (ts : List Meaning) → most (λ t. nodes t + 1) ts ≤ kids_nodes (kids_of ts)
most_le-kids [] = omega arith
most_le-kids (t ∷ ts) = omega (arith, most_le-kids ts)

pub most_le-fields : (ms : List (List ℕ × Meaning)) → most (λ m. nodes m.1 + 1 + 1) ms ≤ fields_nodes (fields_of ms)
most_le-fields [] = omega arith
most_le-fields (m ∷ ms) = omega (arith, most_le-fields ms)
