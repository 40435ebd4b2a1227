-- How deep and how large a document is, and what is too much.
use Rattle.std.specs.Prelude.{ℕ, suc, ◌+◌, max, nat_lt, Result, Ok, Err, if◌then◌else◌}
use Rattle.base_types.specs.Meaning.{Meaning, null, flag, whole, words, items, members, Kids, no_kids, kid, Fields, no_fields, field}
use Rattle.json_patch.specs.declared.fault.ApplyCause.{ApplyCause}
use Rattle.json_patch.specs.declared.fault.ApplyCause.TheVariants.{Deep, Large}

-- the most containers that stand one inside another
abbrev mutual
  pub depth : Meaning → ℕ
  depth null = 0
  depth (flag b) = 0
  depth (whole z) = 0
  depth (words s) = 0
  depth (items ts) = suc (kids_depth ts)
  depth (members ms) = suc (fields_depth ms)

  pub kids_depth : Kids → ℕ
  kids_depth no_kids = 0
  kids_depth (kid t ts) = max (depth t) (kids_depth ts)

  pub fields_depth : Fields → ℕ
  fields_depth no_fields = 0
  fields_depth (field k t ms) = max (depth t) (fields_depth ms)

-- how many values there are, the document itself among them
abbrev mutual
  pub values : Meaning → ℕ
  values null = 1
  values (flag b) = 1
  values (whole z) = 1
  values (words s) = 1
  values (items ts) = 1 + kids_values ts
  values (members ms) = 1 + fields_values ms

  pub kids_values : Kids → ℕ
  kids_values no_kids = 0
  kids_values (kid t ts) = values t + kids_values ts

  pub fields_values : Fields → ℕ
  fields_values no_fields = 0
  fields_values (field k t ms) = values t + fields_values ms

-- the document, unless it is too deep or too large
abbrev pub within_limits : Meaning → Result Meaning ApplyCause
within_limits t = if nat_lt 127 (depth t) then Err Deep else (if nat_lt 1_000_000 (values t) then Err Large else Ok t)
