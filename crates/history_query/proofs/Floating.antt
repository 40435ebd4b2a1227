-- No number of a tree is written as a float.
use Rattle.std.proofs.Common.{◌≡◌, ℤ, pos, negsuc, Bool, false, ◌||◌, refl}
use Rattle.serde_json.specs.Find.{is_float, of_integer}
use Rattle.serde_json.specs.Written.{has_float, items_have_float, members_have_float}
use Rattle.base_types.specs.Meaning.{Meaning, null, flag, whole, words, items, members, Kids, no_kids, kid, Fields, no_fields, field}
use Rattle.base_types.specs.Values.{data_items, data_members, data_of}

neither : (a b : Bool) → a ≡ false → b ≡ false → (a || b) ≡ false
neither a b p q = rw (p, q) refl

pub whole_is_no_float : (z : ℤ) → is_float (of_integer z) ≡ false
whole_is_no_float (pos n) = refl
whole_is_no_float (negsuc n) = refl

mutual
  pub has_no_float : (tree : Meaning) → has_float (data_of tree) ≡ false
  has_no_float null = refl
  has_no_float (flag b) = refl
  has_no_float (whole z) = whole_is_no_float z
  has_no_float (words s) = refl
  has_no_float (items ts) = items_have_none ts
  has_no_float (members ms) = members_have_none ms

  pub items_have_none : (ts : Kids) → items_have_float (data_items ts) ≡ false
  items_have_none no_kids = refl
  items_have_none (kid t ts) = neither (has_float (data_of t)) (items_have_float (data_items ts)) (has_no_float t) (items_have_none ts)

  pub members_have_none : (ms : Fields) → members_have_float (data_members ms) ≡ false
  members_have_none no_fields = refl
  members_have_none (field k t ms) = neither (has_float (data_of t)) (members_have_float (data_members ms)) (has_no_float t) (members_have_none ms)
