-- A tree is that of its line exactly where the line is UTF-8, where it nests no deeper than may be read, and where
-- each object has its members in order.
use Rattle.std.proofs.Common.{◌≡◌, suc, max, ◌≤◌, ℤ, pos, negsuc, inl, inr, Option, Some, None, option_map, IsUtf8, refl, sym, ap, ap₂, ◌∙◌, arith}
use Rattle.std.proofs.lemmas.Int.{ints}
use Rattle.json.specs.Print.{IsNumber}
use Rattle.json.specs.Tree.{HasNumbers, ItemsHaveNumbers, MembersHaveNumbers}
use Rattle.json.specs.Tree as tree
use Rattle.json.proofs.Printed.Decimals.{IsNumber-decimal, IsNumber-signed_decimal}
use Rattle.serde_json.specs.Data.{Data, Num, unsigned, negative, float, null as json_null, boolean, number, string, array, object, Items, no_items, item, Members, no_members, member, depth, items_depth, members_depth}
use Rattle.serde_json.specs.Find.{of_integer}
use Rattle.serde_json.specs.Read.{of_json, max_depth}
use Rattle.serde_json.specs.Written.{outline, items_outline, members_outline, number_text}
use Rattle.serde_json.proofs.Nesting.{depth-read}
use Rattle.base_types.specs.Meaning.{Meaning, null, flag, whole, words, items, members, Kids, no_kids, kid, Fields, no_fields, field}
use Rattle.base_types.specs.Values.{data_of, data_items, data_members, of_data, of_items, of_members, of_number, IsInteger, InRange, KidsInRange, FieldsInRange}
use Rattle.setup_file.specs.Reading.{IsTreeOf}
use Rattle.cluster_setup.specs.Answers.{json_line}
use Rattle.base_types.proofs.Found.{found_both}
use Rattle.cluster_setup.proofs.LineReading.{read_line}

-- each number is written as JSON has numbers
integer_number : (z : ℤ) → IsInteger z → IsNumber (number_text (of_integer z))
integer_number (pos n) (inl fits) = IsNumber-decimal n (omega (arith, ints))
integer_number (pos n) (inr fits) = let small = fits.sfits in IsNumber-decimal n (omega (arith, ints))
integer_number (negsuc n) (inl fits) = absurd (omega (arith, ints))
integer_number (negsuc n) (inr fits) = IsNumber-signed_decimal (negsuc n) fits.sfits

mutual
  has_numbers : (t : Meaning) → InRange t → HasNumbers (outline (data_of t))
  has_numbers null range = tt
  has_numbers (flag b) range = tt
  has_numbers (whole z) range = integer_number z range
  has_numbers (words s) range = tt
  has_numbers (items ts) range = items_have_numbers ts range
  has_numbers (members ms) range = members_have_numbers ms range

  items_have_numbers : (ts : Kids) → KidsInRange ts → ItemsHaveNumbers (items_outline (data_items ts))
  items_have_numbers no_kids range = tt
  items_have_numbers (kid t ts) range = (has_numbers t range.0, items_have_numbers ts range.1)

  members_have_numbers : (ms : Fields) → FieldsInRange ms → MembersHaveNumbers (members_outline (data_members ms))
  members_have_numbers no_fields range = tt
  members_have_numbers (field k t ms) range = (has_numbers t range.0, members_have_numbers ms range.1)

-- how a step found what it found
pub mapped : {A B : Type 0} (o : Option A) (f : A → B) (y : B) → option_map f o ≡ Some y → (x : A) × (o ≡ Some x) × (f x ≡ y)
mapped None f y e = absurd (cc)
mapped (Some x) f y e = (x, refl, cc)

shallow_as : (t u : Meaning) → Some t ≡ Some u → tree.depth (outline (data_of u)) ≡ tree.depth (outline (data_of t))
shallow_as t u e = let same : t ≡ u = cc in ap (λ v. tree.depth (outline (data_of v))) (sym same)

number_depth : (n : Num) (t : Meaning) → of_number n ≡ Some t → tree.depth (outline (data_of t)) ≡ 0
number_depth (unsigned n) t e = shallow_as (whole (pos n)) t e
number_depth (negative z) t e = shallow_as (whole z) t e
number_depth (float x) t e = absurd (cc)

-- the tree of a value nests as deep as the value
mutual
  value_depth : (d : Data) (t : Meaning) → of_data d ≡ Some t → tree.depth (outline (data_of t)) ≡ depth d
  value_depth json_null t e = shallow_as null t e
  value_depth (boolean b) t e = shallow_as (flag b) t e
  value_depth (number n) t e = number_depth n t e
  value_depth (string s) t e = shallow_as (words s) t e
  value_depth (array ds) t e =
      let inside = mapped (of_items ds) items t e in
      ap (λ u. tree.depth (outline (data_of u))) (sym inside.2) ∙ ap (λ n. suc n) (list_depth ds inside.0 inside.1)
  value_depth (object ms) t e =
      let inside = mapped (of_members ms) members t e in
      ap (λ u. tree.depth (outline (data_of u))) (sym inside.2) ∙ ap (λ n. suc n) (object_depth ms inside.0 inside.1)

  list_depth : (ds : Items) (ts : Kids) → of_items ds ≡ Some ts → tree.items_depth (items_outline (data_items ts)) ≡ items_depth ds
  list_depth no_items ts e = let same : no_kids ≡ ts = cc in ap (λ us. tree.items_depth (items_outline (data_items us))) (sym same)
  list_depth (item d ds) ts e =
      let first = found_both (of_data d) (λ t. option_map (kid t) (of_items ds)) ts e in
      let rest = mapped (of_items ds) (kid first.0) ts first.2 in
      ap (λ us. tree.items_depth (items_outline (data_items us))) (sym rest.2) ∙ ap₂ max (value_depth d first.0 first.1) (list_depth ds rest.0 rest.1)

  object_depth : (ds : Members) (ms : Fields) → of_members ds ≡ Some ms → tree.members_depth (members_outline (data_members ms)) ≡ members_depth ds
  object_depth no_members ms e = let same : no_fields ≡ ms = cc in ap (λ us. tree.members_depth (members_outline (data_members us))) (sym same)
  object_depth (member k d ds) ms e =
      let first = found_both (of_data d) (λ t. option_map (field k t) (of_members ds)) ms e in
      let rest = mapped (of_members ds) (field k first.0) ms first.2 in
      ap (λ us. tree.members_depth (members_outline (data_members us))) (sym rest.2) ∙ ap₂ max (value_depth d first.0 first.1) (object_depth ds rest.0 rest.1)

-- what is written for the tree is a value again, and the value's tree is this one
abbrev pub IsKept : Meaning → Type 0
IsKept t = (d : Data) × (of_json (outline (data_of t)) ≡ Some d) × (of_data d ≡ Some t)

abbrev pub IsShallow : Meaning → Type 0
IsShallow t = tree.depth (outline (data_of t)) ≤ max_depth

pub line_tells : (t : Meaning) → InRange t → IsTreeOf (json_line t) t → IsShallow t × IsKept t
line_tells t range read_back =
    let value = read_back.1.0 in
    let deep = value_depth value t read_back.1.2 in
    let bound = depth-read (json_line t) value read_back.1.1 in
    let shallow : IsShallow t = omega arith in
    (shallow, (value, sym (read_line (data_of t) (has_numbers t range) shallow) ∙ read_back.1.1, read_back.1.2))

pub line_read : (t : Meaning) → InRange t → IsUtf8 (json_line t) → IsShallow t → IsKept t → IsTreeOf (json_line t) t
line_read t range utf8 shallow kept = (utf8, (kept.0, read_line (data_of t) (has_numbers t range) shallow ∙ kept.1, kept.2))
