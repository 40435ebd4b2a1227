-- The tree of a JSON value as `serde_json` reads it, and the value of a tree.
use Rattle.std.specs.Prelude.{ℤ, pos, Option, Some, None, option_map, option_and_then, ◌⊎◌, FitsSigned}
use Rattle.std.specs.Int.{FitsUnsigned, w64}
use Rattle.serde_json.specs.Data.{Num, unsigned, negative, float, Data, boolean, number, string, array, object, Items, no_items, item, Members, no_members, member, null as json_null}
use Rattle.serde_json.specs.Find.{of_integer}
use Rattle.base_types.specs.Meaning.{Meaning, null, flag, whole, words, items, members, Kids, no_kids, kid, Fields, no_fields, field}

-- An integer of 64 bits is a whole number; every other number was read as floating point.
abbrev pub of_number : Num → Option Meaning
of_number (unsigned n) = Some (whole (pos n))
of_number (negative z) = Some (whole z)
of_number (float x) = None

-- the tree of a JSON value, where each of its numbers has one
abbrev mutual
  pub of_data : Data → Option Meaning
  of_data json_null = Some null
  of_data (boolean b) = Some (flag b)
  of_data (number n) = of_number n
  of_data (string s) = Some (words s)
  of_data (array ds) = option_map items (of_items ds)
  of_data (object ms) = option_map members (of_members ms)

  pub of_items : Items → Option Kids
  of_items no_items = Some no_kids
  of_items (item d ds) = option_and_then (λ t. option_map (kid t) (of_items ds)) (of_data d)

  pub of_members : Members → Option Fields
  of_members no_members = Some no_fields
  of_members (member k d ms) = option_and_then (λ t. option_map (field k t) (of_members ms)) (of_data d)

-- the numbers that a JSON value can hold as integers: -2^63 to 2^64 - 1
abbrev pub IsInteger : ℤ → Type 0
IsInteger z = FitsUnsigned w64 z ⊎ FitsSigned w64 z

-- each number of the tree is one of them
abbrev mutual
  pub InRange : Meaning → Type 0
  InRange null = Unit {0}
  InRange (flag b) = Unit {0}
  InRange (whole z) = IsInteger z
  InRange (words s) = Unit {0}
  InRange (items ts) = KidsInRange ts
  InRange (members ms) = FieldsInRange ms

  pub KidsInRange : Kids → Type 0
  KidsInRange no_kids = Unit {0}
  KidsInRange (kid t ts) = InRange t × KidsInRange ts

  pub FieldsInRange : Fields → Type 0
  FieldsInRange no_fields = Unit {0}
  FieldsInRange (field k t ms) = InRange t × FieldsInRange ms

-- the JSON value of a tree
abbrev mutual
  pub data_of : Meaning → Data
  data_of null = json_null
  data_of (flag b) = boolean b
  data_of (whole z) = number (of_integer z)
  data_of (words s) = string s
  data_of (items ts) = array (data_items ts)
  data_of (members ms) = object (data_members ms)

  pub data_items : Kids → Items
  data_items no_kids = no_items
  data_items (kid t ts) = item (data_of t) (data_items ts)

  pub data_members : Fields → Members
  data_members no_fields = no_members
  data_members (field k t ms) = member k (data_of t) (data_members ms)
