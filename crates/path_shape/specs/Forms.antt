-- The thin form of a tree: what is left where each member whose value is null, an empty object or an empty list is
-- dropped, from the inside out. Items of lists stay.
use Rattle.std.specs.Prelude.{ℕ, Bool, true, false, ◌&&◌, List, [], ◌∷◌, Option, Some, None, option_and_then, if◌then◌else◌}
use Rattle.base_types.specs.Meaning.{Meaning, null, flag, whole, words, items, members, Kids, no_kids, kid, Fields, no_fields, field}
use Rattle.base_types.specs.Parts.{is_null, member_of}
use Rattle.base_types.specs.Pointers.{child_of}
use Rattle.base_types.specs.Same.{same}

abbrev pub has_no_kids : Kids → Bool
has_no_kids no_kids = true
has_no_kids (kid t ts) = false

abbrev pub has_no_fields : Fields → Bool
has_no_fields no_fields = true
has_no_fields (field k t ms) = false

-- null, an empty object or an empty list
abbrev pub says_nothing : Meaning → Bool
says_nothing null = true
says_nothing (flag b) = false
says_nothing (whole z) = false
says_nothing (words s) = false
says_nothing (items ts) = has_no_kids ts
says_nothing (members ms) = has_no_fields ms

abbrev mutual
  pub thin : Meaning → Meaning
  thin null = null
  thin (flag b) = flag b
  thin (whole z) = whole z
  thin (words s) = words s
  thin (items ts) = items (thin_kids ts)
  thin (members ms) = members (thin_fields ms)

  pub thin_kids : Kids → Kids
  thin_kids no_kids = no_kids
  thin_kids (kid t ts) = kid (thin t) (thin_kids ts)

  pub thin_fields : Fields → Fields
  thin_fields no_fields = no_fields
  thin_fields (field k t ms) = if says_nothing (thin t) then thin_fields ms else field k (thin t) (thin_fields ms)

-- what is left of a member with this value
abbrev pub left_of : Meaning → Option Meaning
left_of t = if says_nothing (thin t) then None else Some (thin t)

-- the root counts as an object
abbrev pub thin_root : Meaning → Meaning
thin_root null = members no_fields
thin_root (flag b) = members no_fields
thin_root (whole z) = members no_fields
thin_root (words s) = members no_fields
thin_root (items ts) = members no_fields
thin_root (members ms) = members (thin_fields ms)

-- what is left of the root, where an empty object counts as absent
abbrev pub left_root : Meaning → Option Meaning
left_root t = if says_nothing (thin_root t) then None else Some (thin_root t)

-- the value of the member of this name, or the item of this index, where the tree is there and has it
abbrev pub child_in : List ℕ → Option Meaning → Option Meaning
child_in token tree = option_and_then (child_of token) tree

abbrev pub at : List (List ℕ) → Option Meaning → Option Meaning
at [] tree = tree
at (token ∷ path) tree = at path (child_in token tree)

abbrev pub is_some_and : (Meaning → Bool) → Option Meaning → Bool
is_some_and test None = false
is_some_and test (Some t) = test t

-- the second tree holds the first: both are objects and each member of the first is held by the second's member of
-- that name, or both are lists of one length and each item is held, or they are equal scalars
abbrev mutual
  pub is_held_by : Meaning → Meaning → Bool
  is_held_by null holder = is_null holder
  is_held_by (flag b) holder = same (flag b) holder
  is_held_by (whole z) holder = same (whole z) holder
  is_held_by (words s) holder = same (words s) holder
  is_held_by (items ts) null = false
  is_held_by (items ts) (flag b) = false
  is_held_by (items ts) (whole z) = false
  is_held_by (items ts) (words s) = false
  is_held_by (items ts) (items us) = are_held_in_turn ts us
  is_held_by (items ts) (members ns) = false
  is_held_by (members ms) null = false
  is_held_by (members ms) (flag b) = false
  is_held_by (members ms) (whole z) = false
  is_held_by (members ms) (words s) = false
  is_held_by (members ms) (items us) = false
  is_held_by (members ms) (members ns) = are_held_by_name ms (members ns)

  pub are_held_in_turn : Kids → Kids → Bool
  are_held_in_turn no_kids no_kids = true
  are_held_in_turn no_kids (kid u us) = false
  are_held_in_turn (kid t ts) no_kids = false
  are_held_in_turn (kid t ts) (kid u us) = is_held_by t u && are_held_in_turn ts us

  pub are_held_by_name : Fields → Meaning → Bool
  are_held_by_name no_fields holder = true
  are_held_by_name (field k t ms) holder = is_some_and (is_held_by t) (member_of k holder) && are_held_by_name ms holder

-- the tree is there and holds the first
abbrev pub is_held_by_child : Meaning → Option Meaning → Bool
is_held_by_child t holder = is_some_and (is_held_by t) holder
