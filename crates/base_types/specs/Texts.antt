-- Texts and lists among the members of an object, and chains of steps that may find nothing.
use Rattle.std.specs.Prelude.{ℕ, List, [], ◌∷◌, Option, Some, None, option_and_then, if◌then◌else◌}
use Rattle.base_types.specs.Meaning.{Meaning}
use Rattle.base_types.specs.Parts.{member_of, is_null, text_of, items_of}
use Rattle.base_types.specs.Revisions.{revision_of}

-- the second step, where the first found something
infixl 10 ◌>>=◌
abbrev pub ◌>>=◌ : {A B : Type 0} → Option A → (A → Option B) → Option B
found >>= next = option_and_then next found

-- the text of the member of this name
abbrev pub text_at : List ℕ → Meaning → Option (List ℕ)
text_at name tree = member_of name tree >>= text_of

abbrev pub non_empty : List ℕ → Option (List ℕ)
non_empty [] = None
non_empty (byte ∷ bytes) = Some (byte ∷ bytes)

-- a text with at least one byte
abbrev pub filled_at : List ℕ → Meaning → Option (List ℕ)
filled_at name tree = text_at name tree >>= non_empty

abbrev pub revision_at : List ℕ → Meaning → Option ℕ
revision_at name tree = text_at name tree >>= revision_of

-- the items of a list that may be missing or null
abbrev pub items_or_none : Option Meaning → Option (List Meaning)
items_or_none None = Some []
items_or_none (Some tree) = if is_null tree then Some [] else items_of tree

-- the texts of a list of which each item is a text
abbrev pub texts_in : List Meaning → Option (List (List ℕ))
texts_in [] = Some []
texts_in (tree ∷ trees) = do
  text ← text_of tree
  texts ← texts_in trees
  Some (text ∷ texts)

abbrev pub texts_of : Meaning → Option (List (List ℕ))
texts_of tree = items_of tree >>= texts_in

abbrev pub texts_or_none : Option Meaning → Option (List (List ℕ))
texts_or_none None = Some []
texts_or_none (Some tree) = texts_of tree

-- the texts of the member of this name; none where there is no such member
abbrev pub texts_at : List ℕ → Meaning → Option (List (List ℕ))
texts_at name tree = texts_or_none (member_of name tree)
