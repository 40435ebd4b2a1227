-- The pool after a tree is interned.
use Rattle.std.specs.Prelude.{◌≡◌, List, [], ◌∷◌, ◌++◌, fold, if◌then◌else◌}
use Rattle.std.specs.List.{list_any}
use Rattle.base_types.specs.Meaning.{Meaning, null, flag, whole, words, items, members, Kids, no_kids, kid, Fields, no_fields, field}
use Rattle.base_types.specs.Same.{same}

-- the values inside a JSON value: for each item of an array, or the value of each member of an object, in order, the
-- values inside it and then itself
abbrev mutual
  pub inside : Meaning → List Meaning
  inside null = []
  inside (flag b) = []
  inside (whole z) = []
  inside (words s) = []
  inside (items ts) = inside_kids ts
  inside (members ms) = inside_fields ms

  pub inside_kids : Kids → List Meaning
  inside_kids no_kids = []
  inside_kids (kid t ts) = (inside t ++ t ∷ []) ++ inside_kids ts

  pub inside_fields : Fields → List Meaning
  inside_fields no_fields = []
  inside_fields (field k t ms) = (inside t ++ t ∷ []) ++ inside_fields ms

-- the values inside a JSON value, and then the value itself
abbrev pub subtrees : Meaning → List Meaning
subtrees t = inside t ++ t ∷ []

-- the list, with the tree behind it where the list lacks it
abbrev pub with_tree : List Meaning → Meaning → List Meaning
with_tree ts t = if list_any (same t) ts then ts else ts ++ t ∷ []

-- the trees of a pool once a tree is interned: each value of the tree that isn't there yet is put behind the others
abbrev pub interned : List Meaning → Meaning → List Meaning
interned ts t = fold with_tree ts (subtrees t)

-- the first list is the front of the second
abbrev pub Begins : {X : Type 0} → List X → List X → Type 0
Begins {X} xs ys = (more : List X) × (ys ≡ xs ++ more)
