-- The trees that a list of levels stands for.
use Rattle.std.specs.Prelude.{ℕ, ◌+◌, ◌<◌, ⊤, List, [], ◌∷◌, ◌++◌, length, map, slice_index_or, slice_get, Option, Some}
use Rattle.std.specs.List.{AllByRecursion}
use Rattle.std.specs.List.Sorted.{IsStrictlySortedBy}
use Rattle.std.specs.Ordering.{nat_cmp}
use Rattle.std.specs.Cmp.Lexicographic.{slice_cmp}
use Rattle.base_types.specs.Meaning.{Meaning, null, flag, whole, words, items, members, kids_of, fields_of}
use Rattle.node_pool.specs.Flat.{Flat, flat_null, flat_flag, flat_whole, flat_words, flat_items, flat_members}

abbrev pub name_at : List (List ℕ) → ℕ → List ℕ
name_at ns k = slice_index_or ns k []

abbrev pub tree_at : List Meaning → ℕ → Meaning
tree_at ts k = slice_index_or ts k null

abbrev pub name_of : List (List ℕ) → ℕ × ℕ → List ℕ
name_of ns m = name_at ns m.0

abbrev pub field_at : List (List ℕ) → List Meaning → ℕ × ℕ → List ℕ × Meaning
field_at ns ts m = (name_at ns m.0, tree_at ts m.1)

-- the tree of a level whose names and children are among these
abbrev pub tree_of : List (List ℕ) → List Meaning → Flat → Meaning
tree_of ns ts flat_null = null
tree_of ns ts (flat_flag b) = flag b
tree_of ns ts (flat_whole z) = whole z
tree_of ns ts (flat_words s) = words s
tree_of ns ts (flat_items ks) = items (kids_of (map (tree_at ts) ks))
tree_of ns ts (flat_members ms) = members (fields_of (map (field_at ns ts) ms))

-- the trees of these levels, each with its children among those before it
abbrev pub trees_from : List (List ℕ) → List Meaning → List Flat → List Meaning
trees_from ns ts [] = []
trees_from ns ts (p ∷ ps) = tree_of ns ts p ∷ trees_from ns (ts ++ tree_of ns ts p ∷ []) ps

abbrev pub IsFieldWithin : List (List ℕ) → ℕ → ℕ × ℕ → Type 0
IsFieldWithin ns n m = (m.0 < length ns) × (m.1 < n)

-- the level's names are among these and in the order of their bytes, and its children stand before this number
abbrev pub IsWithin : List (List ℕ) → ℕ → Flat → Type 0
IsWithin ns n flat_null = ⊤
IsWithin ns n (flat_flag b) = ⊤
IsWithin ns n (flat_whole z) = ⊤
IsWithin ns n (flat_words s) = ⊤
IsWithin ns n (flat_items ks) = AllByRecursion (λ k. k < n) ks
IsWithin ns n (flat_members ms) = AllByRecursion (IsFieldWithin ns n) ms × IsStrictlySortedBy (slice_cmp nat_cmp) (map (name_of ns) ms)

-- so for each level of a list that begins at this number
abbrev pub AreWithin : List (List ℕ) → ℕ → List Flat → Type 0
AreWithin ns n [] = ⊤
AreWithin ns n (p ∷ ps) = IsWithin ns n p × AreWithin ns (n + 1) ps

-- a member whose value is looked up, and a member that is there
abbrev pub looked_up : List (List ℕ) → List Meaning → ℕ × ℕ → List ℕ × Option Meaning
looked_up ns ts m = (name_at ns m.0, slice_get ts m.1)

abbrev pub told : List ℕ × Meaning → List ℕ × Option Meaning
told m = (m.0, Some m.1)
