-- What is a list of a shape's entries.
use Rattle.std.specs.Prelude.{◌≡◌, ⊤, ℕ, ◌+◌, ◌-◌, ◌^◌, Bool, ◌||◌, List, [], ◌∷◌, Option, Some, None, Result, Ok, Err, min, bytes_eq, codes, if◌then◌else◌}
use Rattle.std.specs.List.{list_all}
use Rattle.base_types.specs.Meaning.{Meaning}
use Rattle.base_types.specs.Parts.{items_of, members_of}
use Rattle.base_types.specs.Pointers.{pointer_of}
use Rattle.base_types.specs.Texts.{◌>>=◌, text_at}
use Rattle.path_shape.specs.declared.shape.FieldClass.{FieldClass}
use Rattle.path_shape.specs.declared.shape.FieldClass.TheVariants.{Asked, Defaulted, Owned, Kept}
use Rattle.path_shape.specs.declared.shape.ShapeEntry.{ShapeEntry}
use Rattle.path_shape.specs.declared.shape.ShapeFault.{ShapeFault}
use Rattle.path_shape.specs.declared.shape.ShapeFault.TheVariants.{NotList, Entry, OutOfMemory}

abbrev pub class_named : List ℕ → Option FieldClass
class_named name =
    if bytes_eq name (codes "Asked") then Some Asked
    else (if bytes_eq name (codes "Defaulted") then Some Defaulted
    else (if bytes_eq name (codes "Owned") then Some Owned
    else (if bytes_eq name (codes "Kept") then Some Kept else None)))

-- an entry has the members `path` and `class`, and no other
abbrev pub is_known : List ℕ × Meaning → Bool
is_known member = bytes_eq member.0 (codes "path") || bytes_eq member.0 (codes "class")

abbrev pub entry_with : List (List ℕ × Meaning) → List (List ℕ) → FieldClass → Option ShapeEntry
entry_with given path class = if list_all is_known given then Some (record { path = path; class = class }) else None

abbrev pub entry_of : Meaning → Option ShapeEntry
entry_of tree = do
  given ← members_of tree
  text ← text_at (codes "path") tree
  path ← pointer_of text
  name ← text_at (codes "class") tree
  class ← class_named name
  entry_with given path class

-- each entry, or the index of the first that isn't in its form; indices stand still at 2 ^ 32 - 1
abbrev pub then_entries : ℕ → Option ShapeEntry → Result (List ShapeEntry) ℕ → Result (List ShapeEntry) ℕ
then_entries index None rest = Err (min index (2 ^ 32 - 1))
then_entries index (Some entry) (Ok entries) = Ok (entry ∷ entries)
then_entries index (Some entry) (Err broken) = Err broken

abbrev pub entries_from : ℕ → List Meaning → Result (List ShapeEntry) ℕ
entries_from index [] = Ok []
entries_from index (tree ∷ trees) = then_entries index (entry_of tree) (entries_from (index + 1) trees)

-- the entries of a list, or the fault of what isn't one in its form
abbrev pub entries_or_fault : Result (List ShapeEntry) ℕ → Result (List ShapeEntry) ShapeFault
entries_or_fault (Ok entries) = Ok entries
entries_or_fault (Err index) = Err (Entry index)

abbrev pub listed_entries : Option (List Meaning) → Result (List ShapeEntry) ShapeFault
listed_entries None = Err NotList
listed_entries (Some trees) = entries_or_fault (entries_from 0 trees)

abbrev pub shape_entries : Meaning → Result (List ShapeEntry) ShapeFault
shape_entries tree = listed_entries (items_of tree)

-- want of memory says nothing of the trees
abbrev pub IsEntriesCause : List Meaning → ShapeFault → Type 0
IsEntriesCause trees NotList = ⊥
IsEntriesCause trees (Entry index) = entries_from 0 trees ≡ Err index
IsEntriesCause trees OutOfMemory = ⊤

abbrev pub IsCause : Meaning → ShapeFault → Type 0
IsCause tree NotList = shape_entries tree ≡ Err NotList
IsCause tree (Entry index) = shape_entries tree ≡ Err (Entry index)
IsCause tree OutOfMemory = ⊤
