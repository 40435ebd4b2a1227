-- Objects that are patched. Versions are kept without their version and kind, which a patch may read and write, so that
-- they are put in before it and taken out behind it.
use Rattle.std.specs.Prelude.{⊤, ℕ, Bool, false, ◌&&◌, ◌||◌, List, [], ◌∷◌, bytes_eq, codes}
use Rattle.base_types.specs.Edits.{put}
use Rattle.base_types.specs.Meaning.{Meaning, null, flag, whole, words, items, members, fields_list}
use Rattle.base_types.specs.Names.{AreSorted}
use Rattle.base_types.specs.Stored.{without}
use Rattle.json_patch.specs.declared.op.Op.{Op}
use Rattle.json_patch.specs.declared.op.Op.TheVariants.{Add, Remove, Replace, Move, Copy, Test}
use Rattle.setup_file.specs.Objects.{api_version_of}
use Rattle.setup_file.specs.declared.setup.Tracked.{Tracked}

-- an object with this value at this name; another tree stays
abbrev pub put_in : List ℕ → Meaning → Meaning → Meaning
put_in name value null = null
put_in name value (flag b) = flag b
put_in name value (whole z) = whole z
put_in name value (words s) = words s
put_in name value (items ts) = items ts
put_in name value (members ms) = members (put name value ms)

-- the object with the version and the kind of its resource
abbrev pub typed : Tracked → Meaning → Meaning
typed tracked object =
    put_in (codes "kind") (words tracked.kind) (put_in (codes "apiVersion") (words (api_version_of tracked.group tracked.version)) object)

abbrev pub untyped : Meaning → Meaning
untyped object = without (codes "kind") (without (codes "apiVersion") object)

-- the members of an object stand in the order of their names
abbrev pub IsOrdered : Meaning → Type 0
IsOrdered null = ⊤
IsOrdered (flag b) = ⊤
IsOrdered (whole z) = ⊤
IsOrdered (words s) = ⊤
IsOrdered (items ts) = ⊤
IsOrdered (members ms) = AreSorted (fields_list ms)

-- at or under `/metadata/managedFields`
abbrev pub is_managed : List (List ℕ) → Bool
is_managed [] = false
is_managed (first ∷ []) = false
is_managed (first ∷ second ∷ rest) = bytes_eq first (codes "metadata") && bytes_eq second (codes "managedFields")

-- an operation works on the managed fields (Kubernetes "Field Management")
abbrev pub touches_managed : Op → Bool
touches_managed (Add path v) = is_managed path
touches_managed (Remove path) = is_managed path
touches_managed (Replace path v) = is_managed path
touches_managed (Move from path) = is_managed from || is_managed path
touches_managed (Copy from path) = is_managed from || is_managed path
touches_managed (Test path v) = is_managed path
