-- What is left of the files and the standard input that a desk of files reads.
use Rattle.std.specs.Prelude.{◌≡◌, ◌≢◌, ℕ, List, [], String, string_bytes, codes, map, Contains, Option, Some, None, option_and_then}
use Rattle.std.specs.BTreeMap.{BTreeMap, get_by_text}
use Rattle.edge_io.specs.declared.system.Source.{Source}
use Rattle.edge_io.specs.declared.system.Source.TheVariants.{Unopened, File, Input, Ended}

-- the bytes left of a source, as its reader tells them; those of what isn't open yet aren't told
abbrev pub left_of_source : {F I : Type 0} → (F → Option (List ℕ)) → (I → Option (List ℕ)) → Source F I → Option (List ℕ)
left_of_source file input Unopened = None
left_of_source file input (File f) = file f
left_of_source file input (Input i) = input i
left_of_source file input Ended = Some []

-- the bytes left of a name
abbrev pub left_of_name : {Y F I : Type 0} → (F → Option (List ℕ)) → (I → Option (List ℕ)) → BTreeMap (String Y) (Source F I) → List ℕ → Option (List ℕ)
left_of_name file input sources name = option_and_then (left_of_source file input) (get_by_text sources name)

-- what wasn't open yet is open, the standard input under the name - alone, and all else stays
abbrev pub IsOpened : {F I : Type 0} → List ℕ → Source F I → Source F I → Type 0
IsOpened name Unopened Unopened = ⊥
IsOpened name Unopened (File f) = name ≢ codes "-"
IsOpened name Unopened (Input i) = name ≡ codes "-"
IsOpened name Unopened Ended = ⊥
IsOpened name (File f) now = now ≡ File f
IsOpened name (Input i) now = now ≡ Input i
IsOpened name Ended now = now ≡ Ended

-- each of the names stands as not open yet, and no other name stands there
abbrev pub HoldsNames : {Y F I : Type 0} → List (String Y) → BTreeMap (String Y) (Source F I) → Type 0
HoldsNames names sources = (name : List ℕ) → (Contains (map string_bytes names) name → get_by_text sources name ≡ Some Unopened) × ((Contains (map string_bytes names) name → ⊥) → get_by_text sources name ≡ None)
