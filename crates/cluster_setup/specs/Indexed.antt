-- What an index of files tells: which document has a resource, and of which resources there are lists.
use Rattle.std.specs.Borrow.{Bor}
use Rattle.std.specs.Prelude.{◌≡◌, ◌<◌, ◌+◌, ℕ, ◌++◌, Bool, ◌&&◌, List, Option, Some, None, length, drop, is_some, bytes_eq, codes, option_map, slice_get, if◌then◌else◌}
use Rattle.std.specs.declared.cmp.Ordering.{Ordering}
use Rattle.std.specs.Ordering.{nat_cmp, ordering_then}
use Rattle.std.specs.Cmp.Lexicographic.{slice_cmp}
use Rattle.std.specs.BTreeMap.{BTreeMap, get_by}
use Rattle.std.specs.BTreeSet.{BTreeSet, contains_by}
use Rattle.std.specs.List.{find}
use Rattle.base_types.specs.Meaning.{Meaning}
use Rattle.base_types.specs.Texts.{◌>>=◌}
use Rattle.cluster_setup.specs.declared.finding.FoundResource.{FoundResource}
use Rattle.cluster_setup.specs.Files.{word, group_of, is_listing}
use Rattle.cluster_setup.specs.declared.fault.FileFault.{FileFault}
use Rattle.cluster_setup.specs.declared.fault.FileFault.TheVariants.{Json, Kind, Pages, Unknown, Version, Twice, Revision, Rule}
use Rattle.cluster_setup.specs.declared.fault.SetupRefusal.TheVariants.{File}
use Rattle.cluster_setup.specs.Found.{found_in, is_elsewhere, is_entry_for, is_listed_again, source_of}
use Rattle.cluster_setup.specs.Refusing.{first_refused}

-- two texts that name a resource
abbrev pub Names : Type 0
Names = Bor (List ℕ) × Bor (List ℕ)

abbrev pub by_names : List ℕ → List ℕ → Names → Ordering
by_names first second names = ordering_then (slice_cmp nat_cmp first names.0.now) (slice_cmp nat_cmp second names.1.now)

abbrev pub pair_of : FoundResource → Meaning × Meaning
pair_of found = (found.document.now, found.entry.now)

-- what a map of versions and kinds has
abbrev pub entry_at : BTreeMap Names FoundResource → List ℕ → List ℕ → Option (Meaning × Meaning)
entry_at entries version kind = option_map pair_of (get_by (by_names version kind) entries)

-- the document and its entry of a list's resource
abbrev pub source_found : List Meaning → Meaning → Option (Meaning × Meaning)
source_found trees list = source_of trees list >>= found_in list

-- the map has the resources of these files: to each list, by its version and its kind without the `List` at the end
abbrev pub AreSources : BTreeMap Names FoundResource → List Meaning → Type 0
AreSources entries trees = (list : Meaning) (kind : List ℕ) → word (codes "kind") list ≡ kind ++ codes "List"
    → entry_at entries (word (codes "apiVersion") list) kind ≡ source_found trees list

-- what an entry that was found comes to, where its document is of the version
abbrev pub entry_found : Meaning → Option Meaning → Bool → Option (Meaning × Meaning) → Option (Meaning × Meaning)
entry_found document found version behind = if is_some found && version then option_map (λ entry. (document, entry)) found else behind

-- the first of these entries of a document, or what files behind it have
abbrev pub entry_or : Meaning → List Meaning → List Meaning → Meaning → Option (Meaning × Meaning)
entry_or document entries behind list =
    entry_found document (find (is_entry_for list) entries) (bytes_eq (word (codes "groupVersion") document) (word (codes "apiVersion") list)) (source_found behind list)

-- the map has these entries of a document, and the resources of the files behind it
abbrev pub AreEntries : BTreeMap Names FoundResource → Meaning → List Meaning → List Meaning → Type 0
AreEntries known document entries behind = (list : Meaning) (kind : List ℕ) → word (codes "kind") list ≡ kind ++ codes "List"
    → entry_at known (word (codes "apiVersion") list) kind ≡ entry_or document entries behind list

-- the set has the groups and kinds of the lists among these files
abbrev pub AreListed : BTreeSet Names → List Meaning → Type 0
AreListed listed files = (list : Meaning)
    → contains_by (by_names (group_of (word (codes "apiVersion") list)) (word (codes "kind") list)) listed ≡ is_listed_again files list

-- the file is a list, and a later one is another of the same resource
abbrev pub is_listed_twice : List Meaning → Meaning → Bool
is_listed_twice later tree = is_listing tree && is_listed_again later tree

-- what is wrong with a file, where it is known whether some document has its resource in another version
abbrev pub refined_by : Bool → FileFault → FileFault
refined_by elsewhere Json = Json
refined_by elsewhere Kind = Kind
refined_by elsewhere Pages = Pages
refined_by elsewhere Unknown = if elsewhere then Version else Unknown
refined_by elsewhere Version = Version
refined_by elsewhere Twice = Twice
refined_by elsewhere Revision = Revision
refined_by elsewhere (Rule rule) = Rule rule

-- the same, looked for among these files
abbrev pub refined : List Meaning → Meaning → FileFault → FileFault
refined trees tree = refined_by (is_elsewhere trees tree)

-- of the files from a place on, the first with which something is wrong stands here, and this is wrong with it
abbrev pub IsFirstWrong : List Meaning → ℕ → Option (ℕ × FileFault) → Type 0
IsFirstWrong trees from None = first_refused trees (drop from trees) ≡ None
IsFirstWrong trees from (Some found) = (found.0 < length trees) × ((tree : Meaning) × (slice_get trees found.0 ≡ Some tree)
    × (first_refused trees (drop from trees) ≡ Some (File (found.0 + 1) (refined trees tree found.1))))
