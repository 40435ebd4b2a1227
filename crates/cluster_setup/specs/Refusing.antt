-- What is wrong with a file, and with which file first.
use Rattle.std.specs.Prelude.{◌≡◌, ◌-◌, ◌+◌, ℕ, Bool, ◌&&◌, List, [], ◌∷◌, length, take, Option, Some, None, is_some, is_none, bytes_eq, codes, slice_get, if◌then◌else◌}
use Rattle.std.specs.List.{AllZip}
use Rattle.base_types.specs.Meaning.{Meaning}
use Rattle.setup_file.specs.Reading.{IsTreeOf}
use Rattle.cluster_setup.specs.declared.fault.FileFault.{FileFault}
use Rattle.cluster_setup.specs.declared.fault.FileFault.TheVariants.{Kind, Pages, Unknown, Version, Twice, Revision}
use Rattle.cluster_setup.specs.declared.fault.SetupRefusal.{SetupRefusal}
use Rattle.cluster_setup.specs.declared.fault.SetupRefusal.TheVariants.{File}
use Rattle.cluster_setup.specs.Files.{or_empty, metadata_word, is_discovery, is_listing, has_more, list_revision, start_word}
use Rattle.cluster_setup.specs.Found.{source_of, is_elsewhere, is_listed_again}

-- the list was read at the revision of the first list
abbrev pub is_at_start : List Meaning → Meaning → Bool
is_at_start trees list = is_some (list_revision list) && bytes_eq (metadata_word (codes "resourceVersion") list) (or_empty (start_word trees))

-- what is wrong with a list of a resource that no document has in the list's version
abbrev pub unfound : List Meaning → Meaning → FileFault
unfound trees list = if is_elsewhere trees list then Version else Unknown

-- what is wrong with a list among all files, in front of those that are left
abbrev pub list_fault : List Meaning → List Meaning → Meaning → Option FileFault
list_fault trees later list =
    if has_more list then Some Pages
    else (if is_none (source_of trees list) then Some (unfound trees list)
    else (if is_listed_again later list then Some Twice
    else (if is_at_start trees list then None else Some Revision)))

abbrev pub file_fault : List Meaning → List Meaning → Meaning → Option FileFault
file_fault trees later tree =
    if is_discovery tree then None else (if is_listing tree then list_fault trees later tree else Some Kind)

-- the file before those that are left, with what is wrong with it
abbrev pub refused_or : List Meaning → List Meaning → Option FileFault → Option SetupRefusal → Option SetupRefusal
refused_or trees later (Some code) others = Some (File (length trees - length later) code)
refused_or trees later None others = others

-- the first of the files that are left with which something is wrong
abbrev pub first_refused : List Meaning → List Meaning → Option SetupRefusal
first_refused trees [] = None
first_refused trees (tree ∷ later) = refused_or trees later (file_fault trees later tree) (first_refused trees later)

-- each file is the JSON text of its tree
abbrev pub AreTrees : List (List ℕ) → List Meaning → Type 0
AreTrees files trees = AllZip IsTreeOf files trees

-- the file of this number is the first that is no JSON text of a tree
pub record IsFirstBroken (files : List (List ℕ)) (number : ℕ) : Type 0 where
  pub before : List Meaning
  pub broken : List ℕ
  pub read : AreTrees (take (length before) files) before
  pub numbered : number ≡ length before + 1
  pub at : slice_get files (length before) ≡ Some broken
  pub none : (tree : Meaning) → IsTreeOf broken tree → ⊥
