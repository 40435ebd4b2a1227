-- The names of the entries of an `APIResourceList`, as a set has them.
use Rattle.std.specs.Prelude.{◌≡◌, ℕ, Bool, ◌||◌, List, bytes_eq, codes}
use Rattle.std.specs.BTreeSet.{BTreeSet, contains_by}
use Rattle.std.specs.Cmp.Lexicographic.{slice_cmp}
use Rattle.std.specs.List.{list_any}
use Rattle.std.specs.Ordering.{nat_cmp}
use Rattle.base_types.specs.Meaning.{Meaning}
use Rattle.cluster_setup.specs.Files.{word}

-- whether the set has a name
abbrev pub has_name : BTreeSet (List ℕ) → List ℕ → Bool
has_name names text = contains_by (slice_cmp nat_cmp text) names

-- the set has the names of these entries
abbrev pub AreNames : BTreeSet (List ℕ) → List Meaning → Type 0
AreNames names entries = (text : List ℕ) → has_name names text ≡ list_any (λ entry. bytes_eq (word (codes "name") entry) text) entries

-- a set has one name more than another, if it is new
abbrev pub NamesAdded : BTreeSet (List ℕ) → BTreeSet (List ℕ) → List ℕ → Type 0
NamesAdded old new name = (text : List ℕ) → has_name new text ≡ (has_name old text || bytes_eq name text)
