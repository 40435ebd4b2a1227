-- What is counted of each object, under its key.
use Rattle.std.specs.Prelude.{◌≡◌, ◌+◌, ◌<◌, ◌^◌, ℕ, List, [], ◌∷◌, ◌++◌, IfSome}
use Rattle.std.specs.BTreeMap.{BTreeMap, get}
use Rattle.base_types.specs.declared.kubernetes.key.ObjectKey.{ObjectKey}
use Rattle.clouds.specs.Kept.{key_order}
use Rattle.log_picture.specs.Changes.{tally}
use Rattle.log_picture.specs.declared.changed.Changed.{Changed}
use Rattle.log_picture.specs.declared.tallies.Tally.{Tally}
use Rattle.object_past.specs.declared.version.Version.{Version}

-- each object has its tally, or none
abbrev pub AreTallied : List Version → BTreeMap ObjectKey Tally → Type 0
AreTallied versions tallies = (key : ObjectKey) → get key_order tallies key ≡ tally versions key

-- one more fits each count
abbrev pub AreFew : BTreeMap ObjectKey Tally → Type 0
AreFew tallies = (key : ObjectKey) → IfSome (get key_order tallies key) (λ t. t.count < 2 ^ 63)

-- a version more, and whichever there were before
abbrev pub CountsOne : Version → BTreeMap ObjectKey Tally → BTreeMap ObjectKey Tally → Type 0
CountsOne v old new = (before : List Version) → AreTallied before old → AreTallied (before ++ v ∷ []) new

abbrev pub one : ℕ → Tally
one revision = record { count = 1; first = revision; last = revision }

abbrev pub one_more : Tally → ℕ → Tally
one_more t revision = record { count = t.count + 1; first = t.first; last = revision }

-- an entry with its count in front
abbrev pub changed_as : ObjectKey × Tally → Changed
changed_as entry = record { count = record { 0 = entry.1.count }; key = entry.0; first = entry.1.first; last = entry.1.last }
