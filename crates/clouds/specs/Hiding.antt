-- What one span says of a key whose revisions are given as numbers.
use Rattle.std.specs.Prelude.{◌<◌, ◌≤◌, ◌↔◌, ℕ, List, Contains}
use Rattle.base_types.specs.Covers.{Covers}
use Rattle.base_types.specs.declared.kubernetes.key.ObjectKey.{ObjectKey}
use Rattle.clouds.specs.declared.span.KeyRevision.{KeyRevision}
use Rattle.clouds.specs.declared.span.OpaqueSpan.{OpaqueSpan}

abbrev pub ReachesKey : ObjectKey → ℕ → ℕ → OpaqueSpan → Type 0
ReachesKey key place revision span = Covers span.cover key × (span.low < place) × (revision ≤ span.high)

abbrev pub HidesKey : List ℕ → ObjectKey → ℕ → OpaqueSpan → Type 0
HidesKey revisions key place span = Covers span.cover key × (span.low < place)
    × ((revision : ℕ) → Contains revisions revision → span.high < revision → place < revision)

abbrev pub revision_of : ObjectKey → ℕ → KeyRevision
revision_of key revision = record { key = key; revision = revision }

-- the numbers are the key's revisions
abbrev pub AreRevisionsOf : List KeyRevision → ObjectKey → List ℕ → Type 0
AreRevisionsOf given key revisions = (revision : ℕ) → Contains revisions revision ↔ Contains given (revision_of key revision)
