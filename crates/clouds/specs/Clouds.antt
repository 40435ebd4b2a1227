-- Where unrecorded writes may have changed an object.
use Rattle.std.specs.Prelude.{◌<◌, ◌≤◌, ℕ, List, Any}
use Rattle.base_types.specs.Covers.{Covers}
use Rattle.base_types.specs.Hidden.{IsHidden}
use Rattle.base_types.specs.declared.kubernetes.key.ObjectKey.{ObjectKey}
use Rattle.clouds.specs.declared.span.KeyRevision.{KeyRevision}
use Rattle.clouds.specs.declared.span.OpaqueSpan.{OpaqueSpan}
use Rattle.clouds.specs.Writes.{Writes}

-- the unrecorded write of this span may have changed the key's object, and no revision tells by this place
abbrev pub IsHiddenBy : List KeyRevision → ObjectKey → ℕ → OpaqueSpan → Type 0
IsHiddenBy revisions key place span = IsHidden KeyRevision (λ r. r.key) (λ r. r.revision) revisions (Covers span.cover key) span.low span.high key place

-- nothing is known of the key's object at this place
abbrev pub IsClouded : Writes → ObjectKey → ℕ → Type 0
IsClouded writes key place = Any (IsHiddenBy writes.revisions key place) writes.spans

-- an unrecorded write may have made this revision of the key
abbrev pub MayBeUnrecorded : Writes → ObjectKey → ℕ → Type 0
MayBeUnrecorded writes key revision = Any (λ span. Covers span.cover key × (span.low < revision) × (revision ≤ span.high)) writes.spans
