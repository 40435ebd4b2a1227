-- What a timeline is built of.
use Rattle.std.specs.Prelude.{ℕ, List, [], map}
use Rattle.clouds.specs.Writes.{Writes}
use Rattle.clouds.specs.declared.span.KeyRevision.{KeyRevision}
use Rattle.clouds.specs.declared.span.OpaqueSpan.{OpaqueSpan}
use Rattle.rbac_timeline.specs.declared.version.RbacEnd.{RbacEnd}
use Rattle.rbac_timeline.specs.declared.version.RbacVersion.{RbacVersion}

-- what a log tells of roles and bindings: their versions, the removals of some, the unrecorded writes, and the
-- groups whose members are always allowed
pub record Known : Type 0 where
  pub versions : List RbacVersion
  pub ends : List RbacEnd
  pub spans : List OpaqueSpan
  pub bypass : List (List ℕ)

abbrev pub key_revision : RbacVersion → KeyRevision
key_revision version = record { key = version.key; revision = version.revision }

-- each version shows its object again
abbrev pub writes_of : Known → Writes
writes_of known = record { spans = known.spans; revisions = map key_revision known.versions }

-- without groups
abbrev pub known_of : List RbacVersion → List RbacEnd → List OpaqueSpan → Known
known_of versions ends spans = record { versions = versions; ends = ends; spans = spans; bypass = [] }
