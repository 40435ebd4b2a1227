-- What a timeline keeps besides the histories is of what is known.
use Rattle.std.specs.Prelude.{◌≡◌, [], ℕ, List}
use Rattle.clouds.specs.declared.span.OpaqueSpan.{OpaqueSpan}
use Rattle.rbac_timeline.specs.declared.parts.Parts.{Parts}
use Rattle.rbac_timeline.specs.declared.version.RbacEnd.{RbacEnd}
use Rattle.rbac_timeline.specs.declared.version.RbacVersion.{RbacVersion}
use Rattle.rbac_timeline.specs.Indexed.{IsIndexed, mentions_of}
use Rattle.rbac_timeline.specs.Kept.{AreGaps}
use Rattle.rbac_timeline.specs.Known.{known_of, writes_of}
use Rattle.rbac_timeline.specs.Nameless.{AreLows}
use Rattle.rbac_timeline.specs.Reigning.{AreReigning}
use Rattle.rbac_timeline.specs.Unsure.{AreUnsure}

pub record ArePartsOf (versions : List RbacVersion) (ends : List RbacEnd) (spans : List OpaqueSpan) (groups : List (List ℕ)) (parts : Parts) : Type 0 where
  pub of_groups : parts.bypass ≡ groups
  pub of_removals : AreGaps parts.removals ends
  pub of_writes : parts.clouds ≡ writes_of (known_of versions [] spans)
  pub indexed : IsIndexed parts.lookups.index (mentions_of versions)
  pub unnamed : AreLows parts.lookups.nameless spans
  pub unsure_ones : AreUnsure parts.clouds versions spans parts.lookups.unsure
  pub reigning : AreReigning parts.lookups.reigns versions ends
