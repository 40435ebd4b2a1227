-- What is asked of the versions and the removals that a timeline is built of.
use Rattle.std.specs.Prelude.{◌≡◌, ◌<◌, ◌≤◌, ◌⊎◌, List, All, AllPairs, Any, Contains}
use Rattle.std.specs.declared.cmp.Ordering.TheVariants.{Less}
use Rattle.rbac_timeline.specs.declared.version.RbacEnd.{RbacEnd}
use Rattle.rbac_timeline.specs.declared.version.RbacVersion.{RbacVersion}
use Rattle.clouds.specs.Kept.{key_order}

-- versions rise by key, and those of one key by revision
abbrev pub IsBefore : RbacVersion → RbacVersion → Type 0
IsBefore a b = (key_order a.key b.key ≡ Less) ⊎ ((a.key ≡ b.key) × (a.revision < b.revision))

-- the removal is behind a version of its key, and before the next one
pub record IsSoundEnd (versions : List RbacVersion) (end : RbacEnd) : Type 0 where
  pub of_version : Any (λ version. (version.key ≡ end.key) × (version.revision ≡ end.last)) versions
  pub behind : end.last < end.low
  pub ordered : end.low ≤ end.high
  pub before_next : (next : RbacVersion) → Contains versions next → next.key ≡ end.key → end.last < next.revision → end.high < next.revision

pub record AreSound (versions : List RbacVersion) (ends : List RbacEnd) : Type 0 where
  pub rising : AllPairs IsBefore versions
  pub sound_ends : All (IsSoundEnd versions) ends
  pub distinct : AllPairs (λ a b. (a.key ≡ b.key) × (a.last ≡ b.last) → ⊥) ends
