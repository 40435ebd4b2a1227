-- Where the spans and the revisions are found again.
use Rattle.std.specs.Prelude.{◌≡◌, ℕ, ◌⊎◌, List, Contains}
use Rattle.std.specs.BTreeMap.{BTreeMap, IsEmpty}
use Rattle.base_types.specs.Covers.{Covers}
use Rattle.base_types.specs.declared.kubernetes.key.ObjectKey.{ObjectKey}
use Rattle.clouds.specs.declared.recorded.Recorded.{Recorded}
use Rattle.clouds.specs.declared.span.KeyRevision.{KeyRevision}
use Rattle.clouds.specs.declared.span.OpaqueSpan.{OpaqueSpan}
use Rattle.clouds.specs.declared.wide.Folder.{Folder}
use Rattle.clouds.specs.declared.wide.Wide.{Wide}
use Rattle.clouds.specs.FirstClouded.{AreFirstClouded}
use Rattle.clouds.specs.Hiding.{revision_of}
use Rattle.clouds.specs.Items.{items_at}
use Rattle.clouds.specs.Kept.{key_order}
use Rattle.clouds.specs.Recorded.{firsts_at, revisions_at}
use Rattle.clouds.specs.Wide.{AnyWide, folder_order}
use Rattle.clouds.specs.Writes.{Writes}

-- each span is under each key that it covers, or else where a look-up of the key finds it
pub record AreFiled (named : BTreeMap ObjectKey (List OpaqueSpan)) (wide : Wide) (spans : List OpaqueSpan) : Type 0 where
  pub among_named : (key : ObjectKey) (span : OpaqueSpan) → Contains (items_at key_order named key) span → Contains spans span
  pub among_wide : (folder : Folder) (span : OpaqueSpan) → Contains (items_at folder_order wide.spans folder) span → Contains spans span
  pub found : (span : OpaqueSpan) (key : ObjectKey) → Contains spans span → Covers span.cover key
      → Contains (items_at key_order named key) span ⊎ AnyWide wide key (λ other. other ≡ span)

-- the revisions under a key are its revisions
pub record AreRecorded (recorded : ObjectKey → List ℕ) (revisions : List KeyRevision) : Type 0 where
  pub among : (key : ObjectKey) (revision : ℕ) → Contains (recorded key) revision → Contains revisions (revision_of key revision)
  pub found : (r : KeyRevision) → Contains revisions r → Contains (recorded r.key) r.revision

-- no span is filed
abbrev pub IsNoneFiled : BTreeMap ObjectKey (List OpaqueSpan) → Wide → Type 0
IsNoneFiled named wide = IsEmpty named × IsEmpty wide.spans

-- the recorded writes are kept only where there are spans
pub record AreWritesKept (writes : Writes) (named : BTreeMap ObjectKey (List OpaqueSpan)) (wide : Wide) (recorded : BTreeMap ObjectKey Recorded) : Type 0 where
  pub filed : AreFiled named wide writes.spans
  pub recorded_all : IsNoneFiled named wide ⊎ AreRecorded (revisions_at recorded) writes.revisions
  pub firsts : IsNoneFiled named wide ⊎ ((key : ObjectKey) → AreFirstClouded writes key (firsts_at recorded key))
