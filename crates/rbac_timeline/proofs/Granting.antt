-- What an object grants in all of its possible states, and in some.
use Rattle.std.proofs.Common.{◌≡◌, ℕ, ◌<◌, ◌≤◌, ⊎_elim, inl, inr, sym, subst, arith}
use Rattle.base_types.specs.declared.kubernetes.key.ObjectKey.{ObjectKey}
use Rattle.clouds.specs.Clouds.{IsClouded}
use Rattle.rbac_timeline.specs.declared.version.RbacEnd.{RbacEnd}
use Rattle.rbac_timeline.specs.declared.version.RbacVersion.{RbacVersion}
use Rattle.rbac_timeline.specs.Extents.{IsCertain, IsNotGone, MayGrant, MustGrant}
use Rattle.rbac_timeline.specs.Known.{Known, writes_of}
use Rattle.rbac_timeline.specs.States.{By, Everything, IsEndOf, IsLatestVersion, MayBeAbsent, NoneUpto, Nothing, Reading, gone, not_yet}

-- the one version that counts at a place, and how it is read
pub record IsHeld {X : Type 0} (reads : Reading X) (known : Known) (key : ObjectKey) (place : ℕ) (version : RbacVersion) : Type 0 where
  pub clear : IsClouded (writes_of known) key place → ⊥
  pub latest : IsLatestVersion known.versions key place version
  pub only : (other : RbacVersion) → IsLatestVersion known.versions key place other → other ≡ version

module _ {X : Type 0} (reads : Reading X) (known : Known) (key : ObjectKey) (place : ℕ) (grants : X → Type 0) where
  pub may_clouded : IsClouded (writes_of known) key place → MayGrant reads known key place grants
  may_clouded clouded = (Everything, inl clouded, tt)

  pub must_clouded : IsClouded (writes_of known) key place → MustGrant reads known key place grants → ⊥
  must_clouded clouded must = must Nothing (inl (inl clouded))

  -- no version yet
  pub may_missing : (IsClouded (writes_of known) key place → ⊥) → NoneUpto known.versions key place
      → MayGrant reads known key place grants → ⊥
  may_missing clear none (Nothing, is, granted) = granted
  may_missing clear none (By x, is, granted) = let latest = is.1.1.latest in let upto = latest.upto in let above = none is.1.0 latest.known latest.of_key in omega arith
  may_missing clear none (Everything, is, granted) =
      ⊎_elim clear (λ unread. let latest = unread.1.latest in let upto = latest.upto in let above = none unread.0 latest.known latest.of_key in omega arith) is

  pub must_missing : NoneUpto known.versions key place → MustGrant reads known key place grants → ⊥
  must_missing none must = must Nothing (inr (not_yet none))

  -- a version that can't be read
  pub may_unread : (version : RbacVersion) → IsHeld reads known key place version → ((x : X) → reads version.content x → ⊥) → IsNotGone known place version → MayGrant reads known key place grants
  may_unread version held unread there = (Everything, inr (version, record { latest = held.latest; not_gone = there }, unread), tt)

  pub unread_there : (version : RbacVersion) → IsHeld reads known key place version → ((x : X) → reads version.content x → ⊥) → MayGrant reads known key place grants → IsNotGone known place version
  unread_there version held unread (Nothing, is, granted) = absurd granted
  unread_there version held unread (By x, is, granted) = subst (λ v. IsNotGone known place v) (held.only is.1.0 is.1.1.latest) is.1.1.not_gone
  unread_there version held unread (Everything, is, granted) =
      ⊎_elim (λ clouded. absurd (held.clear clouded)) (λ other. subst (λ v. IsNotGone known place v) (held.only other.0 other.1.latest) other.1.not_gone) is

  -- a version that can be read
  pub may_read : (version : RbacVersion) (x : X) → IsHeld reads known key place version → reads version.content x → IsNotGone known place version → grants x → MayGrant reads known key place grants
  may_read version x held read there granted = (By x, (held.clear, (version, record { latest = held.latest; not_gone = there }, read)), granted)

  pub read_there : (version : RbacVersion) (x : X) → IsHeld reads known key place version → reads version.content x → ((y : X) → reads version.content y → y ≡ x)
      → MayGrant reads known key place grants → IsNotGone known place version × grants x
  read_there version x held read one (Nothing, is, granted) = absurd granted
  read_there version x held read one (By y, is, granted) =
      let same = held.only is.1.0 is.1.1.latest in
      let there : IsNotGone known place version = subst (λ v. IsNotGone known place v) same is.1.1.not_gone in
      let read_y : reads version.content y = subst (λ (v : RbacVersion). reads v.content y) same is.1.2 in
      (there, subst grants (one y read_y) granted)
  read_there version x held read one (Everything, is, granted) = ⊎_elim
      (λ clouded. absurd (held.clear clouded))
      (λ other. absurd (other.2 x (subst (λ (v : RbacVersion). reads v.content x) (sym (held.only other.0 other.1.latest)) read)))
      is

  pub must_read : (version : RbacVersion) (x : X) → IsHeld reads known key place version → reads version.content x → ((y : X) → reads version.content y → y ≡ x)
      → IsCertain known place version → grants x → MustGrant reads known key place grants
  must_read version x held read one certain granted Nothing is = ⊎_elim
      (λ unsure. ⊎_elim
      (λ clouded. absurd (held.clear clouded))
      (λ other. absurd (other.2 x (subst (λ (v : RbacVersion). reads v.content x) (sym (held.only other.0 other.1.latest)) read)))
      unsure)
      (λ absent. absent_not version held certain absent)
      is
    where
      absent_not : (version : RbacVersion) → IsHeld reads known key place version → IsCertain known place version → MayBeAbsent known key place → ⊥
      absent_not version held certain (not_yet none) = let upto = held.latest.upto in let above = none version held.latest.known held.latest.of_key in omega arith
      absent_not version held certain (gone other end latest is_end low) =
          let before : place < end.low = certain end (subst (λ v. IsEndOf known.ends v end) (held.only other latest) is_end) in omega arith
  must_read version x held read one certain granted (By y) is =
      let read_y : reads version.content y = subst (λ (v : RbacVersion). reads v.content y) (held.only is.1.0 is.1.1.latest) is.1.2 in
      subst grants (sym (one y read_y)) granted
  must_read version x held read one certain granted Everything is = tt

  -- a removal that may have been leaves nothing
  pub must_gone : (version : RbacVersion) (end : RbacEnd) → IsLatestVersion known.versions key place version → IsEndOf known.ends version end → end.low ≤ place
      → MustGrant reads known key place grants → ⊥
  must_gone version end latest is_end low must = must Nothing (inr (gone version end latest is_end low))

  pub must_there : (version : RbacVersion) (x : X) → IsHeld reads known key place version → reads version.content x → IsNotGone known place version → MustGrant reads known key place grants → grants x
  must_there version x held read there must = must (By x) (held.clear, (version, record { latest = held.latest; not_gone = there }, read))

  pub must_unread : (version : RbacVersion) → IsHeld reads known key place version → ((x : X) → reads version.content x → ⊥) → IsNotGone known place version
      → MustGrant reads known key place grants → ⊥
  must_unread version held unread there must = must Nothing (inl (inr (version, record { latest = held.latest; not_gone = there }, unread)))
