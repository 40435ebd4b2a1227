-- Up to a place where an object is still as before, it keeps what it grants for certain.
use Rattle.std.proofs.Common.{◌≡◌, ℕ, zero, suc, ◌<◌, ◌≤◌, ⊎_elim, inl, inr, List, [], ◌∷◌, length, get_or, refl, ◌∙◌, subst, ap, map, arith}
use Rattle.std.specs.List.{Contains}
use Rattle.std.proofs.lemmas.Bool.{cases_lt}
use Rattle.base_types.proofs.Quantifiers.{Any-contains}
use Rattle.base_types.specs.declared.kubernetes.key.ObjectKey.{ObjectKey}
use Rattle.clouds.specs.Clouds.{IsClouded, IsHiddenBy}
use Rattle.clouds.specs.declared.span.KeyRevision.{KeyRevision}
use Rattle.rbac_timeline.specs.declared.version.RbacVersion.{RbacVersion}
use Rattle.rbac_timeline.specs.Extents.{MustGrant}
use Rattle.rbac_timeline.specs.Known.{Known, key_revision, writes_of}
use Rattle.rbac_timeline.specs.Lasting.{IsStill}
use Rattle.rbac_timeline.specs.States.{By, Everything, IsLatestVersion, IsState, IsUnsure, MayBeAbsent, MayBeThere, Nothing, Reading, State, gone, not_yet}

-- a revision of all versions is that of one of them
version_of : (versions : List RbacVersion) (r : KeyRevision) → Contains (map key_revision versions) r → (version : RbacVersion) × Contains versions version × (key_revision version ≡ r)
version_of [] r among = let within = among.1 in absurd (omega arith)
version_of (v ∷ versions) r among = go among.0 among.1 among.2 (λ later. version_of versions r later)
  where
    go : (k : ℕ) → k < length (map key_revision (v ∷ versions)) → get_or (map key_revision (v ∷ versions)) k r ≡ r
        → (Contains (map key_revision versions) r → (version : RbacVersion) × Contains versions version × (key_revision version ≡ r))
        → (version : RbacVersion) × Contains (v ∷ versions) version × (key_revision version ≡ r)
    go zero within is rest = (v, (0, omega arith, refl), is)
    go (suc k) within is rest = let found = rest (k, omega arith, is) in (found.0, (suc found.1.0, (let among = found.1.1 in omega arith), found.1.2), found.2)

module _ (known : Known) (key : ObjectKey) (before place : ℕ) (upto : before ≤ place) (still : IsStill known key before place) where
  -- a cloud that was there before still is
  clouded_after : IsClouded (writes_of known) key before → IsClouded (writes_of known) key place
  clouded_after any =
      let hidden = any.4 in
      let span = any.1 in
      let begun : span.low < before = hidden.begun in
      Any-contains (IsHiddenBy (writes_of known).revisions key place) known.spans span (any.0, any.2, any.3) (record {
        hides = hidden.hides;
        begun = omega arith;
        unseen = λ r among r_key behind.
            let found = version_of known.versions r among in
            let version = found.0 in
            let same : version.revision ≡ r.revision = ap (λ (x : KeyRevision). x.revision) found.2 in
            let above : before < r.revision = hidden.unseen r among r_key behind in
            let later : place < version.revision = still.none_begins version found.1 (ap (λ (x : KeyRevision). x.key) found.2 ∙ r_key) (omega arith) in
            omega arith;
      })

  latest_before : (version : RbacVersion) → IsLatestVersion known.versions key place version → IsLatestVersion known.versions key before version
  latest_before version latest =
      let below : version.revision ≤ place = latest.upto in
      record {
        known = latest.known;
        of_key = latest.of_key;
        upto = ⊎_elim
            (λ (late : before < version.revision).
            let above : place < version.revision = still.none_begins version latest.known latest.of_key late in
            absurd (omega arith))
            (λ early. early)
            (cases_lt before version.revision);
        latest = λ other among other_key other_upto. latest.latest other among other_key (omega arith);
      }

  there_before : (version : RbacVersion) → MayBeThere known key place version → MayBeThere known key before version
  there_before version there = record {
    latest = latest_before version there.latest;
    not_gone = λ end is. let later = there.not_gone end is in omega arith;
  }

  absent_before : MayBeAbsent known key place → MayBeAbsent known key before
  absent_before (not_yet none) = not_yet (λ version among version_key. let above = none version among version_key in omega arith)
  absent_before (gone version end latest is began) = gone version end (latest_before version latest) is (⊎_elim
      (λ (late : before < end.low).
      let above : place < end.low = still.none_removed version end (latest_before version latest) is late in
      absurd (omega arith))
      (λ early. early)
      (cases_lt before end.low))

  unsure_before : {X : Type 0} (reads : Reading X) → IsUnsure reads known key place → IsUnsure reads known key before
  unsure_before reads (inl clouded) = ⊎_elim
      (λ (behind : before < place). absurd (still.none_clouded place behind (omega arith) clouded))
      (λ (here : place ≤ before). let same : place ≡ before = omega arith in inl (subst (λ p. IsClouded (writes_of known) key p) same clouded))
      (cases_lt before place)
  unsure_before reads (inr unread) = inr (unread.0, there_before unread.0 unread.1, unread.2)

  state_before : {X : Type 0} (reads : Reading X) (state : State X) → IsState reads known key place state → IsState reads known key before state
  state_before reads Nothing (inl unsure) = inl (unsure_before reads unsure)
  state_before reads Nothing (inr absent) = inr (absent_before absent)
  state_before reads (By x) is = ((λ clouded. is.0 (clouded_after clouded)), (is.1.0, there_before is.1.0 is.1.1, is.1.2))
  state_before reads Everything is = unsure_before reads is

  pub must_still : {X : Type 0} (reads : Reading X) (grants : X → Type 0) → MustGrant reads known key before grants → MustGrant reads known key place grants
  must_still reads grants must = λ state is. must state (state_before reads state is)
