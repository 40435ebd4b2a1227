-- Versions and removals are kept under their keys.
use Rattle.std.proofs.Common.{◌≡◌, ℕ, ◌+◌, ◌<◌, ⊎_elim, List, [], ◌∷◌, ◌++◌, length, get_or, take, refl, sym, subst}
use Rattle.std.specs.BTreeMap.{BTreeMap}
use Rattle.std.specs.List.{Contains}
use Rattle.std.proofs.lemmas.List.Elements.{Contains-append_left, Contains-push, Contains-push_cases}
use Rattle.base_types.specs.declared.kubernetes.key.ObjectKey.{ObjectKey}
use Rattle.clouds.specs.Items.{AddsAt, items_at}
use Rattle.clouds.specs.Kept.{key_order}
use Rattle.clouds.specs.Writes.{Writes}
use Rattle.clouds.specs.declared.span.KeyRevision.{KeyRevision}
use Rattle.clouds.specs.declared.span.OpaqueSpan.{OpaqueSpan}
use Rattle.clouds.proofs.Adding.{same_key_from}
use Rattle.rbac_timeline.specs.declared.history.Gap.{Gap}
use Rattle.rbac_timeline.specs.declared.history.Stored.{Stored}
use Rattle.rbac_timeline.specs.declared.version.RbacEnd.{RbacEnd}
use Rattle.rbac_timeline.specs.declared.version.RbacVersion.{RbacVersion}
use Rattle.rbac_timeline.specs.Kept.{AreGaps, AreStored, gap_of, stored_of}
use Rattle.rbac_timeline.proofs.Gathering.{front_more}

pub AreStored-more : (histories after : BTreeMap ObjectKey (List Stored)) (versions : List RbacVersion) (version : RbacVersion) → AddsAt key_order histories after version.key (stored_of version)
    → AreStored histories versions → AreStored after (versions ++ version ∷ [])
AreStored-more histories after versions version adds are = record {
  among = λ key stored there. ⊎_elim
      (λ before. let found = are.among key stored before in (found.0, Contains-append_left versions (version ∷ []) found.0 found.1, found.2, found.3))
      (λ is. (version, Contains-push versions version, same_key_from version.key key is.0, is.1))
      (adds.only key stored there);
  found = λ other there. ⊎_elim
      (λ before. adds.kept other.key (stored_of other) (are.found other before))
      (λ is. subst (λ (v : RbacVersion). Contains (items_at key_order after v.key) (stored_of v)) is adds.added)
      (Contains-push_cases versions version other there);
}

pub AreGaps-more : (gaps after : BTreeMap ObjectKey (List Gap)) (removals : List RbacEnd) (i : ℕ) (end : RbacEnd) → i < length removals → end ≡ get_or removals i end
    → AddsAt key_order gaps after end.key (gap_of end) → AreGaps gaps (take i removals) → AreGaps after (take (i + 1) removals)
AreGaps-more gaps after removals i end within is adds are = subst (λ l. AreGaps after l) (sym (front_more removals i end within is)) (record {
  among = λ key gap there. ⊎_elim
      (λ before. let found = are.among key gap before in (found.0, Contains-append_left (take i removals) (end ∷ []) found.0 found.1, found.2, found.3))
      (λ same. (end, Contains-push (take i removals) end, same_key_from end.key key same.0, same.1))
      (adds.only key gap there);
  found = λ other there. ⊎_elim
      (λ before. adds.kept other.key (gap_of other) (are.found other before))
      (λ same. subst (λ (e : RbacEnd). Contains (items_at key_order after e.key) (gap_of e)) same adds.added)
      (Contains-push_cases (take i removals) end other there);
})

pub same_writes : (writes : Writes) (spans : List OpaqueSpan) (revisions : List KeyRevision) → writes.spans ≡ spans → writes.revisions ≡ revisions → writes ≡ record { spans = spans; revisions = revisions }
same_writes writes spans revisions of_spans of_revisions =
    subst (λ l. writes ≡ record { spans = l; revisions = revisions }) of_spans (subst (λ l. writes ≡ record { spans = writes.spans; revisions = l }) of_revisions refl)
