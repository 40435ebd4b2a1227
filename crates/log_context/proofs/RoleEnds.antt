-- The removals of roles and bindings end their versions.
use Rattle.std.proofs.Common.{◌≡◌, ◌<◌, ◌≤◌, true, List, length, filter, Option, Some, None, slice_get, is_some, All, AllPairs, Any, Contains, refl, sym, ap, ◌∙◌, subst}
use Rattle.std.proofs.lemmas.List.Kept.{AllPairs-filter}
use Rattle.std.proofs.lemmas.Option.{same_Some, slice_get-get_or}
use Rattle.base_types.proofs.Quantifiers.{Any-contains}
use Rattle.history_model.proofs.Members.{all_at, all_from}
use Rattle.base_types.specs.Meaning.{Meaning, null}
use Rattle.object_past.specs.Past.{AreEnds}
use Rattle.object_past.specs.declared.removal.Removal.{Removal}
use Rattle.object_past.specs.declared.version.Version.{Version}
use Rattle.past_building.proofs.Mapped.{any_in}
use Rattle.rbac_timeline.specs.Kinds.{kind_of_key}
use Rattle.rbac_timeline.specs.Sound.{AreSound, IsSoundEnd}
use Rattle.rbac_timeline.specs.declared.kind.Kind.{Kind}
use Rattle.rbac_timeline.specs.declared.version.RbacEnd.{RbacEnd}
use Rattle.rbac_timeline.specs.declared.version.RbacVersion.{RbacVersion}
use Rattle.write_groups.proofs.Lists.{filter_from, map_from, pairs_map}
use Rattle.log_context.specs.Roles.{AreRoles, is_role, rbac_version, role_end, role_ends, version_with}

read_as : (trees : List Meaning) (v : Version) (r : RbacVersion) → rbac_version trees v ≡ Some r → (r.key ≡ v.key) × (r.revision ≡ v.revision)
read_as trees v r e = go (kind_of_key v.key) (slice_get trees v.node.0) e
  where
    go : (k : Option Kind) (t : Option Meaning) → version_with v k t ≡ Some r → (r.key ≡ v.key) × (r.revision ≡ v.revision)
    go None t q = absurd (cc q)
    go (Some k) None q = absurd (cc q)
    go (Some k) (Some t) q = (ap (λ (z : RbacVersion). z.key) (sym (same_Some _ r q)), ap (λ (z : RbacVersion). z.revision) (sym (same_Some _ r q)))

record IsRead (trees : List Meaning) (v : Version) : Type 0 where
  pub read : RbacVersion
  pub is : rbac_version trees v ≡ Some read

reads : (trees : List Meaning) (v : Version) → v.node.0 < length trees → is_role v.key ≡ true → IsRead trees v
reads trees v within role = go (kind_of_key v.key) refl (slice_get trees v.node.0) refl
  where
    go : (k : Option Kind) → kind_of_key v.key ≡ k → (t : Option Meaning) → slice_get trees v.node.0 ≡ t → IsRead trees v
    go None e t q = absurd (let f : is_some (kind_of_key v.key) ≡ true = role in cc (f, ap is_some e))
    go (Some k) e None q = absurd (let some = slice_get-get_or trees v.node.0 null within in cc (q, some))
    go (Some k) e (Some t) q = record { read = _; is = ap (λ o. version_with v o (slice_get trees v.node.0)) e ∙ ap (version_with v (Some k)) q }

module _ (trees : List Meaning) (versions : List Version) (removals : List Removal) (roles : List RbacVersion) (are : AreRoles trees versions roles) (ends : AreEnds versions removals)
    (nodes : All (λ v. v.node.0 < length trees) versions) where
  sound : (removal : Removal) → Contains removals removal → is_role removal.key ≡ true → IsSoundEnd roles (role_end removal)
  sound removal c role = record {
    of_version = by (any_in (λ (v : Version). (v.key ≡ removal.key) × (v.uid ≡ removal.uid) × (v.revision ≡ removal.last)) versions
        (all_at (λ (x : Removal). Any (λ (v : Version). (v.key ≡ x.key) × (v.uid ≡ x.uid) × (v.revision ≡ x.last)) versions) removals removal ends.ends c));
    behind = all_at (λ (x : Removal). x.last < x.range.low) removals removal ends.behind c;
    ordered = all_at (λ (x : Removal). x.range.low ≤ x.range.high) removals removal ends.some_place c;
    before_next = λ next d same later. at next d same later (are.sound next d);
  }
    where
      by : (v : Version) × Contains versions v × ((v.key ≡ removal.key) × (v.uid ≡ removal.uid) × (v.revision ≡ removal.last))
          → Any (λ (r : RbacVersion). (r.key ≡ removal.key) × (r.revision ≡ removal.last)) roles
      by (v, d, (k, u, e)) = go (reads trees v (all_at (λ (x : Version). x.node.0 < length trees) versions v nodes d) (ap is_role k ∙ role))
        where
          go : IsRead trees v → Any (λ (r : RbacVersion). (r.key ≡ removal.key) × (r.revision ≡ removal.last)) roles
          go w = let s = read_as trees v w.read w.is in Any-contains (λ (r : RbacVersion). (r.key ≡ removal.key) × (r.revision ≡ removal.last)) roles w.read (are.full v w.read d w.is) (s.0 ∙ k, s.1 ∙ e)

      at : (next : RbacVersion) → Contains roles next → next.key ≡ removal.key → removal.last < next.revision
          → (v : Version) × Contains versions v × (rbac_version trees v ≡ Some next) → removal.range.high < next.revision
      at next d same later (v, k, is) = let s = read_as trees v next is in
          subst (λ n. removal.range.high < n) (sym s.1)
          (all_at (λ (w : Version). w.key ≡ removal.key → removal.last < w.revision → removal.range.high < w.revision) versions v
          (all_at (λ (x : Removal). All (λ (w : Version). w.key ≡ x.key → x.last < w.revision → x.range.high < w.revision) versions) removals removal ends.before_next c) k
          (sym s.0 ∙ same) (subst (λ n. removal.last < n) s.1 later))

  pub roles_sound : AreSound roles (role_ends removals)
  roles_sound = record {
    rising = are.rising;
    sound_ends = all_from (IsSoundEnd roles) (role_ends removals) (λ end c. go end (map_from role_end (filter (λ removal. is_role removal.key) removals) end c));
    distinct = pairs_map role_end (λ a b. (a.key ≡ b.key) × (a.last ≡ b.last) → ⊥) (filter (λ removal. is_role removal.key) removals) apart;
  }
    where
      go : (end : RbacEnd) → (removal : Removal) × Contains (filter (λ removal. is_role removal.key) removals) removal × (role_end removal ≡ end) → IsSoundEnd roles end
      go end (removal, c, e) = let f = filter_from (λ (x : Removal). is_role x.key) removals removal c in subst (IsSoundEnd roles) e (sound removal f.0 f.1)

      apart : AllPairs (λ (a b : Removal). (a.key ≡ b.key) × (a.last ≡ b.last) → ⊥) (filter (λ removal. is_role removal.key) removals)
      apart = AllPairs-filter (λ (a b : Removal). (a.key ≡ b.key) × (a.last ≡ b.last) → ⊥) (λ (removal : Removal). is_role removal.key) removals (λ i j d l m same. ends.apart i j d l m same.1)
