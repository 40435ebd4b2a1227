-- How versions grow group by group.
use Rattle.std.proofs.Common.{◌≡◌, ℕ, ◌<◌, ◌≤◌, ⊎_elim, List, [], ◌∷◌, ◌++◌, map, sym, ap, ◌∙◌, subst, arith}
use Rattle.std.specs.Prelude.{All, Any, Contains}
use Rattle.std.specs.List.{AllZip}
use Rattle.std.proofs.lemmas.List.Elements.{Contains-append_cases, Contains-append_left, Contains-append_right}
use Rattle.base_types.specs.declared.kubernetes.key.ObjectKey.{ObjectKey}
use Rattle.clouds.specs.declared.span.KeyRevision.{KeyRevision}
use Rattle.history_model.proofs.Members.{all_at, all_from, here, there, in_cons, not_in_none}
use Rattle.history_model.specs.Histories as past
use Rattle.object_past.specs.Modelled.{version_of}
use Rattle.write_groups.specs.declared.event.Item.{Item}
use Rattle.write_groups.specs.declared.groups.Group.{Group}
use Rattle.object_past.proofs.Looking.{in_map, from_map}
use Rattle.past_building.proofs.Mapped.{any_in, in_any, joined, zip_push}
use Rattle.past_building.specs.Hidden.{HasSlots, group_slot, item_slot, slots_of}
use Rattle.past_building.specs.Written.{AreSlots, snapshot_version}
use Rattle.object_past.specs.declared.version.Version.{Version}

-- the version is of the group's key and revision
pub record IsAtGroup (group : Group) (v : Version) : Type 0 where
  pub of_key : v.key ≡ group.key
  pub of_revision : v.revision ≡ group.revision

-- one version for each group
abbrev pub AreAtGroups : List Group → List Version → Type 0
AreAtGroups groups made = AllZip IsAtGroup groups made

-- the versions of the snapshot, and one for each group
pub record AreGrown (begun : List Version) (groups : List Group) (versions : List Version) : Type 0 where
  pub made : List Version
  pub all : versions ≡ begun ++ made
  pub each : AreAtGroups groups made

pub grown_more : (begun : List Version) (groups : List Group) (versions : List Version) (g : Group) (v : Version) → AreGrown begun groups versions → IsAtGroup g v
    → AreGrown begun (groups ++ g ∷ []) (versions ++ v ∷ [])
grown_more begun groups versions g v grown at = record {
  made = grown.made ++ v ∷ [];
  all = ap (λ l. l ++ v ∷ []) grown.all ∙ joined begun grown.made (v ∷ []);
  each = zip_push IsAtGroup groups grown.made g v grown.each at;
}

-- the group of a version, and the version of a group
pub group_of : (groups : List Group) (made : List Version) → AreAtGroups groups made → (v : Version) → Contains made v → (g : Group) × Contains groups g × IsAtGroup g v
group_of [] [] zipped v among = absurd (not_in_none among)
group_of [] (w ∷ made) zipped v among = absurd zipped
group_of (f ∷ groups) [] zipped v among = absurd zipped
group_of (f ∷ groups) (w ∷ made) zipped v among = ⊎_elim
    (λ is. (f, here f groups, subst (IsAtGroup f) is zipped.0))
    (λ later. let found = group_of groups made zipped.1 v later in (found.0, there f found.0 groups found.1, found.2))
    (in_cons w made v among)

pub version_of_group : (groups : List Group) (made : List Version) → AreAtGroups groups made → (g : Group) → Contains groups g → (v : Version) × Contains made v × IsAtGroup g v
version_of_group [] [] zipped g among = absurd (not_in_none among)
version_of_group [] (w ∷ made) zipped g among = absurd zipped
version_of_group (f ∷ groups) [] zipped g among = absurd zipped
version_of_group (f ∷ groups) (w ∷ made) zipped g among = ⊎_elim
    (λ is. (w, here w made, subst (λ x. IsAtGroup x w) is zipped.0))
    (λ later. let found = version_of_group groups made zipped.1 g later in (found.0, there w found.0 made found.1, found.2))
    (in_cons f groups g among)

-- all versions are below the next group
pub grown_below : (start : ℕ) (items : List Item) (groups : List Group) (versions : List Version) (next : Group) → AreGrown (map snapshot_version items) groups versions
    → All (λ item. item.revision ≤ start) items → start < next.revision → All (λ g. g.revision < next.revision) groups → All (λ v. v.revision < next.revision) versions
grown_below start items groups versions next grown low above lower = all_from (λ v. v.revision < next.revision) versions (λ v among. ⊎_elim
    (λ before. let item = from_map snapshot_version items v before in
    let bound : item.0.revision ≤ start = all_at (λ (i : Item). i.revision ≤ start) items item.0 low item.1 in
    subst (λ (w : Version). w.revision < next.revision) item.2 (lower_than item.0.revision bound))
    (λ after. let found = group_of groups grown.made grown.each v after in
    let bound : found.0.revision < next.revision = all_at (λ (g : Group). g.revision < next.revision) groups found.0 lower found.1 in
    subst (λ n. n < next.revision) (sym found.2.of_revision) bound)
    (Contains-append_cases (map snapshot_version items) grown.made v (subst (λ l. Contains l v) grown.all among)))
  where
    lower_than : (n : ℕ) → n ≤ start → n < next.revision
    lower_than n bound = omega arith

abbrev slot_at : ObjectKey → ℕ → KeyRevision
slot_at key revision = record { key = key; revision = revision }

-- the slots are those of the versions
pub grown_slots : (items snapshot : List Item) (groups : List Group) (versions : List Version) → AreGrown (map snapshot_version items) groups versions
    → ((item : Item) → Contains items item → Contains snapshot item) → ((item : Item) → Contains snapshot item → Contains items item)
    → AreSlots (slots_of snapshot groups) versions
grown_slots items snapshot groups versions grown into from = λ key revision. (forth key revision, back key revision)
  where
    slot_same : (a b : ObjectKey) (m n : ℕ) → a ≡ b → m ≡ n → slot_at a m ≡ slot_at b n
    slot_same a b m n key_is revision_is = λ i. slot_at (key_is i) (revision_is i)

    forth : (key : ObjectKey) (revision : ℕ) → Contains (map item_slot snapshot ++ map group_slot groups) (record { key = key; revision = revision }) → Any (λ v. (v.key ≡ key) × (v.revision ≡ revision)) versions
    forth key revision among = ⊎_elim
        (λ left. let item = from_map item_slot snapshot (record { key = key; revision = revision }) left in
        in_any (λ v. (v.key ≡ key) × (v.revision ≡ revision)) versions (snapshot_version item.0)
        (subst (λ l. Contains l (snapshot_version item.0)) (sym grown.all) (Contains-append_left (map snapshot_version items) grown.made (snapshot_version item.0) (in_map snapshot_version items item.0 (from item.0 item.1))))
        (ap (λ (s : KeyRevision). s.key) item.2, ap (λ (s : KeyRevision). s.revision) item.2))
        (λ right. let group = from_map group_slot groups (record { key = key; revision = revision }) right in
        let found = version_of_group groups grown.made grown.each group.0 group.1 in
        in_any (λ v. (v.key ≡ key) × (v.revision ≡ revision)) versions found.0
        (subst (λ l. Contains l found.0) (sym grown.all) (Contains-append_right (map snapshot_version items) grown.made found.0 found.1))
        (found.2.of_key ∙ ap (λ (s : KeyRevision). s.key) group.2, found.2.of_revision ∙ ap (λ (s : KeyRevision). s.revision) group.2))
        (Contains-append_cases (map item_slot snapshot) (map group_slot groups) (record { key = key; revision = revision }) among)

    back : (key : ObjectKey) (revision : ℕ) → Any (λ v. (v.key ≡ key) × (v.revision ≡ revision)) versions → Contains (map item_slot snapshot ++ map group_slot groups) (record { key = key; revision = revision })
    back key revision any = let found = any_in (λ v. (v.key ≡ key) × (v.revision ≡ revision)) versions any in ⊎_elim
        (λ before. let item = from_map snapshot_version items found.0 before in
        let key_is : item.0.key ≡ key = ap (λ (v : Version). v.key) item.2 ∙ found.2.0 in
        let revision_is : item.0.revision ≡ revision = ap (λ (v : Version). v.revision) item.2 ∙ found.2.1 in
        Contains-append_left (map item_slot snapshot) (map group_slot groups) (record { key = key; revision = revision })
        (subst (Contains (map item_slot snapshot)) (slot_same item.0.key key item.0.revision revision key_is revision_is) (in_map item_slot snapshot item.0 (into item.0 item.1))))
        (λ after. let group = group_of groups grown.made grown.each found.0 after in
        let key_is : group.0.key ≡ key = sym group.2.of_key ∙ found.2.0 in
        let revision_is : group.0.revision ≡ revision = sym group.2.of_revision ∙ found.2.1 in
        Contains-append_right (map item_slot snapshot) (map group_slot groups) (record { key = key; revision = revision })
        (subst (Contains (map group_slot groups)) (slot_same group.0.key key group.0.revision revision key_is revision_is) (in_map group_slot groups group.0 group.1)))
        (Contains-append_cases (map snapshot_version items) grown.made found.0 (subst (λ l. Contains l found.0) grown.all found.1))

-- the slots of a history's versions
pub has_slots : (h : past.History) (slots : List KeyRevision) (versions : List Version) → AreSlots slots versions → h.versions ≡ map version_of versions → HasSlots slots h
has_slots h slots versions are is = λ key revision. (
  (λ among. let found = any_in (λ v. (v.key ≡ key) × (v.revision ≡ revision)) versions ((are key revision).0 among) in
      (version_of found.0, subst (λ l. Contains l (version_of found.0)) (sym is) (in_map version_of versions found.0 found.1), found.2.0, found.2.1)),
  (λ known. let from = from_map version_of versions known.0 (subst (λ l. Contains l known.0) is known.1) in
      (are key revision).1 (in_any (λ v. (v.key ≡ key) × (v.revision ≡ revision)) versions from.0 from.1
      (ap (λ (v : past.Version). v.key) from.2 ∙ known.2, ap (λ (v : past.Version). v.revision) from.2 ∙ known.3))),
)
