-- The resources of a setup are sound.
use Rattle.std.proofs.Common.{◌≡◌, ◌≢◌, ℕ, Bool, true, List, [], ◌∷◌, map, Option, Some, None, Ok, refl, sym, ap, ap₂, subst, ◌∙◌, find, inl, inr, bytes_eq, codes, arith}
use Rattle.std.specs.Prelude.{⊤}
use Rattle.std.specs.List.{AllPairs, list_all}
use Rattle.std.proofs.lemmas.Bool.{and_parts}
use Rattle.std.proofs.lemmas.Slice.Eq.{bytes_eq-Decides}
use Rattle.base_types.specs.Meaning.{Meaning}
use Rattle.base_types.specs.Parts.{member_of, items_of}
use Rattle.path_shape.specs.declared.shape.FieldClass.TheVariants.{Asked}
use Rattle.setup_file.specs.declared.fault.SetupRule.TheVariants.{S8, S9, S10, S11}
use Rattle.setup_file.specs.declared.resources.Entry.{Entry}
use Rattle.setup_file.specs.declared.setup.Tracked.{Tracked}
use Rattle.setup_file.specs.declared.setup.Subresource.{Subresource}
use Rattle.setup_file.specs.Distinct.{are_distinct, pair_eq}
use Rattle.setup_file.specs.Reading.{chained, resources_at}
use Rattle.setup_file.specs.Resources.{entry_of, entries_in, are_apart, shape_at, has_shape, subresources_in, are_named_apart, subresources_or_none, tracked_of, tracked_in, is_resource, tracked_as}
use Rattle.setup_file.specs.Sound.{AreApart}
use Rattle.setup_file.specs.Steps.{or_breaks}
use Rattle.setup_file.proofs.Apart.{bytes_tell, pairs_tell, distinct_apart}
use Rattle.base_types.proofs.Found.{same_some, found_both, where_true, either}
use Rattle.setup_file.proofs.Chains.{kept_both, not_broken, test_kept}
use Rattle.setup_file.proofs.Gathered.{taken, gathered_all}

-- what is found passes the test
found_passes : {X : Type 0} (p : X → Bool) (xs : List X) (x : X) → find p xs ≡ Some x → p x ≡ true
found_passes p [] x e = absurd (cc)
found_passes p (y ∷ ys) x e =
    elim (either (p y) (Some y) (find p ys) (Some x) e) [
      | inl here ↦ subst (λ z. p z ≡ true) (same_some y x here.1) here.0
      | inr later ↦ found_passes p ys x later.1
    ]

-- a tracked resource is the one of its own group and resource type
pub tracked_as_itself : (resources : List Tracked) (group resource : List ℕ) (tracked : Tracked) → tracked_as resources group resource ≡ Some tracked
    → tracked_as resources tracked.group tracked.resource ≡ Some tracked
tracked_as_itself resources group resource tracked e =
    let both = and_parts (bytes_eq tracked.group group) (bytes_eq tracked.resource resource) (found_passes (is_resource group resource) resources tracked e) in
    let one : tracked.group ≡ group = (bytes_eq-Decides tracked.group group).0 both.0 in
    let other : tracked.resource ≡ resource = (bytes_eq-Decides tracked.resource resource).0 both.1 in
    subst (λ g. tracked_as resources g tracked.resource ≡ Some tracked) (sym one)
    (subst (λ r. tracked_as resources group r ≡ Some tracked) (sym other) e)

-- no subresource has the name of another
abbrev pub AreNamedApart : Tracked → Type 0
AreNamedApart tracked = AllPairs (λ a b. a.name ≢ b.name) tracked.subresources

subresources_are_apart : (member : Option Meaning) (subresources : List Subresource) → subresources_or_none member ≡ Some subresources → AllPairs (λ a b. a.name ≢ b.name) subresources
subresources_are_apart None subresources e =
    subst (λ found. AllPairs (λ (a : Subresource) (b : Subresource). a.name ≢ b.name) found) (same_some [] subresources e)
    (λ i j d below within. absurd (omega arith))
subresources_are_apart (Some list) subresources e =
    let trees = found_both (items_of list) _ subresources e in
    let found = found_both (subresources_in trees.0) _ subresources trees.2 in
    let apart = where_true (are_named_apart found.0) (Some found.0) subresources found.2 in
    subst (λ found. AllPairs (λ (a : Subresource) (b : Subresource). a.name ≢ b.name) found) (same_some found.0 subresources apart.1)
    (distinct_apart bytes_eq (λ (subresource : Subresource). subresource.name) bytes_tell found.0 apart.0)

-- a tracked resource is as its entry says
pub record IsOfEntry (tree : Meaning) (tracked : Tracked) : Type 0 where
  pub entry : Entry
  pub read : entry_of tree ≡ Some entry
  pub group : tracked.group ≡ entry.group
  pub resource : tracked.resource ≡ entry.resource
  pub kind : tracked.kind ≡ entry.kind
  pub subresources : AreNamedApart tracked

tracked_is_of_entry : (tree : Meaning) (tracked : Tracked) → tracked_of tree ≡ Some tracked → IsOfEntry tree tracked
tracked_is_of_entry tree tracked e =
    let entry = found_both (entry_of tree) _ tracked e in
    let shape = found_both (shape_at Asked tree) _ tracked entry.2 in
    let subresources = found_both (subresources_or_none (member_of (codes "subresources") tree)) _ tracked shape.2 in
    subst (IsOfEntry tree) (same_some _ tracked subresources.2) (record {
      entry = entry.0;
      read = entry.1;
      group = refl;
      resource = refl;
      kind = refl;
      subresources = subresources_are_apart (member_of (codes "subresources") tree) subresources.0 subresources.1;
    })

-- what is seen of the resources is what is seen of their entries
seen_alike : {Y : Type 0} (of_entry : Entry → Y) (of_tracked : Tracked → Y) → ((tree : Meaning) (tracked : Tracked) (is : IsOfEntry tree tracked) → of_tracked tracked ≡ of_entry is.entry)
    → (trees : List Meaning) (entries : List Entry) (resources : List Tracked) → entries_in trees ≡ Some entries → tracked_in trees ≡ Some resources
    → map of_entry entries ≡ map of_tracked resources
seen_alike of_entry of_tracked alike [] entries resources e f =
    ap (map of_entry) (sym (same_some [] entries e)) ∙ ap (map of_tracked) (same_some [] resources f)
seen_alike of_entry of_tracked alike (tree ∷ trees) entries resources e f =
    let read = taken (entry_of tree) (entries_in trees) entries e in
    let made = taken (tracked_of tree) (tracked_in trees) resources f in
    let is = tracked_is_of_entry tree made.0 made.2 in
    let one : read.0 ≡ is.entry = same_some read.0 is.entry (sym read.2 ∙ is.read) in
    ap (map of_entry) (sym read.4)
    ∙ ap₂ (λ x xs. x ∷ xs) (ap of_entry one ∙ sym (alike tree made.0 is)) (seen_alike of_entry of_tracked alike trees read.1 made.1 read.3 made.3)
    ∙ ap (map of_tracked) made.4

resources_apart : (trees : List Meaning) (entries : List Entry) (resources : List Tracked) → entries_in trees ≡ Some entries → tracked_in trees ≡ Some resources
    → are_apart entries ≡ true → AreApart resources
resources_apart trees entries resources e f are =
    let types = map {B = List ℕ × List ℕ} (λ (entry : Entry). (entry.group, entry.resource)) entries in
    let kinds = map {B = List ℕ × List ℕ} (λ (entry : Entry). (entry.group, entry.kind)) entries in
    let parts = and_parts (are_distinct pair_eq types) (are_distinct pair_eq kinds) are in
    let same_types = seen_alike {Y = List ℕ × List ℕ} (λ entry. (entry.group, entry.resource)) (λ tracked. (tracked.group, tracked.resource))
    (λ tree tracked is. (λ i. (is.group i, is.resource i))) trees entries resources e f in
    let same_kinds = seen_alike {Y = List ℕ × List ℕ} (λ entry. (entry.group, entry.kind)) (λ tracked. (tracked.group, tracked.kind))
    (λ tree tracked is. (λ i. (is.group i, is.kind i))) trees entries resources e f in
    let by_type = distinct_apart pair_eq (λ (tracked : Tracked). (tracked.group, tracked.resource)) pairs_tell resources (ap (are_distinct pair_eq) (sym same_types) ∙ parts.0) in
    let by_kind = distinct_apart pair_eq (λ (tracked : Tracked). (tracked.group, tracked.kind)) pairs_tell resources (ap (are_distinct pair_eq) (sym same_kinds) ∙ parts.1) in
    record {
      types = λ i j d below within same. by_type i j d below within (λ k. (same.0 k, same.1 k));
      kinds = λ i j d below within same. by_kind i j d below within (λ k. (same.0 k, same.1 k));
      subresources = gathered_all tracked_of tracked_in refl (λ x xs. refl) (λ tree. ⊤) AreNamedApart
          (λ tree tracked any made. (tracked_is_of_entry tree tracked made).subresources) trees resources (λ i d within. tt) f;
    }

pub resources_are_apart : (tree : Meaning) (resources : List Tracked) → resources_at tree ≡ Ok resources → AreApart resources
resources_are_apart tree resources e =
    let trees = kept_both (or_breaks S8 (chained (member_of (codes "resources") tree) items_of)) _ resources e in
    let entries = kept_both (or_breaks S8 (entries_in trees.0)) _ resources trees.2 in
    let apart = test_kept S9 (are_apart entries.0) _ resources entries.2 in
    let shapes = test_kept S10 (list_all has_shape trees.0) _ resources apart.1 in
    resources_apart trees.0 entries.0 resources (not_broken S8 _ entries.0 entries.1) (not_broken S11 _ resources shapes.1) apart.0
