-- What a list that was found adds to a setup.
use Rattle.std.proofs.Common.{◌≡◌, ℕ, ◌++◌, List, [], ◌∷◌, Option, Some, ap, ◌∙◌, codes}
use Rattle.std.specs.Prelude.{map}
use Rattle.base_types.specs.Meaning.{Meaning}
use Rattle.cluster_setup.specs.declared.table.Form.{Form}
use Rattle.cluster_setup.specs.Files.{word, listed, group_of}
use Rattle.cluster_setup.specs.Making.{entry_of, form_for, entries_from, object_entry, objects_from}

pub entry_added : (old : List Meaning) (list document entry made : Meaning) (kind : List ℕ) (form : Form) (found : Option (Meaning × Meaning))
    → made ≡ entry_of document entry kind form → kind ≡ word (codes "kind") list → form ≡ form_for document entry → Some (document, entry) ≡ found
    → old ++ (made ∷ []) ≡ old ++ entries_from list found
entry_added old list document entry made kind form found is named formed there =
    ap (λ e. old ++ (e ∷ [])) is
    ∙ ap (λ k. old ++ (entry_of document entry k form ∷ [])) named
    ∙ ap (λ f. old ++ (entry_of document entry (word (codes "kind") list) f ∷ [])) formed
    ∙ ap (λ f. old ++ entries_from list f) there

pub objects_added : (old : List Meaning) (list document entry : Meaning) (group name kind version : List ℕ) (items : List Meaning) (found : Option (Meaning × Meaning))
    → group ≡ group_of version → version ≡ word (codes "groupVersion") document → name ≡ word (codes "name") entry → kind ≡ word (codes "kind") entry
    → items ≡ listed (codes "items") list → Some (document, entry) ≡ found
    → old ++ map (object_entry group name kind version) items ≡ old ++ objects_from list found
objects_added old list document entry group name kind version items found grouped versioned named kinded shown there =
    ap (λ g. old ++ map (object_entry g name kind version) items) grouped
    ∙ ap (λ v. old ++ map (object_entry (group_of v) name kind v) items) versioned
    ∙ ap (λ n. old ++ map (object_entry (group_of (word (codes "groupVersion") document)) n kind (word (codes "groupVersion") document)) items) named
    ∙ ap (λ k. old ++ map (object_entry (group_of (word (codes "groupVersion") document)) (word (codes "name") entry) k (word (codes "groupVersion") document)) items) kinded
    ∙ ap (λ l. old ++ map (object_entry (group_of (word (codes "groupVersion") document)) (word (codes "name") entry) (word (codes "kind") entry) (word (codes "groupVersion") document)) l) shown
    ∙ ap (λ f. old ++ objects_from list f) there
