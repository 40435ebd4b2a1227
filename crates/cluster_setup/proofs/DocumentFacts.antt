-- The names of the entries of a document, one entry after another.
use Rattle.std.proofs.Common.{◌≡◌, ℕ, ◌+◌, ◌<◌, List, [], ◌∷◌, ◌++◌, length, get_or, take, Bool, true, false, cond, ◌||◌, bytes_eq, codes, BTreeSet, nat_cmp, is_eq, refl, sym, ◌∙◌, ap}
use Rattle.std.specs.BTreeSet.{Updates}
use Rattle.std.specs.Cmp.Lexicographic.{slice_cmp}
use Rattle.std.specs.List.{list_any}
use Rattle.std.proofs.lemmas.List.{take_more}
use Rattle.std.proofs.lemmas.List.Folds.{list_any-append}
use Rattle.std.proofs.lemmas.Map.Text.{is_eq-slice_cmp}
use Rattle.base_types.specs.Matching.{combined}
use Rattle.base_types.specs.Meaning.{Meaning}
use Rattle.cluster_setup.specs.Documents.{AreNames, NamesAdded, has_name}
use Rattle.cluster_setup.specs.Files.{listed, word}
use Rattle.cluster_setup.specs.Making.{is_served}

pub none_named : (names : BTreeSet (List ℕ)) → names.keys ≡ [] → AreNames names []
none_named names empty = λ text. ap (list_any (λ key. is_eq (slice_cmp nat_cmp text key))) empty

or_is : (a b : Bool) → cond a true b ≡ (b || a)
or_is true true = refl
or_is true false = refl
or_is false true = refl
or_is false false = refl

-- one name more
pub name_added : (old new : BTreeSet (List ℕ)) (name key : List ℕ) → key ≡ name → Updates (slice_cmp nat_cmp) old new key true → NamesAdded old new name
name_added old new name key is updates = λ text.
    updates.0 text
    ∙ ap (λ same. cond same true (has_name old text)) (is_eq-slice_cmp key text)
    ∙ ap (λ k. cond (bytes_eq k text) true (has_name old text)) is
    ∙ or_is (bytes_eq name text) (has_name old text)

or_none : (a : Bool) → a ≡ (a || false)
or_none true = refl
or_none false = refl

-- the names of one entry more
pub entry_named : (old new : BTreeSet (List ℕ)) (entries : List Meaning) (i : ℕ) (entry : Meaning) → i < length entries → entry ≡ get_or entries i entry
    → AreNames old (take i entries) → NamesAdded old new (word (codes "name") entry) → AreNames new (take (i + 1) entries)
entry_named old new entries i entry within is held added = λ text.
    let is_text : Meaning → Bool = λ e. bytes_eq (word (codes "name") e) text in
    added text
    ∙ ap (λ b. b || bytes_eq (word (codes "name") entry) text) (held text)
    ∙ ap (λ b. list_any is_text (take i entries) || b) (or_none (is_text entry) ∙ refl)
    ∙ sym (list_any-append is_text (take i entries) (entry ∷ []))
    ∙ ap (list_any is_text) (sym (take_more entries i entry within ∙ ap (λ e. take i entries ++ e ∷ []) (sym is)))

-- a name that is looked for in the set
pub served_by : (names : BTreeSet (List ℕ)) (document : Meaning) (resource name text : List ℕ) (found : Bool) → AreNames names (listed (codes "resources") document)
    → text ≡ combined resource name → found ≡ has_name names text → found ≡ is_served document resource name
served_by names document resource name text found held is said =
    said ∙ held text ∙ ap (λ t. list_any (λ entry. bytes_eq (word (codes "name") entry) t) (listed (codes "resources") document)) is
