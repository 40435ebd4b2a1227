-- Which document has a resource, entry by entry and file by file.
use Rattle.std.proofs.Common.{◌≡◌, ◌≢◌, ℕ, List, [], ◌∷◌, ◌++◌, Bool, true, false, cond, ◌&&◌, Option, Some, None, bytes_eq, codes, if◌then◌else◌, refl, sym, ◌∙◌, ap}
use Rattle.std.specs.Prelude.{is_some, option_map}
use Rattle.std.specs.BTreeMap.{BTreeMap, Updates, get_by}
use Rattle.std.specs.Cmp.{tied_then}
use Rattle.std.specs.Cmp.Lexicographic.{slice_cmp}
use Rattle.std.specs.List.{find}
use Rattle.std.specs.Ordering.{is_eq, nat_cmp}
use Rattle.std.specs.Map.{lookup}
use Rattle.std.proofs.lemmas.Bool.{false_from_ne_true}
use Rattle.std.proofs.lemmas.Bool.Decides.{same_from_decides}
use Rattle.std.proofs.lemmas.List.{append_cancel_right}
use Rattle.std.proofs.lemmas.Map.Text.{is_eq-slice_cmp}
use Rattle.std.proofs.lemmas.Slice.Eq.{bytes_eq-Decides}
use Rattle.base_types.specs.Meaning.{Meaning}
use Rattle.base_types.specs.Texts.{◌>>=◌}
use Rattle.cluster_setup.specs.declared.finding.FoundResource.{FoundResource}
use Rattle.cluster_setup.specs.Files.{is_discovery, is_whole_name, listed, word}
use Rattle.cluster_setup.specs.Found.{entry_in, found_in, is_entry_for, is_list_of, is_source, source_of}
use Rattle.cluster_setup.specs.Indexed.{AreEntries, AreSources, Names, by_names, entry_found, pair_of, source_found}

-- whether names are those of a key
pub same_names : (first second : List ℕ) (names : Names) → is_eq (by_names first second names) ≡ (bytes_eq first names.0.now && bytes_eq second names.1.now)
same_names first second names =
    sym (tied_then (slice_cmp nat_cmp first names.0.now) (slice_cmp nat_cmp second names.1.now))
    ∙ ap (λ b. b && is_eq (slice_cmp nat_cmp second names.1.now)) (is_eq-slice_cmp first names.0.now)
    ∙ ap (λ b. bytes_eq first names.0.now && b) (is_eq-slice_cmp second names.1.now)

-- the kind of a list is told by the kind of its objects
same_kind : (kind own list_kind : List ℕ) → list_kind ≡ kind ++ codes "List" → bytes_eq own kind ≡ bytes_eq list_kind (own ++ codes "List")
same_kind kind own list_kind is =
    same_from_decides (bytes_eq own kind) (bytes_eq list_kind (own ++ codes "List")) (
      λ same. is ∙ ap (λ k. k ++ codes "List") (sym ((bytes_eq-Decides own kind).0 same)),
      λ same. (bytes_eq-Decides own kind).1 (append_cancel_right own kind (codes "List") (sym same ∙ is)),
    )
    (bytes_eq-Decides list_kind (own ++ codes "List"))

map_choice : {A B : Type 0} (f : A → B) (first : Bool) (x y : Option A) → option_map f (cond first x y) ≡ cond first (option_map f x) (option_map f y)
map_choice f true x y = refl
map_choice f false x y = refl

put_cases : (version kind whole : Bool) (document entry : Meaning) (found : Option Meaning) (behind : Option (Meaning × Meaning)) → whole ≡ true
    → cond (version && kind) (Some (document, entry)) (entry_found document found version behind)
    ≡ entry_found document (cond (whole && kind) (Some entry) found) version behind
put_cases true true true document entry found behind is = refl
put_cases true false true document entry found behind is = refl
put_cases false true true document entry (Some other) behind is = refl
put_cases false true true document entry None behind is = refl
put_cases false false true document entry found behind is = refl
put_cases version kind false document entry found behind is = absurd (cc)

skipped_entry : (whole kind : Bool) (entry : Meaning) (found : Option Meaning) → whole ≡ false → found ≡ cond (whole && kind) (Some entry) found
skipped_entry true kind entry found is = absurd (cc)
skipped_entry false kind entry found is = refl

-- an entry in front of others
pub entry_put : (old new : BTreeMap Names FoundResource) (names : Names) (value : FoundResource) (document entry : Meaning) (later behind : List Meaning)
    → names.0.now ≡ word (codes "groupVersion") document → names.1.now ≡ word (codes "kind") entry → pair_of value ≡ (document, entry)
    → is_whole_name (word (codes "name") entry) ≡ true
    → Updates (λ (x y : Names). by_names x.0.now x.1.now y) old new names (Some value)
    → AreEntries old document later behind → AreEntries new document (entry ∷ later) behind
entry_put old new names value document entry later behind versioned kinded is whole updates held = λ list kind ends.
    let version = word (codes "apiVersion") list in
    let query : Names = (record { ref_ptr = (0, 0); now = version }, record { ref_ptr = (0, 0); now = kind }) in
    let found = find (is_entry_for list) later in
    let same = bytes_eq (word (codes "groupVersion") document) version in
    let others = entry_found document found same (source_found behind list) in
    ap (option_map pair_of) (updates.0 query)
    ∙ map_choice pair_of (is_eq (by_names names.0.now names.1.now query)) (Some value) (get_by (by_names version kind) old)
    ∙ ap (λ b. cond b (Some (pair_of value)) (option_map pair_of (get_by (by_names version kind) old))) (same_names names.0.now names.1.now query)
    ∙ ap (λ v. cond (bytes_eq v version && bytes_eq names.1.now kind) (Some (pair_of value)) (option_map pair_of (get_by (by_names version kind) old))) versioned
    ∙ ap (λ k. cond (same && bytes_eq k kind) (Some (pair_of value)) (option_map pair_of (get_by (by_names version kind) old))) kinded
    ∙ ap (λ b. cond (same && b) (Some (pair_of value)) (option_map pair_of (get_by (by_names version kind) old))) (same_kind kind (word (codes "kind") entry) (word (codes "kind") list) ends)
    ∙ ap (λ p. cond (same && is_list_of (word (codes "kind") entry) (word (codes "kind") list)) (Some p) (option_map pair_of (get_by (by_names version kind) old))) is
    ∙ ap (λ o. cond (same && is_list_of (word (codes "kind") entry) (word (codes "kind") list)) (Some (document, entry)) o) (held list kind ends)
    ∙ put_cases same (is_list_of (word (codes "kind") entry) (word (codes "kind") list)) (is_whole_name (word (codes "name") entry)) document entry found (source_found behind list) whole

-- an entry of no resource in front of others
pub entry_skipped : (known : BTreeMap Names FoundResource) (document entry : Meaning) (later behind : List Meaning) → is_whole_name (word (codes "name") entry) ≡ false
    → AreEntries known document later behind → AreEntries known document (entry ∷ later) behind
entry_skipped known document entry later behind part held = λ list kind ends.
    held list kind ends
    ∙ ap (λ found. entry_found document found (bytes_eq (word (codes "groupVersion") document) (word (codes "apiVersion") list)) (source_found behind list))
    (skipped_entry (is_whole_name (word (codes "name") entry)) (is_list_of (word (codes "kind") entry) (word (codes "kind") list)) entry (find (is_entry_for list) later) part)

source_cases : (discovery some version : Bool) (document : Meaning) (others : Option Meaning) (In : Meaning → Option (Meaning × Meaning)) → discovery ≡ true
    → (if some && version then In document else (others >>= In)) ≡ (cond ((discovery && some) && version) (Some document) others >>= In)
source_cases true true true document others In is = refl
source_cases true true false document others In is = refl
source_cases true false version document others In is = refl
source_cases false some version document others In is = absurd (cc)

skipped_document : (discovery some version : Bool) (document : Meaning) (others : Option Meaning) → discovery ≡ false
    → others ≡ cond ((discovery && some) && version) (Some document) others
skipped_document true some version document others is = absurd (cc)
skipped_document false some version document others is = refl

-- all entries of a document
pub document_put : (known : BTreeMap Names FoundResource) (document : Meaning) (behind : List Meaning) → is_discovery document ≡ true
    → AreEntries known document (listed (codes "resources") document) behind → AreSources known (document ∷ behind)
document_put known document behind discovery held = λ list kind ends.
    held list kind ends
    ∙ source_cases (is_discovery document) (is_some (entry_in list document)) (bytes_eq (word (codes "groupVersion") document) (word (codes "apiVersion") list))
    document (source_of behind list) (found_in list) discovery

-- a file that tells of no resources
pub document_skipped : (known : BTreeMap Names FoundResource) (document : Meaning) (behind : List Meaning) → is_discovery document ≡ false
    → AreSources known behind → AreSources known (document ∷ behind)
document_skipped known document behind other held = λ list kind ends.
    held list kind ends
    ∙ ap (λ source. source >>= found_in list)
    (skipped_document (is_discovery document) (is_some (entry_in list document)) (bytes_eq (word (codes "groupVersion") document) (word (codes "apiVersion") list))
    document (source_of behind list) other)

-- no file
pub no_sources : (known : BTreeMap Names FoundResource) → known.entries ≡ [] → AreSources known []
no_sources known empty = λ list kind ends. ap (λ es. option_map pair_of (lookup (λ names. is_eq (by_names (word (codes "apiVersion") list) kind names)) es)) empty

none_passes : {A : Type 0} (test : A → Bool) (xs : List A) → ((x : A) → test x ≡ false) → find test xs ≡ None
none_passes test [] none = refl
none_passes test (x ∷ xs) none = ap (λ b. cond b (Some x) (find test xs)) (none x) ∙ none_passes test xs none

both_false : (whole kind : Bool) → kind ≡ false → (whole && kind) ≡ false
both_false true kind is = is
both_false false kind is = refl

unsourced : (discovery version : Bool) (found : Option Meaning) → found ≡ None → ((discovery && is_some found) && version) ≡ false
unsourced true version found is = ap (λ o. is_some o && version) is
unsourced false version found is = refl

-- what isn't the kind of a list has no resource
pub no_source : (trees : List Meaning) (list : Meaning) → ((front : List ℕ) → word (codes "kind") list ≢ front ++ codes "List") → source_found trees list ≡ None
no_source trees list none =
    let no_entry : (entry : Meaning) → is_entry_for list entry ≡ false =
    λ entry. both_false (is_whole_name (word (codes "name") entry)) (is_list_of (word (codes "kind") entry) (word (codes "kind") list))
    (false_from_ne_true _ (λ same. none (word (codes "kind") entry) ((bytes_eq-Decides (word (codes "kind") list) (word (codes "kind") entry ++ codes "List")).0 same))) in
    ap (λ source. source >>= found_in list) (none_passes (is_source list) trees (λ document.
    unsourced (is_discovery document) (bytes_eq (word (codes "groupVersion") document) (word (codes "apiVersion") list)) (entry_in list document)
    (none_passes (is_entry_for list) (listed (codes "resources") document) no_entry)))

some_cases : (discovery version : Bool) (document : Meaning) (found : Option Meaning) (others : Option Meaning) (In : Meaning → Option (Meaning × Meaning))
    → In document ≡ option_map (λ entry. (document, entry)) found → is_some (others >>= In) ≡ is_some others
    → is_some (cond ((discovery && is_some found) && version) (Some document) others >>= In) ≡ is_some (cond ((discovery && is_some found) && version) (Some document) others)
some_cases true true document (Some entry) others In is rest = ap is_some is
some_cases true false document (Some entry) others In is rest = rest
some_cases true version document None others In is rest = rest
some_cases false version document found others In is rest = rest

-- a document that has the resource of a list has an entry of it
pub some_source : (trees : List Meaning) (list : Meaning) → is_some (source_found trees list) ≡ is_some (source_of trees list)
some_source [] list = refl
some_source (document ∷ trees) list =
    some_cases (is_discovery document) (bytes_eq (word (codes "groupVersion") document) (word (codes "apiVersion") list)) document (entry_in list document)
    (source_of trees list) (found_in list) refl (some_source trees list)
