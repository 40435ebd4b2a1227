-- A desk of files holds the names that it was given, and no others.
use Rattle.std.proofs.Common.{◌≡◌, ⊎_elim, ℕ, ◌+◌, ◌<◌, List, [], ◌∷◌, ◌++◌, length, get_or, map, take, Contains, Option, Some, None, Bool, true, false, cond, String, string_bytes, string_cmp, nat_cmp, refl, sym, ap, subst, ◌∙◌, arith}
use Rattle.std.specs.BTreeMap.{BTreeMap, get_by_text, UpdatesBy}
use Rattle.std.specs.Cmp.Lexicographic.{slice_cmp}
use Rattle.std.specs.Str.{bytes_eq}
use Rattle.std.proofs.lemmas.Bool.{false≢true}
use Rattle.std.proofs.lemmas.Map.Text.{btree_map_updates_text}
use Rattle.std.proofs.lemmas.List.{take_more, map-append}
use Rattle.std.proofs.lemmas.List.Elements.{Contains-push, Contains-push_cases, Contains-append_left}
use Rattle.std.proofs.lemmas.Slice.Eq.{bytes_eq-Decides}
use Rattle.edge_io.specs.Sources.{HoldsNames}
use Rattle.edge_io.specs.declared.system.Source.{Source}
use Rattle.edge_io.specs.declared.system.Source.TheVariants.{Unopened}

-- what stands at a text among texts
abbrev IsHeld : {F I : Type 0} → List (List ℕ) → List ℕ → Option (Source F I) → Type 0
IsHeld texts text held = (Contains texts text → held ≡ Some Unopened) × ((Contains texts text → ⊥) → held ≡ None)

text_added : {F I : Type 0} (texts : List (List ℕ)) (bs text : List ℕ) (old new : Option (Source F I)) (t : Bool) → bytes_eq bs text ≡ t → new ≡ cond t (Some Unopened) old → IsHeld texts text old → IsHeld (texts ++ bs ∷ []) text new
text_added texts bs text old new true is now held =
    let e = (bytes_eq-Decides bs text).0 is in
    (λ _. now, λ none. absurd (none (subst (Contains (texts ++ bs ∷ [])) e (Contains-push texts bs))))
text_added texts bs text old new false is now held = (
  λ among. ⊎_elim (λ before. now ∙ held.0 before) (λ e. absurd (false≢true (sym is ∙ (bytes_eq-Decides bs text).1 e))) (Contains-push_cases texts bs text among),
  λ none. now ∙ held.1 (λ before. none (Contains-append_left texts (bs ∷ []) text before)),
)

pub name_added : {Y F I : Type 0} (names : List (String Y)) (name key : String Y) (m n : BTreeMap (String Y) (Source F I)) → string_bytes key ≡ string_bytes name → HoldsNames names m
    → UpdatesBy string_cmp (λ k. slice_cmp nat_cmp (string_bytes key) (string_bytes k)) m n (Some Unopened) → HoldsNames (names ++ name ∷ []) n
name_added names name key m n same held updates text =
    let now = btree_map_updates_text (string_bytes key) m n (Some Unopened) updates text in
    let added = text_added (map string_bytes names) (string_bytes key) text (get_by_text m text) (get_by_text n text) (bytes_eq (string_bytes key) text) refl now (held text) in
    subst (λ texts. IsHeld texts text (get_by_text n text)) (ap (λ bs. map string_bytes names ++ bs ∷ []) same ∙ sym (map-append string_bytes names (name ∷ []))) added

pub next_name : {Y F I : Type 0} (names : List (String Y)) (at : ℕ) (name key : String Y) (m n : BTreeMap (String Y) (Source F I)) → at < length names → name ≡ get_or names at name → string_bytes key ≡ string_bytes name
    → HoldsNames (take at names) m → UpdatesBy string_cmp (λ k. slice_cmp nat_cmp (string_bytes key) (string_bytes k)) m n (Some Unopened) → HoldsNames (take (at + 1) names) n
next_name names at name key m n within here same held updates =
    subst (λ so_far. HoldsNames so_far n) (ap (λ x. take at names ++ x ∷ []) here ∙ sym (take_more names at name within)) (name_added (take at names) name key m n same held updates)

pub no_names : {Y F I : Type 0} (m : BTreeMap (String Y) (Source F I)) → m.entries ≡ [] → HoldsNames [] m
no_names m empty text = (λ among. let none = among.1 in absurd (omega (arith, none)), λ _. rw empty refl)
