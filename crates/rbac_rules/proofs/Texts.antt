-- Lists of texts, entries of `resources` and entries of `nonResourceURLs`, by what they mean.
use Rattle.std.proofs.Common.{◌≡◌, ◌≢◌, ℕ, ◌-◌, Bool, true, false, List, [], ◌∷◌, ◌++◌, length, get_or, take, drop, Decides, refl, sym, subst, ◌∙◌, inl, inr, codes, bytes_eq, nat_eq, ◌==◌, arith}
use Rattle.std.specs.List.{Contains, starts_with, ends_with}
use Rattle.std.proofs.lemmas.Bool.Decides.{Decides-eqb}
use Rattle.std.proofs.lemmas.List.Folds.{Any-from_list_any, list_any-from_Any}
use Rattle.std.proofs.lemmas.Slice.Eq.{bytes_eq-Decides, starts_is, ends_is}
use Rattle.base_types.specs.Matching.{has_text, path_matches}
use Rattle.base_types.specs.declared.kubernetes.request.RequestAttrs.{RequestAttrs}
use Rattle.base_types.proofs.MatchingLemmas.{front_matches, whole_matches}
use Rattle.rbac_rules.specs.Granting.{IsPathTaken, IsResourceNamed, everything, resource, subresource, of_each_resource}

pub has_text-Decides : (texts : List (List ℕ)) (text : List ℕ) → Decides (has_text texts text) (Contains texts text)
has_text-Decides texts text = (
  λ is. let any = Any-from_list_any (λ item. bytes_eq item text) texts is in
      let same : any.1 ≡ text = (bytes_eq-Decides any.1 text).0 any.4 in
      (any.0, any.2, subst (λ (x : List ℕ). get_or texts any.0 x ≡ x) same any.3),
  λ among. list_any-from_Any (λ item. bytes_eq item text) texts (among.0, text, among.1, among.2, (bytes_eq-Decides text text).1 refl),
)

-- an entry other than `*`, of a request without a subresource
pub whole_named : (attrs : RequestAttrs) (entry name : List ℕ) (r : Bool) → attrs.subresource ≡ [] → entry ≢ codes "*" → name ≡ attrs.resource → r ≡ bytes_eq entry name
    → Decides r (IsResourceNamed attrs entry)
whole_named attrs entry name r empty other is told = (
  λ same. resource empty ((bytes_eq-Decides entry name).0 (sym told ∙ same) ∙ is),
  λ named. elim named [
    | everything e ↦ absurd (other e)
    | resource _ e ↦ told ∙ (bytes_eq-Decides entry name).1 (e ∙ sym is)
    | subresource present e ↦ absurd (present empty)
    | of_each_resource present e ↦ absurd (present empty)
  ],
)

pub no_items : (xs : List ℕ) → (length xs == 0) ≡ true → xs ≡ []
no_items [] e = refl
no_items (x ∷ xs) e = let none : length (x ∷ xs) ≡ 0 = (Decides-eqb (length (x ∷ xs)) 0).0 e in absurd (omega arith)

pub differs : (a b : List ℕ) (r : Bool) → r ≡ bytes_eq a b → r ≡ false → a ≢ b
differs a b r told is same = let equal : bytes_eq a b ≡ true = (bytes_eq-Decides a b).1 same in absurd (cc)

begins : (path front : List ℕ) → Decides (starts_with nat_eq path front) ((rest : List ℕ) × (path ≡ front ++ rest))
begins path front =
    let told = starts_is Decides-eqb path front (starts_with nat_eq path front) refl in
    (λ is. (drop (length front) path, told.0 is), λ e. told.1 e.0 e.1)

-- with a last `*`, and without
starred : (entry path front : List ℕ) → entry ≡ front ++ codes "*" → Decides (path_matches entry path) (IsPathTaken path entry)
starred entry path front e = (
  λ is. let on = (begins path front).0 (front_matches entry front path e ∙ is) in inr (front, on.0, e, on.1),
  λ taken. elim taken [
    | inl same ↦ sym (front_matches entry front path e) ∙ (begins path front).1 (codes "*", sym same ∙ e)
    | inr on ↦ sym (front_matches entry on.0 path on.2) ∙ (begins path on.0).1 (on.1, on.3)
  ],
)

plain : (entry path : List ℕ) → ((front : List ℕ) → entry ≢ front ++ codes "*") → Decides (path_matches entry path) (IsPathTaken path entry)
plain entry path none = (
  λ is. inl ((bytes_eq-Decides entry path).0 (whole_matches entry path none ∙ is)),
  λ taken. elim taken [
    | inl same ↦ sym (whole_matches entry path none) ∙ (bytes_eq-Decides entry path).1 same
    | inr on ↦ absurd (none on.0 on.2)
  ],
)

by_end : (entry path : List ℕ) (ends : Bool) → ends ≡ ends_with nat_eq entry (codes "*") → Decides (path_matches entry path) (IsPathTaken path entry)
by_end entry path true is = starred entry path (take (length entry - 1) entry) ((ends_is Decides-eqb entry (codes "*") _ refl).0 (sym is))
by_end entry path false is =
    plain entry path (λ front e. let ends : ends_with nat_eq entry (codes "*") ≡ true = (ends_is Decides-eqb entry (codes "*") _ refl).1 front e in absurd (cc))

pub path_matches-Decides : (entry path : List ℕ) → Decides (path_matches entry path) (IsPathTaken path entry)
path_matches-Decides entry path = by_end entry path (ends_with nat_eq entry (codes "*")) refl
