-- Each child that a tree has is among its children.
use Rattle.std.proofs.Common.{◌≡◌, ℕ, zero, suc, ◌+◌, Bool, true, false, List, [], ◌∷◌, ◌++◌, Option, Some, None, refl, sym, subst, ◌∙◌, arith, bytes_eq}
use Rattle.std.specs.Prelude.{option_and_then, if◌then◌else◌}
use Rattle.std.specs.List.{list_all}
use Rattle.std.proofs.lemmas.Bool.{and_parts}
use Rattle.std.proofs.lemmas.List.{append-nil, append_assoc}
use Rattle.std.proofs.lemmas.List.Folds.{list_all-append}
use Rattle.std.proofs.lemmas.Slice.Eq.{bytes_eq-Decides}
use Rattle.base_types.specs.Meaning.{Meaning, null, flag, whole, words, items, members, Kids, no_kids, kid, Fields, no_fields, field}
use Rattle.base_types.specs.Parts.{lookup}
use Rattle.base_types.specs.Pointers.{child_of, index_of, kid_at}
use Rattle.path_shape.specs.Forms.{at}
use Rattle.request_bodies.specs.Agreeing.{Child, index_text, children_in, children_of_items, children_of_members, children}
use Rattle.request_bodies.proofs.IndexTexts.{index_spelled}

abbrev Path : Type 0
Path = List (List ℕ)

pub at-none : (path : Path) → at path None ≡ None
at-none [] = refl
at-none (token ∷ path) = at-none path

module _ (P : Child → Bool) where
  -- a child passes the test, and so do all in its value
  abbrev Passes : Path → List ℕ → Meaning → Type 0
  Passes path token value = (P (path, token) ≡ true) × (list_all P (children_in (path ++ token ∷ []) value) ≡ true)

  first_passes : (path : Path) (token : List ℕ) (t : Meaning) (others : List Child)
      → list_all P ((path, token) ∷ (children_in (path ++ token ∷ []) t ++ others)) ≡ true → Passes path token t × (list_all P others ≡ true)
  first_passes path token t others all =
      let here = and_parts _ _ all in
      let rest = and_parts _ _ (sym (list_all-append P (children_in (path ++ token ∷ []) t) others) ∙ here.1) in
      ((here.0, rest.0), rest.1)

  item_passes : (path : Path) (n m k : ℕ) (ts : Kids) (u : Meaning) → k ≡ n + m → kid_at m ts ≡ Some u → list_all P (children_of_items path n ts) ≡ true → Passes path (index_text k) u
  item_passes path n m k no_kids u sum found all = absurd (cc)
  item_passes path n zero k (kid t ts) u sum found all =
      let same : t ≡ u = cc in
      let number : n ≡ k = omega arith in
      let passes = (first_passes path (index_text n) t (children_of_items path (suc n) ts) all).0 in
      subst (λ v. Passes path (index_text k) v) same (subst (λ l. Passes path (index_text l) t) number passes)
  item_passes path n (suc m) k (kid t ts) u sum found all =
      item_passes path (suc n) m k ts u (omega arith) found (first_passes path (index_text n) t (children_of_items path (suc n) ts) all).1

  member_passes : (path : Path) (name : List ℕ) (ms : Fields) (u : Meaning) → lookup name ms ≡ Some u → list_all P (children_of_members path ms) ≡ true → Passes path name u
  member_passes path name no_fields u found all = absurd (cc)
  member_passes path name (field k t ms) u found all = go (bytes_eq k name) refl found (member_passes path name ms u)
    where
      go : (b : Bool) → bytes_eq k name ≡ b → (if b then Some t else lookup name ms) ≡ Some u
          → (lookup name ms ≡ Some u → list_all P (children_of_members path ms) ≡ true → Passes path name u) → Passes path name u
      go true is found rest =
          let same : t ≡ u = cc in
          let name_is = (bytes_eq-Decides k name).0 is in
          subst (λ v. Passes path name v) same (subst (λ l. Passes path l t) name_is (first_passes path k t (children_of_members path ms) all).0)
      go false other found rest = rest found (first_passes path k t (children_of_members path ms) all).1

  child_passes : (path : Path) (token : List ℕ) (t u : Meaning) → child_of token t ≡ Some u → list_all P (children_in path t) ≡ true → Passes path token u
  child_passes path token null u found all = absurd (cc)
  child_passes path token (flag b) u found all = absurd (cc)
  child_passes path token (whole z) u found all = absurd (cc)
  child_passes path token (words s) u found all = absurd (cc)
  child_passes path token (items ts) u found all = go (index_of token) refl found
    where
      go : (o : Option ℕ) → index_of token ≡ o → option_and_then (λ n. kid_at n ts) o ≡ Some u → Passes path token u
      go None is found = absurd (cc)
      go (Some n) is found = subst (λ l. Passes path l u) (sym (index_spelled token n is)) (item_passes path 0 n n ts u (omega arith) found all)
  child_passes path token (members ms) u found all = member_passes path token ms u found all

  deep_passes : (below : Path) (token : List ℕ) (path : Path) (t u : Meaning) → at (below ++ token ∷ []) (Some t) ≡ Some u → list_all P (children_in path t) ≡ true → P (path ++ below, token) ≡ true
  deep_passes [] token path t u found all = subst (λ p. P (p, token) ≡ true) (sym (append-nil path)) (child_passes path token t u found all).0
  deep_passes (first ∷ below) token path t u found all = go (child_of first t) refl found (deep_passes below token (path ++ first ∷ []))
    where
      go : (o : Option Meaning) → child_of first t ≡ o → at (below ++ token ∷ []) o ≡ Some u
          → ((t u : Meaning) → at (below ++ token ∷ []) (Some t) ≡ Some u → list_all P (children_in (path ++ first ∷ []) t) ≡ true → P ((path ++ first ∷ []) ++ below, token) ≡ true)
          → P (path ++ first ∷ below, token) ≡ true
      go None is found deeper = absurd (let none : None ≡ Some u = sym (at-none (below ++ token ∷ [])) ∙ found in cc)
      go (Some v) is found deeper =
          subst (λ p. P (p, token) ≡ true) (append_assoc path (first ∷ []) below) (deeper v u found (child_passes path first t v is all).1)

  -- a child that the document has passes where all its children do
  pub passes : (tree : Option Meaning) (path : Path) (token : List ℕ) (u : Meaning) → at (path ++ token ∷ []) tree ≡ Some u → list_all P (children tree) ≡ true → P (path, token) ≡ true
  passes None path token u found all = absurd (let none : None ≡ Some u = sym (at-none (path ++ token ∷ [])) ∙ found in cc)
  passes (Some t) path token u found all = deep_passes path token [] t u found all

  pub list_all-each : ((child : Child) → P child ≡ true) → (list : List Child) → list_all P list ≡ true
  list_all-each each [] = refl
  list_all-each each (child ∷ list) = rw (each child) (list_all-each each list)
