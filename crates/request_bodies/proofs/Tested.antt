-- To test the root and the children that the trees have is to test all.
use Rattle.std.proofs.Common.{◌≡◌, ℕ, Bool, true, false, not, ◌||◌, IsTrue, List, [], ◌∷◌, ◌++◌, Option, Some, None, refl, sym, ◌∙◌}
use Rattle.std.specs.Prelude.{is_some, option_map}
use Rattle.std.specs.Bool.{Decides}
use Rattle.std.specs.List.{list_all}
use Rattle.std.proofs.lemmas.Bool.{and_parts, and_from}
use Rattle.std.proofs.lemmas.List.Folds.{list_all-append}
use Rattle.base_types.specs.Meaning.{Meaning}
use Rattle.path_shape.specs.declared.shape.FieldClass.{FieldClass}
use Rattle.path_shape.specs.declared.shape.Shape.{Shape}
use Rattle.path_shape.specs.Agreement.{FitsAt, Fits, Agrees, Keeps}
use Rattle.path_shape.specs.Forms.{at, thin_root}
use Rattle.path_shape.specs.Patterns.{Pattern, class_at, is_open, patterns_of, unasked, unasked_patterns}
use Rattle.request_bodies.specs.Agreeing.{Child, children, fits_at, fits_child, does_fit, does_agree, does_keep}
use Rattle.request_bodies.proofs.Children.{passes, list_all-each}
use Rattle.request_bodies.proofs.Fitting.{fits_at-Decides, nothing_fits}

module _ (root : FieldClass) (patterns : List Pattern) (had : Bool) (o a r : Option Meaning) where
  abbrev test : Child → Bool
  test = fits_child root patterns had o a r

  test_fits : (path : List (List ℕ)) (token : List ℕ) → is_open patterns path ≡ true → test (path, token) ≡ true → FitsAt root patterns had o a r (path ++ token ∷ [])
  test_fits path token opened passed =
      let fits : fits_at root patterns had o a r (path ++ token ∷ []) ≡ true = rw opened at passed in
      (fits_at-Decides root patterns had o a r (path ++ token ∷ [])).0 fits

  below : list_all test (children o) ≡ true → list_all test (children a) ≡ true → list_all test (children r) ≡ true
      → (path : List (List ℕ)) (token : List ℕ) → IsTrue (is_open patterns path) → FitsAt root patterns had o a r (path ++ token ∷ [])
  below all_o all_a all_r path token opened = go (at (path ++ token ∷ []) o) (at (path ++ token ∷ []) a) (at (path ++ token ∷ []) r) refl refl refl
    where
      go : (x y z : Option Meaning) → at (path ++ token ∷ []) o ≡ x → at (path ++ token ∷ []) a ≡ y → at (path ++ token ∷ []) r ≡ z
          → FitsAt root patterns had o a r (path ++ token ∷ [])
      go (Some t) y z in_o in_a in_r = test_fits path token opened (passes test o path token t in_o all_o)
      go None (Some t) z in_o in_a in_r = test_fits path token opened (passes test a path token t in_a all_a)
      go None None (Some t) in_o in_a in_r = test_fits path token opened (passes test r path token t in_r all_r)
      go None None None in_o in_a in_r = rw (in_o, in_a, in_r) (nothing_fits (is_open patterns (path ++ token ∷ [])) (class_at root patterns (path ++ token ∷ [])) had)

  fits : does_fit root patterns had o a r ≡ true → Fits root patterns had o a r
  fits passed =
      let parts = and_parts (fits_at root patterns had o a r []) (list_all test (children o ++ children a ++ children r)) passed in
      let last = and_parts (list_all test (children o ++ children a)) (list_all test (children r)) (sym (list_all-append test (children o ++ children a) (children r)) ∙ parts.1) in
      let first = and_parts (list_all test (children o)) (list_all test (children a)) (sym (list_all-append test (children o) (children a)) ∙ last.0) in record {
        here = (fits_at-Decides root patterns had o a r []).0 parts.0;
        below = below first.0 first.1 last.1;
      }

  each_passes : Fits root patterns had o a r → (child : Child) → test child ≡ true
  each_passes h child = go (is_open patterns child.0) refl
    where
      go : (u : Bool) → is_open patterns child.0 ≡ u → (not (is_open patterns child.0) || fits_at root patterns had o a r (child.0 ++ child.1 ∷ [])) ≡ true
      go true opened = rw opened ((fits_at-Decides root patterns had o a r (child.0 ++ child.1 ∷ [])).1 (h.below child.0 child.1 opened))
      go false closed = rw closed refl

  pub fit-Decides : Decides (does_fit root patterns had o a r) (Fits root patterns had o a r)
  fit-Decides = (
    fits,
    λ h. and_from (fits_at root patterns had o a r []) (list_all test (children o ++ children a ++ children r)) ((fits_at-Decides root patterns had o a r []).1 h.here) (list_all-each test (each_passes h) (children o ++ children a ++ children r)),
  )

pub agree-Decides : (shape : Shape) (old : Option Meaning) (asked answered : Meaning) → Decides (does_agree shape old asked answered) (Agrees shape old asked answered)
agree-Decides shape old asked answered = fit-Decides shape.root (patterns_of shape) (is_some old) (option_map thin_root old) (Some (thin_root asked)) (Some (thin_root answered))

pub keep-Decides : (shape : Shape) (old answered : Meaning) → Decides (does_keep shape old answered) (Keeps shape old answered)
keep-Decides shape old answered = fit-Decides (unasked shape.root) (unasked_patterns shape) true (Some (thin_root old)) (Some (thin_root old)) (Some (thin_root answered))
