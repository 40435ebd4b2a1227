-- Two lists whose items belong together place by place, one more at a time.
use Rattle.std.proofs.Common.{◌≡◌, ℕ, zero, suc, ◌+◌, ◌<◌, ◌≤◌, List, [], ◌∷◌, ◌++◌, length, get_or, take, Some, subst, sym, ap, refl, ◌∙◌, arith}
use Rattle.std.specs.List.{AllZip}
use Rattle.std.specs.Prelude.{slice_get}
use Rattle.std.proofs.lemmas.List.{length-take-le}
use Rattle.std.proofs.lemmas.Option.{slice_get-get_or}
use Rattle.base_types.specs.Meaning.{Meaning}
use Rattle.setup_file.specs.Reading.{IsTreeOf}
use Rattle.cluster_setup.specs.Refusing.{AreTrees, IsFirstBroken}

pub zip_length : {A B : Type 0} (R : A → B → Type 0) (xs : List A) (ys : List B) → AllZip R xs ys → length xs ≡ length ys
zip_length R [] [] z = refl
zip_length R [] (y ∷ ys) z = absurd z
zip_length R (x ∷ xs) [] z = absurd z
zip_length R (x ∷ xs) (y ∷ ys) z = ap (λ n. suc n) (zip_length R xs ys z.1)

pub zip_more : {A B : Type 0} (R : A → B → Type 0) (xs : List A) (ys : List B) (i : ℕ) (x : A) (y : B) → i < length xs → x ≡ get_or xs i x
    → AllZip R (take i xs) ys → R x y → AllZip R (take (i + 1) xs) (ys ++ y ∷ [])
zip_more R [] ys i x y lt at z r = absurd (omega arith)
zip_more R (a ∷ xs) [] zero x y lt at z r = (subst (λ v. R v y) at r, tt)
zip_more R (a ∷ xs) (b ∷ ys) zero x y lt at z r = absurd z
zip_more R (a ∷ xs) [] (suc i) x y lt at z r = absurd z
zip_more R (a ∷ xs) (b ∷ ys) (suc i) x y lt at z r =
    let e : suc i + 1 ≡ suc (i + 1) = omega arith in
    rw e (z.0, zip_more R xs ys i x y (omega arith) at z.1 r)

-- a file that is no JSON text of a tree, behind those that are
pub first_broken : (files : List (List ℕ)) (number : ℕ) (file : List ℕ) (before : List Meaning) → number < length files → file ≡ get_or files number file
    → AreTrees (take number files) before → ((tree : Meaning) → IsTreeOf file tree → ⊥) → IsFirstBroken files (number + 1)
first_broken files number file before lt at read none =
    let few : number ≤ length files = omega (arith, lt) in
    let same : number ≡ length before = sym (length-take-le number files few) ∙ zip_length IsTreeOf (take number files) before read in
    let there : slice_get files number ≡ Some file = slice_get-get_or files number file lt ∙ ap (λ f. Some f) (sym at) in
    record {
      before = before;
      broken = file;
      read = subst (λ n. AreTrees (take n files) before) same read;
      numbered = ap (λ n. n + 1) same;
      at = subst (λ n. slice_get files n ≡ Some file) same there;
      none = none;
    }
