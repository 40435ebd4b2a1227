-- What is left of a path where its outer slashes are cut off.
use Rattle.std.proofs.Common.{◌≡◌, ◌≢◌, ℕ, ◌<◌, List, [], ◌∷◌, ◌++◌, length, reverse, refl, sym, ap, ◌∙◌, inl, inr, arith}
use Rattle.std.specs.List.{slice_split}
use Rattle.std.proofs.lemmas.Bool.{cases_Bool, cond-false, eqb-true}
use Rattle.std.proofs.lemmas.List.{reverse-reverse, reverse-append}
use Rattle.request_attrs.specs.Paths.{is_slash, without_leading, without_trailing, split_at_slashes}

-- a path that begins with no slash stays
pub without_leading_kept : (bs : List ℕ) → ((rest : List ℕ) → bs ≢ 47 ∷ rest) → without_leading bs ≡ bs
without_leading_kept [] none = refl
without_leading_kept (b ∷ bs) none =
    elim (cases_Bool (is_slash b)) [
      | inl slash ↦ absurd (none bs (ap (λ x. x ∷ bs) (eqb-true b 47 slash)))
      | inr other ↦ cond-false (is_slash b) (without_leading bs) (b ∷ bs) other
    ]

pub without_trailing_kept : (bs : List ℕ) → ((front : List ℕ) → bs ≢ front ++ (47 ∷ [])) → without_trailing bs ≡ bs
without_trailing_kept bs none =
    let kept = without_leading_kept (reverse bs) (λ rest e. none (reverse rest) (sym (reverse-reverse bs) ∙ ap reverse e ∙ reverse-append (47 ∷ []) rest)) in
    ap reverse kept ∙ reverse-reverse bs

pub split_some : (bs : List ℕ) → 0 < length bs → split_at_slashes bs ≡ slice_split is_slash bs
split_some [] some = absurd (omega arith)
split_some (b ∷ bs) some = refl
