-- The codes of writes that were judged, one after another.
use Rattle.std.proofs.Common.{◌≡◌, ℕ, ◌+◌, ◌<◌, ◌⊎◌, inl, inr, Bool, true, false, List, [], ◌∷◌, ◌++◌, length, get_or, take, Option, Some, None, Contains, refl, sym, ap, subst, ◌∙◌, true≢false, arith}
use Rattle.std.specs.BTreeMap.{get, Updates}
use Rattle.std.specs.Ordering.{is_eq, nat_cmp}
use Rattle.std.proofs.lemmas.Bool.{cond-true, cond-false}
use Rattle.std.proofs.lemmas.Bool.Decides.{nat_tests}
use Rattle.std.proofs.lemmas.List.{take_more}
use Rattle.std.proofs.lemmas.List.Elements.{Contains-append_left, Contains-push, Contains-push_cases}
use Rattle.base_types.specs.declared.verdict.claim.Reason.{Reason}
use Rattle.past_building.specs.declared.maker.JudgedWrite.{JudgedWrite}
use Rattle.log_context.specs.Makings.{AreMakingsOf, IsCodeIn, Makings}

tied : (a b : ℕ) → is_eq (nat_cmp a b) ≡ true → a ≡ b
tied a b e = grind (arith, nat_tests)

tie : (a b : ℕ) → a ≡ b → is_eq (nat_cmp a b) ≡ true
tie a b e = grind (arith, nat_tests)

kept : (judged : List JudgedWrite) (one : JudgedWrite) (number : ℕ) (code : Option (Option Reason)) → (one.number ≡ number → ⊥) → IsCodeIn judged number code → IsCodeIn (judged ++ one ∷ []) number code
kept judged one number None other none = λ x c same. go x same (Contains-push_cases judged one x c)
  where
    go : (x : JudgedWrite) → x.number ≡ number → Contains judged x ⊎ (one ≡ x) → ⊥
    go x same (inl c) = none x c same
    go x same (inr e) = other (ap (λ (y : JudgedWrite). y.number) e ∙ same)
kept judged one number (Some code) other (x, c, same, is) = (x, Contains-append_left judged (one ∷ []) x c, same, is)

pub makings_more : (judged : List JudgedWrite) (one : JudgedWrite) (old new : Makings) → Updates nat_cmp old new one.number (Some one.making) → AreMakingsOf judged old → AreMakingsOf (judged ++ one ∷ []) new
makings_more judged one old new updates are number = go (is_eq (nat_cmp one.number number)) refl
  where
    go : (b : Bool) → is_eq (nat_cmp one.number number) ≡ b → IsCodeIn (judged ++ one ∷ []) number (get nat_cmp new number)
    go true e = subst (IsCodeIn (judged ++ one ∷ []) number) (sym (updates.0 number ∙ cond-true (is_eq (nat_cmp one.number number)) (Some one.making) (get nat_cmp old number) e))
        (one, Contains-push judged one, tied one.number number e, refl)
    go false e = subst (IsCodeIn (judged ++ one ∷ []) number) (sym (updates.0 number ∙ cond-false (is_eq (nat_cmp one.number number)) (Some one.making) (get nat_cmp old number) e))
        (kept judged one number (get nat_cmp old number) (λ same. true≢false (sym (tie one.number number same) ∙ e)) (are number))

pub makings_next : (judged : List JudgedWrite) (i : ℕ) (d : JudgedWrite) (old new : Makings) → i < length judged → Updates nat_cmp old new (get_or judged i d).number (Some (get_or judged i d).making)
    → AreMakingsOf (take i judged) old → AreMakingsOf (take (i + 1) judged) new
makings_next judged i d old new within updates are = subst (λ l. AreMakingsOf l new) (sym (take_more judged i d within)) (makings_more (take i judged) (get_or judged i d) old new updates are)
