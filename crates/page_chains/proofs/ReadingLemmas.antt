-- The tokens of a query, and what is made of the items of a list where something is.
use Rattle.std.proofs.Common.{◌≡◌, ℕ, ◌+◌, ◌<◌, List, [], ◌∷◌, ◌++◌, length, get_or, drop, Option, Some, None, refl, sym, ap, ◌∙◌, append_assoc}
use Rattle.std.specs.List.{filter_map, cons_option}
use Rattle.base_types.specs.declared.kubernetes.request.Pair.{Pair}
use Rattle.setup_file.proofs.Seen.{cut}
use Rattle.answer_class.specs.Lists.{one_at_most}
use Rattle.page_chains.specs.declared.page.Asked.{Asked}
use Rattle.page_chains.specs.declared.page.Asked.TheVariants.{First, Next, Unclear}
use Rattle.page_chains.specs.Pages.{asked_by}

abbrev pub asked_at_most : Option (Option Pair) → Asked
asked_at_most None = Unclear
asked_at_most (Some None) = First
asked_at_most (Some (Some p)) = Next p.value

pub asked_as : (ps : List Pair) → asked_by ps ≡ asked_at_most (one_at_most ps)
asked_as [] = refl
asked_as (p ∷ []) = refl
asked_as (p ∷ q ∷ ps) = refl

module _ {A B : Type 0} (f : A → Option B) (all : List B) (xs : List A) (i : ℕ) (x : A) (done : List B) (lt : i < length xs) (is : x ≡ get_or xs i x) where
  pub takes : (y : B) → Some y ≡ f x → all ≡ done ++ filter_map f (drop i xs) → all ≡ (done ++ y ∷ []) ++ filter_map f (drop (i + 1) xs)
  takes y made before =
      before
      ∙ ap (λ l. done ++ filter_map f l) (cut xs i x lt is)
      ∙ ap (λ o. done ++ cons_option o (filter_map f (drop (i + 1) xs))) (sym made)
      ∙ sym (append_assoc done (y ∷ []) (filter_map f (drop (i + 1) xs)))

  pub leaves : None ≡ f x → all ≡ done ++ filter_map f (drop i xs) → all ≡ done ++ filter_map f (drop (i + 1) xs)
  leaves made before =
      before
      ∙ ap (λ l. done ++ filter_map f l) (cut xs i x lt is)
      ∙ ap (λ o. done ++ cons_option o (filter_map f (drop (i + 1) xs))) (sym made)
