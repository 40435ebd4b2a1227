-- What is made of the items of a list where something is, one place after another.
use Rattle.std.proofs.Common.{◌≡◌, ℕ, zero, suc, ◌+◌, ◌<◌, ◌≤◌, List, [], ◌∷◌, ◌++◌, length, drop, Option, Some, None, refl, sym, ap, ◌∙◌, append_assoc, add-one, arith, length-append}
use Rattle.std.specs.Prelude.{option_and_then, slice_get}
use Rattle.std.specs.List.{filter_map, cons_option}
use Rattle.std.specs.Option.{option_to_list}

at_place : {A B : Type 0} (f : A → Option B) (xs : List A) (i : ℕ) → i < length xs → filter_map f (drop i xs) ≡ cons_option (option_and_then f (slice_get xs i)) (filter_map f (drop (suc i) xs))
at_place f [] i lt = absurd (omega arith)
at_place f (x ∷ xs) zero lt = refl
at_place f (x ∷ xs) (suc i) lt = at_place f xs i (omega arith)

listed : {B : Type 0} (o : Option B) (xs : List B) → cons_option o xs ≡ option_to_list o ++ xs
listed None xs = refl
listed (Some x) xs = refl

one_at_most : {B : Type 0} (o : Option B) → length (option_to_list o) ≤ 1
one_at_most None = omega arith
one_at_most (Some x) = omega arith

module _ {A B : Type 0} (f : A → Option B) (all : List B) (xs : List A) (i : ℕ) (o : Option B) (done later : List B) (lt : i < length xs) (made : o ≡ option_and_then f (slice_get xs i)) (put : later ≡ done ++ option_to_list o) where
  pub placed : all ≡ done ++ filter_map f (drop i xs) → all ≡ later ++ filter_map f (drop (i + 1) xs)
  placed before =
      before
      ∙ ap (λ l. done ++ l) (at_place f xs i lt ∙ ap (λ p. cons_option p (filter_map f (drop (suc i) xs))) (sym made) ∙ listed o (filter_map f (drop (suc i) xs)))
      ∙ sym (append_assoc done (option_to_list o) (filter_map f (drop (suc i) xs)))
      ∙ ap (λ l. l ++ filter_map f (drop (suc i) xs)) (sym put)
      ∙ ap (λ n. later ++ filter_map f (drop n xs)) (sym (add-one i))

  pub few_placed : length done ≤ i → length later ≤ i + 1
  few_placed le =
      let same : length later ≡ length done + length (option_to_list o) = ap length put ∙ length-append done (option_to_list o) in
      let one = one_at_most o in
      omega arith
