-- Lists that agree are one.
use Rattle.std.proofs.Common.{◌≡◌, ℕ, suc, ◌⊎◌, List, [], ◌∷◌, length, slice_get, Some, AllPairs, Contains, inl, inr, refl, sym, ap₂, ◌∙◌, subst, arith}
use Rattle.history_model.proofs.Members.{not_in_none, here, there, in_cons, pairs_head, pairs_tail, all_at}

-- two lists that rise strictly and have the same members
pub same_sorted : {X : Type 0} (R : X → X → Type 0) (xs ys : List X) → ((a b : X) → Contains xs a → Contains xs b → R a b → R b a → ⊥)
    → AllPairs R xs → AllPairs R ys → ((x : X) → Contains xs x → Contains ys x) → ((x : X) → Contains ys x → Contains xs x) → xs ≡ ys
same_sorted R [] [] once f g to back = refl
same_sorted R [] (y ∷ ys) once f g to back = absurd (not_in_none (back y (here y ys)))
same_sorted R (x ∷ xs) [] once f g to back = absurd (not_in_none (to x (here x xs)))
same_sorted {X} R (x ∷ xs) (y ∷ ys) once f g to back =
    go (λ t b. same_sorted R xs ys (λ a b c d. once a b (there x a xs c) (there x b xs d)) (pairs_tail R x xs f) (pairs_tail R y ys g) t b)
  where
    heads : (y ≡ x) ⊎ Contains ys x → (x ≡ y) ⊎ Contains xs y → x ≡ y
    heads (inl e) m = sym e
    heads (inr c) (inl e) = e
    heads (inr c) (inr d) = absurd (once x y (here x xs) (there x y xs d) (all_at (R x) xs y (pairs_head R x xs f) d) (all_at (R y) ys x (pairs_head R y ys g) c))

    head : x ≡ y
    head = heads (in_cons y ys x (to x (here x xs))) (in_cons x xs y (back y (here y ys)))

    go : (((z : X) → Contains xs z → Contains ys z) → ((z : X) → Contains ys z → Contains xs z) → xs ≡ ys) → x ∷ xs ≡ y ∷ ys
    go rest = ap₂ (λ a b. a ∷ b) head (rest (λ z c. on z c (in_cons y ys z (to z (there x z xs c)))) (λ z c. off z c (in_cons x xs z (back z (there y z ys c)))))
      where
        on : (z : X) → Contains xs z → (y ≡ z) ⊎ Contains ys z → Contains ys z
        on z c (inr d) = d
        on z c (inl e) = absurd (once x z (here x xs) (there x z xs c) above (subst (λ w. R w x) (head ∙ e) (subst (λ w. R x w) (sym (head ∙ e)) above)))
          where
            above : R x z
            above = all_at (R x) xs z (pairs_head R x xs f) c

        off : (z : X) → Contains ys z → (x ≡ z) ⊎ Contains xs z → Contains xs z
        off z c (inr d) = d
        off z c (inl e) = absurd (once x x (here x xs) (here x xs) self self)
          where
            self : R x x
            self = subst (λ w. R w x) (sym head) (subst (λ w. R y w) (sym e) (all_at (R y) ys z (pairs_head R y ys g) c))

-- two lists of one length that agree at each position
pub same_by_get : {X : Type 0} (xs ys : List X) → length xs ≡ length ys → ((i : ℕ) (x y : X) → slice_get xs i ≡ Some x → slice_get ys i ≡ Some y → x ≡ y) → xs ≡ ys
same_by_get [] [] l f = refl
same_by_get [] (y ∷ ys) l f = absurd (omega (arith, l))
same_by_get (x ∷ xs) [] l f = absurd (omega (arith, l))
same_by_get (x ∷ xs) (y ∷ ys) l f = ap₂ (λ a b. a ∷ b) (f 0 x y refl refl) (same_by_get xs ys (omega (arith, l)) (λ i a b p q. f (suc i) a b p q))
