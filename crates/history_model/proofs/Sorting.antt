-- Steps can be put in order, where two that tie are one.
use Rattle.std.proofs.Common.{◌≡◌, ℕ, ◌<◌, ◌⊎◌, List, [], ◌∷◌, Contains, inl, inr, sym, subst, arith}
use Rattle.history_model.proofs.Members.{not_in_none, here, there, in_cons, all_at, all_from}
use Rattle.history_model.specs.Histories.{History}
use Rattle.history_model.specs.Machine.{Step, step_place, step_rank, step_line, Precedes, InOrder}

abbrev Below : ℕ → ℕ → ℕ → ℕ → ℕ → ℕ → Type 0
Below a b c x y z = (a < x) ⊎ ((a ≡ x) × (b < y)) ⊎ ((a ≡ x) × (b ≡ y) × (c < z))

below_trans : (a b c x y z u v w : ℕ) → Below a b c x y z → Below x y z u v w → Below a b c u v w
below_trans a b c x y z u v w h k = grind arith

below_cases : (a b c x y z : ℕ) → Below a b c x y z ⊎ Below x y z a b c ⊎ ((a ≡ x) × (b ≡ y) × (c ≡ z))
below_cases a b c x y z = grind arith

pub precedes_trans : (h : History) (a b c : Step) → Precedes h a b → Precedes h b c → Precedes h a c
precedes_trans h a b c x y = below_trans (step_place a) (step_rank a) (step_line h a) (step_place b) (step_rank b) (step_line h b) (step_place c) (step_rank c) (step_line h c) x y

abbrev pub Ties : History → Step → Step → Type 0
Ties h a b = (step_place a ≡ step_place b) × (step_rank a ≡ step_rank b) × (step_line h a ≡ step_line h b)

precedes_cases : (h : History) (a b : Step) → Precedes h a b ⊎ Precedes h b a ⊎ Ties h a b
precedes_cases h a b = below_cases (step_place a) (step_rank a) (step_line h a) (step_place b) (step_rank b) (step_line h b)

-- what a list is with one step more
record IsWith (h : History) (s : Step) (xs ys : List Step) : Type 0 where
  order : InOrder h ys
  sound : (u : Step) → Contains ys u → (s ≡ u) ⊎ Contains xs u
  new : Contains ys s
  old : (u : Step) → Contains xs u → Contains ys u

with_step : (h : History) (s : Step) (xs : List Step) → InOrder h xs → ((u : Step) → Contains xs u → Ties h s u → s ≡ u) → (ys : List Step) × IsWith h s xs ys
with_step h s [] order one = (
  s ∷ [],
  record {
    order = (λ k d l. absurd (omega arith), tt);
    sound = λ u c. in_cons s [] u c;
    new = here s [];
    old = λ u c. absurd (not_in_none c);
  },
)
with_step h s (x ∷ xs) order one = go (with_step h s xs order.1 (λ u c. one u (there x u xs c))) (precedes_cases h s x)
  where
    go : (ys : List Step) × IsWith h s xs ys → Precedes h s x ⊎ Precedes h x s ⊎ Ties h s x → (ys : List Step) × IsWith h s (x ∷ xs) ys
    go more (inl l) = (
      s ∷ x ∷ xs,
      record {
        order = (all_from (Precedes h s) (x ∷ xs) (λ u c. at u (in_cons x xs u c)), order);
        sound = λ u c. in_cons s (x ∷ xs) u c;
        new = here s (x ∷ xs);
        old = λ u c. there s u (x ∷ xs) c;
      },
    )
      where
        at : (u : Step) → (x ≡ u) ⊎ Contains xs u → Precedes h s u
        at u (inl e) = subst (λ z. Precedes h s z) e l
        at u (inr c) = precedes_trans h s x u l (all_at (Precedes h x) xs u order.0 c)
    go (ys, w) (inr (inl l)) = (
      x ∷ ys,
      record {
        order = (all_from (Precedes h x) ys (λ u c. at u (w.sound u c)), w.order);
        sound = λ u c. from u (in_cons x ys u c);
        new = there x s ys w.new;
        old = λ u c. to u (in_cons x xs u c);
      },
    )
      where
        at : (u : Step) → (s ≡ u) ⊎ Contains xs u → Precedes h x u
        at u (inl e) = subst (λ z. Precedes h x z) e l
        at u (inr c) = all_at (Precedes h x) xs u order.0 c

        from : (u : Step) → (x ≡ u) ⊎ Contains ys u → (s ≡ u) ⊎ Contains (x ∷ xs) u
        from u (inl e) = inr (subst (λ z. Contains (x ∷ xs) z) e (here x xs))
        from u (inr c) = by (w.sound u c)
          where
            by : (s ≡ u) ⊎ Contains xs u → (s ≡ u) ⊎ Contains (x ∷ xs) u
            by (inl e) = inl e
            by (inr d) = inr (there x u xs d)

        to : (u : Step) → (x ≡ u) ⊎ Contains xs u → Contains (x ∷ ys) u
        to u (inl e) = subst (λ z. Contains (x ∷ ys) z) e (here x ys)
        to u (inr c) = there x u ys (w.old u c)
    go more (inr (inr t)) = (
      x ∷ xs,
      record {
        order = order;
        sound = λ u c. inr c;
        new = subst (λ z. Contains (x ∷ xs) z) (sym (one x (here x xs) t)) (here x xs);
        old = λ u c. c;
      },
    )

pub record IsSortedOf (h : History) (xs ys : List Step) : Type 0 where
  pub order : InOrder h ys
  pub sound : (u : Step) → Contains ys u → Contains xs u
  pub full : (u : Step) → Contains xs u → Contains ys u

pub sorted_of : (h : History) (xs : List Step) → ((a b : Step) → Contains xs a → Contains xs b → Ties h a b → a ≡ b) → (ys : List Step) × IsSortedOf h xs ys
sorted_of h [] one = ([], record { order = tt; sound = λ u c. c; full = λ u c. c })
sorted_of h (x ∷ xs) one = go (sorted_of h xs (λ a b c d. one a b (there x a xs c) (there x b xs d)))
  where
    go : (ys : List Step) × IsSortedOf h xs ys → (ys : List Step) × IsSortedOf h (x ∷ xs) ys
    go (ys, s) = at (with_step h x ys s.order (λ u c t. one x u (here x xs) (there x u xs (s.sound u c)) t))
      where
        at : (zs : List Step) × IsWith h x ys zs → (zs : List Step) × IsSortedOf h (x ∷ xs) zs
        at (zs, w) = (zs, record { order = w.order; sound = λ u c. from u (w.sound u c); full = λ u c. to u (in_cons x xs u c) })
          where
            from : (u : Step) → (x ≡ u) ⊎ Contains ys u → Contains (x ∷ xs) u
            from u (inl e) = subst (λ z. Contains (x ∷ xs) z) e (here x xs)
            from u (inr c) = there x u xs (s.sound u c)

            to : (u : Step) → (x ≡ u) ⊎ Contains xs u → Contains zs u
            to u (inl e) = subst (λ z. Contains zs z) e w.new
            to u (inr c) = w.old u (s.full u c)
