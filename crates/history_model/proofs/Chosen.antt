-- Values for the members of a list make a function.
use Rattle.std.proofs.Common.{◌≡◌, ◌≢◌, ℕ, ◌⊎◌, true, false, ◌==◌, if◌then◌else◌, List, [], ◌∷◌, Contains, inl, inr, sym, subst}
use Rattle.std.proofs.lemmas.Bool.Decides.{eqb_tells}
use Rattle.history_model.proofs.Members.{not_in_none, here, there, in_cons}

pub chosen_for : {Y : Type 0} (d : Y) (Q : ℕ → Y → Type 0) (xs : List ℕ) → ((x : ℕ) → Contains xs x → (y : Y) × Q x y)
    → (f : ℕ → Y) × ((x : ℕ) → Contains xs x → Q x (f x))
chosen_for d Q [] some = ((λ x. d), λ x c. absurd (not_in_none c))
chosen_for {Y} d Q (z ∷ zs) some = go (chosen_for d Q zs (λ x c. some x (there z x zs c))) (some z (here z zs))
  where
    go : (f : ℕ → Y) × ((x : ℕ) → Contains zs x → Q x (f x)) → (y : Y) × Q z y → (f : ℕ → Y) × ((x : ℕ) → Contains (z ∷ zs) x → Q x (f x))
    go (f, fs) (y, q) = ((λ x. if x == z then y else f x), λ x c. at x (eqb_tells x z) (in_cons z zs x c))
      where
        at : (x : ℕ) → (((x == z) ≡ true) × (x ≡ z)) ⊎ (((x == z) ≡ false) × (x ≢ z)) → (z ≡ x) ⊎ Contains zs x → Q x (if x == z then y else f x)
        at x (inl e) m = rw e.0 (subst (λ w. Q w y) (sym e.1) q)
        at x (inr e) (inl m) = absurd (e.1 (sym m))
        at x (inr e) (inr m) = rw e.0 (fs x m)
