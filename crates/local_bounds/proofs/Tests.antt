-- What tests tell.
use Rattle.std.proofs.Common.{◌≡◌, ◌≢◌, ℕ, Bool, true, false, not, Option, Some, None, is_some, option_map, IsSomeAnd, IfSome, IfNone, ◌⊎◌, inl, inr, refl, sym, ap, ◌∙◌, ◌==◌, true≢false}
use Rattle.std.specs.Prelude.{Result, Ok, Err, IfOk}
use Rattle.std.proofs.lemmas.Bool.Decides.{eqb_tells}

pub apart_by : (x y : ℕ) → true ≡ not (x == y) → x ≢ y
apart_by x y e = go (eqb_tells x y)
  where
    go : (((x == y) ≡ true) × (x ≡ y)) ⊎ (((x == y) ≡ false) × (x ≢ y)) → x ≢ y
    go (inl t) = absurd (true≢false (e ∙ ap not t.0))
    go (inr t) = t.1

pub same_by : (x y : ℕ) → false ≡ not (x == y) → x ≡ y
same_by x y e = go (eqb_tells x y)
  where
    go : (((x == y) ≡ true) × (x ≡ y)) ⊎ (((x == y) ≡ false) × (x ≢ y)) → x ≡ y
    go (inl t) = t.1
    go (inr t) = absurd (true≢false (sym (e ∙ ap not t.0)))

pub some_mapped : {A B : Type 0} (f : A → B) (o : Option A) → is_some (option_map f o) ≡ is_some o
some_mapped f None = refl
some_mapped f (Some x) = refl

pub some_and : {A : Type 0} (P Q : A → Type 0) (o : Option A) → ((x : A) → P x → Q x) → IsSomeAnd o P → IsSomeAnd o Q
some_and P Q None to s = absurd s
some_and P Q (Some x) to s = to x s

pub some_at : {A : Type 0} (P : A → Type 0) (o : Option A) → is_some o ≡ true → IfSome o P → (x : A) × P x
some_at P None e s = absurd (true≢false (sym e))
some_at P (Some x) e s = (x, s)

pub none_at : {A : Type 0} (N : Type 0) (o : Option A) → is_some o ≡ false → IfNone o N → N
none_at N None e n = n
none_at N (Some x) e n = absurd (true≢false e)

pub not_true : (b : Bool) → not b ≡ true → b ≡ false
not_true true e = absurd (true≢false (sym e))
not_true false e = refl

pub ok_both : {X Y : Type 0} (P Q : X → Type 0) (r : Result X Y) → IfOk r P → IfOk r Q → IfOk r (λ x. P x × Q x)
ok_both P Q (Ok x) p q = (p, q)
ok_both P Q (Err e) p q = tt
