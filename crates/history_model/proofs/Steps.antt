-- What steps in order do to one key.
use Rattle.std.proofs.Common.{◌≡◌, ℕ, ◌<◌, ◌≤◌, ◌⊎◌, Bool, true, false, List, [], ◌∷◌, filter, nat_le, Option, Some, None, Contains, inl, inr, refl, sym, ap, ◌∙◌, subst, arith, true≢false}
use Rattle.base_types.specs.declared.kubernetes.key.ObjectKey.{ObjectKey}
use Rattle.history_model.proofs.KeyLemmas.{key_is, key_differs}
use Rattle.history_model.proofs.Members.{not_in_none, here, there, in_cons, all_at, all_from}
use Rattle.history_model.specs.Histories.{History, Version}
use Rattle.history_model.specs.Machine.{Step, Put, Remove, Reply, put_at, after, after_all, step_place, Precedes, InOrder}
use Rattle.history_model.specs.States.{Map}

-- the step leaves this entry at the key
abbrev pub Writes : Step → ObjectKey → Option Version → Type 0
Writes (Put v) key entry = (v.key ≡ key) × (entry ≡ Some v)
Writes (Remove cut) key entry = (cut.removal.key ≡ key) × (entry ≡ None)
Writes (Reply number event place) key entry = ⊥

abbrev pub Spares : Step → ObjectKey → Type 0
Spares step key = (entry : Option Version) → Writes step key entry → ⊥

put_same : (map : Map) (key other : ObjectKey) (entry : Option Version) → key ≡ other → put_at map key entry other ≡ entry
put_same map key other entry e = rw (key_is other key (sym e)) refl

put_other : (map : Map) (key other : ObjectKey) (entry : Option Version) → (key ≡ other → ⊥) → put_at map key entry other ≡ map other
put_other map key other entry n = rw (key_differs other key (λ e. n (sym e))) refl

pub after_writes : (map : Map) (step : Step) (key : ObjectKey) (entry : Option Version) → Writes step key entry → after map step key ≡ entry
after_writes map (Put v) key entry w = put_same map v.key key (Some v) w.0 ∙ sym w.1
after_writes map (Remove cut) key entry w = put_same map cut.removal.key key None w.0 ∙ sym w.1
after_writes map (Reply number event place) key entry w = absurd w

pub after_spares : (map : Map) (step : Step) (key : ObjectKey) → Spares step key → after map step key ≡ map key
after_spares map (Put v) key s = put_other map v.key key (Some v) (λ e. s (Some v) (e, refl))
after_spares map (Remove cut) key s = put_other map cut.removal.key key None (λ e. s None (e, refl))
after_spares map (Reply number event place) key s = refl

pub no_write : (steps : List Step) (map : Map) (key : ObjectKey) → ((step : Step) → Contains steps step → Spares step key) → after_all map steps key ≡ map key
no_write [] map key none = refl
no_write (s ∷ ss) map key none = no_write ss (after map s) key (λ t c. none t (there s t ss c)) ∙ after_spares map s key (none s (here s ss))

-- a strict order
pub precedes_place : (h : History) (a b : Step) → Precedes h a b → step_place a ≤ step_place b
precedes_place h a b (inl l) = omega (arith, l)
precedes_place h a b (inr (inl l)) = omega (arith, l.0)
precedes_place h a b (inr (inr l)) = omega (arith, l.0)

pub precedes_self : (h : History) (a : Step) → Precedes h a a → ⊥
precedes_self h a (inl l) = omega (arith, l)
precedes_self h a (inr (inl l)) = omega (arith, l.1)
precedes_self h a (inr (inr l)) = omega (arith, l.2)

-- of a key's writes in an ordered list, the one behind all others stays
pub last_write : (h : History) (steps : List Step) (map : Map) (key : ObjectKey) (last : Step) (entry : Option Version) → InOrder h steps
    → Contains steps last → Writes last key entry
    → ((other : Step) (left : Option Version) → Contains steps other → Writes other key left → (other ≡ last) ⊎ (step_place other < step_place last))
    → after_all map steps key ≡ entry
last_write h [] map key last entry order c w others = absurd (not_in_none c)
last_write h (s ∷ ss) map key last entry order c w others =
    go (λ m. last_write h ss (after map s) key last entry order.1 m w (λ o l d x. others o l (there s o ss d) x)) (in_cons s ss last c)
  where
    go : (Contains ss last → after_all (after map s) ss key ≡ entry) → (s ≡ last) ⊎ Contains ss last → after_all (after map s) ss key ≡ entry
    go rest (inr m) = rest m
    go rest (inl e) = no_write ss (after map s) key none ∙ after_writes map s key entry (subst (λ z. Writes z key entry) (sym e) w)
      where
        none : (t : Step) → Contains ss t → Spares t key
        none t d left x = at (others t left (there s t ss d) x)
          where
            before : Precedes h s t
            before = all_at (Precedes h s) ss t order.0 d

            at : (t ≡ last) ⊎ (step_place t < step_place last) → ⊥
            at (inl p) = precedes_self h s (subst (λ z. Precedes h s z) (p ∙ sym e) before)
            at (inr l) = omega (arith, precedes_place h s t before, l, ap step_place e)

-- the steps up to a place
abbrev pub up_to : ℕ → List Step → List Step
up_to place steps = filter (λ s. nat_le (step_place s) place) steps

pub in_filter : {X : Type 0} (p : X → Bool) (xs : List X) (x : X) → Contains (filter p xs) x → Contains xs x × (p x ≡ true)
in_filter p [] x c = absurd (not_in_none c)
in_filter {X} p (y ∷ ys) x c = go (in_filter p ys x) (p y) refl
  where
    go : (Contains (filter p ys) x → Contains ys x × (p x ≡ true)) → (t : Bool) → p y ≡ t → Contains (y ∷ ys) x × (p x ≡ true)
    go rest false e = let d : Contains (filter p ys) x = rw e at c in (there y x ys (rest d).0, (rest d).1)
    go rest true e = at (in_cons y (filter p ys) x (rw e at c))
      where
        at : (y ≡ x) ⊎ Contains (filter p ys) x → Contains (y ∷ ys) x × (p x ≡ true)
        at (inl q) = (subst (λ z. Contains (y ∷ ys) z) q (here y ys), ap p (sym q) ∙ e)
        at (inr m) = (there y x ys (rest m).0, (rest m).1)

pub filter_in : {X : Type 0} (p : X → Bool) (xs : List X) (x : X) → Contains xs x → p x ≡ true → Contains (filter p xs) x
filter_in p [] x c e = absurd (not_in_none c)
filter_in {X} p (y ∷ ys) x c e = go (λ m. filter_in p ys x m e) (in_cons y ys x c) (p y) refl
  where
    go : (Contains ys x → Contains (filter p ys) x) → (y ≡ x) ⊎ Contains ys x → (t : Bool) → p y ≡ t → Contains (filter p (y ∷ ys)) x
    go rest (inl q) false f = absurd (true≢false (sym e ∙ ap p (sym q) ∙ f))
    go rest (inl q) true f = rw f (subst (λ z. Contains (y ∷ filter p ys) z) q (here y (filter p ys)))
    go rest (inr m) false f = rw f (rest m)
    go rest (inr m) true f = rw f (there y x (filter p ys) (rest m))

pub filter_order : (h : History) (p : Step → Bool) (steps : List Step) → InOrder h steps → InOrder h (filter p steps)
filter_order h p [] order = tt
filter_order h p (s ∷ ss) order = go (filter_order h p ss order.1) (p s) refl
  where
    go : InOrder h (filter p ss) → (t : Bool) → p s ≡ t → InOrder h (filter p (s ∷ ss))
    go rest false e = rw e rest
    go rest true e = rw e (all_from (Precedes h s) (filter p ss) (λ t c. all_at (Precedes h s) ss t order.0 (in_filter p ss t c).0), rest)
