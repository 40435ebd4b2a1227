-- The first number of which something holds has the least line.
use Rattle.std.proofs.Common.{◌≡◌, ℕ, zero, suc, ◌<◌, ◌≤◌, ◌⊎◌, true, false, nat_le, List, [], ◌∷◌, Some, AllPairs, slice_get, inl, inr, sym, ap, ◌∙◌, arith}
use Rattle.std.proofs.lemmas.Option.{same_Some}
use Rattle.std.proofs.lemmas.Bool.Decides.{leb_tells}
use Rattle.history_model.proofs.Members.{at_in, all_at, pairs_head, pairs_tail}
use Rattle.history_model.specs.Events.{Event}
use Rattle.history_model.specs.Histories.{History, IsEvent}
use Rattle.history_model.specs.Readable.{IsReadable}

-- in a list that rises strictly, a later item is greater
pub rises : {X : Type 0} (f : X → ℕ) (xs : List X) (i j : ℕ) (x y : X) → AllPairs (λ a b. f a < f b) xs → slice_get xs i ≡ Some x → slice_get xs j ≡ Some y → i < j → f x < f y
rises f [] i j x y h a b l = absurd (cc a)
rises f (z ∷ zs) i zero x y h a b l = absurd (omega (arith, l))
rises {X} f (z ∷ zs) zero (suc j) x y h a b l = omega (arith, all_at (λ w. f z < f w) zs y (pairs_head (λ v w. f v < f w) z zs h) (at_in zs j y b), ap f (same_Some z x a))
rises f (z ∷ zs) (suc i) (suc j) x y h a b l = rises f zs i j x y (pairs_tail (λ v w. f v < f w) z zs h) a b (omega (arith, l))

pub same_at : {X : Type 0} (xs : List X) (i j : ℕ) (x y : X) → i ≡ j → slice_get xs i ≡ Some x → slice_get xs j ≡ Some y → x ≡ y
same_at xs i j x y e a b = same_Some x y (sym a ∙ ap (slice_get xs) e ∙ b)

-- one number is below the other, or they are equal
pub below_or_not : (a b : ℕ) → (a < b) ⊎ (a ≡ b) ⊎ (b < a)
below_or_not a b = go (leb_tells a b) (leb_tells b a)
  where
    go : ((nat_le a b ≡ true) × (a ≤ b)) ⊎ ((nat_le a b ≡ false) × (b < a)) → ((nat_le b a ≡ true) × (b ≤ a)) ⊎ ((nat_le b a ≡ false) × (a < b)) → (a < b) ⊎ (a ≡ b) ⊎ (b < a)
    go (inl u) (inl v) = inr (inl (omega (arith, u.1, v.1)))
    go (inl u) (inr v) = inl v.1
    go (inr u) w = inr (inr u.1)

-- a later item of a list that rises is not less
pub not_less : {X : Type 0} (f : X → ℕ) (xs : List X) (i j : ℕ) (x y : X) → AllPairs (λ a b. f a < f b) xs → slice_get xs i ≡ Some x → slice_get xs j ≡ Some y → (j < i → ⊥) → f x ≤ f y
not_less {X} f xs i j x y h a b l = go (below_or_not i j)
  where
    go : (i < j) ⊎ (i ≡ j) ⊎ (j < i) → f x ≤ f y
    go (inl m) = omega (arith, rises f xs i j x y h a b m)
    go (inr (inl e)) = omega (arith, ap f (same_at xs i j x y e a b))
    go (inr (inr m)) = absurd (l m)

-- something holds of the event of this line
abbrev pub HoldsAt : History → (ℕ → Event → Type 0) → ℕ → Type 0
HoldsAt h Holds at = (number : ℕ) × (event : Event) × IsEvent h number event × (event.line ≡ at) × Holds number event

-- where it holds of no event before this number, its line isn't above another's
pub first_is_least : (h : History) (Holds : ℕ → Event → Type 0) (number : ℕ) (event : Event) → IsReadable h → IsEvent h number event
    → ((k : ℕ) (e : Event) → k < number → IsEvent h k e → Holds k e → ⊥) → (other : ℕ) → HoldsAt h Holds other → event.line ≤ other
first_is_least h Holds number event r known before other (k, e, here, same, holds) =
    omega (arith, same, not_less (λ (z : Event). z.line) h.events number k event e r.lines known here (λ l. before k e l here holds))

-- the events of a line are one
pub one_event : (h : History) (number k : ℕ) (event e : Event) → IsReadable h → IsEvent h number event → IsEvent h k e → e.line ≡ event.line → number ≡ k
one_event h number k event e r known here same = go (below_or_not number k)
  where
    go : (number < k) ⊎ (number ≡ k) ⊎ (k < number) → number ≡ k
    go (inl m) = absurd (omega (arith, rises (λ (z : Event). z.line) h.events number k event e r.lines known here m, same))
    go (inr (inl p)) = p
    go (inr (inr m)) = absurd (omega (arith, rises (λ (z : Event). z.line) h.events k number e event r.lines here known m, same))
