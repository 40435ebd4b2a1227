-- Turns are gathered one position after the other.
use Rattle.std.proofs.Common.{◌≡◌, ℕ, ◌+◌, ◌<◌, ◌⊎◌, inl, inr, List, [], ◌∷◌, ◌++◌, Some, slice_get, Contains, sym, ap, ◌∙◌, subst, arith}
use Rattle.std.proofs.lemmas.List.Elements.{Contains-append_left, Contains-push, Contains-push_cases}
use Rattle.std.proofs.lemmas.Option.{same_Some}
use Rattle.history_model.proofs.Members.{not_in_none}
use Rattle.object_past.proofs.Cut.{pairs_push}
use Rattle.window_writes.specs.Turns.{AreTurnsOf, IsTurnOf}
use Rattle.window_writes.specs.declared.writes.WriteTurn.{WriteTurn}

below_or_at : (i n : ℕ) → i < n + 1 → (i < n) ⊎ (i ≡ n)
below_or_at i n l = grind arith

module _ {X : Type 0} (Counts : X → Type 0) (IsTurn : X → WriteTurn → Type 0) (items : List X) where
  pub turns_none : AreTurnsOf Counts IsTurn items 0 []
  turns_none = record {
    rising = λ i j d l m. absurd (omega arith);
    sound = λ turn c. absurd (not_in_none c);
    full = λ position item l e counts. absurd (omega (arith, l));
  }

  later : (n : ℕ) (turn : WriteTurn) → IsTurnOf Counts IsTurn items n turn → IsTurnOf Counts IsTurn items (n + 1) turn
  later n turn t = record { item = t.item; at = t.at; below = (let l = t.below in omega (arith, l)); counts = t.counts; turns = t.turns }

  -- the next item counts, and this is its turn
  pub turns_more : (n : ℕ) (turns : List WriteTurn) (turn : WriteTurn) (item : X) → AreTurnsOf Counts IsTurn items n turns
      → slice_get items n ≡ Some item → Counts item → turn.position ≡ n → IsTurn item turn → AreTurnsOf Counts IsTurn items (n + 1) (turns ++ turn ∷ [])
  turns_more n turns turn item are at counts position is = record {
    rising = pairs_push (λ (a b : WriteTurn). a.position < b.position) turns turn are.rising (λ x c. let l = (are.sound x c).below in omega (arith, l, position));
    sound = λ x c. sound x (Contains-push_cases turns turn x c);
    full = λ i other l e k. full i other e k (below_or_at i n l);
  }
    where
      here : IsTurnOf Counts IsTurn items (n + 1) turn
      here = record { item = item; at = ap (slice_get items) position ∙ at; below = omega (arith, position); counts = counts; turns = is }

      sound : (x : WriteTurn) → Contains turns x ⊎ (turn ≡ x) → IsTurnOf Counts IsTurn items (n + 1) x
      sound x (inl c) = later n x (are.sound x c)
      sound x (inr e) = subst (IsTurnOf Counts IsTurn items (n + 1)) e here

      full : (i : ℕ) (other : X) → slice_get items i ≡ Some other → Counts other → (i < n) ⊎ (i ≡ n) → (x : WriteTurn) × Contains (turns ++ turn ∷ []) x × (x.position ≡ i)
      full i other e k (inl l) = let f = are.full i other l e k in (f.0, Contains-append_left turns (turn ∷ []) f.0 f.1, f.2)
      full i other e k (inr q) = (turn, Contains-push turns turn, position ∙ sym q)

  -- the next item doesn't count
  pub turns_skip : (n : ℕ) (turns : List WriteTurn) (item : X) → AreTurnsOf Counts IsTurn items n turns
      → slice_get items n ≡ Some item → (Counts item → ⊥) → AreTurnsOf Counts IsTurn items (n + 1) turns
  turns_skip n turns item are at not = record {
    rising = are.rising;
    sound = λ x c. later n x (are.sound x c);
    full = λ i other l e k. full i other e k (below_or_at i n l);
  }
    where
      full : (i : ℕ) (other : X) → slice_get items i ≡ Some other → Counts other → (i < n) ⊎ (i ≡ n) → (x : WriteTurn) × Contains turns x × (x.position ≡ i)
      full i other e k (inl l) = are.full i other l e k
      full i other e k (inr q) = absurd (not (subst Counts (same_Some other item (sym e ∙ ap (slice_get items) q ∙ at)) k))
