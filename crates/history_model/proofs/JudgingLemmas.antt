-- The order of judgement is a strict total order of events of different lines.
use Rattle.std.proofs.Common.{◌≡◌, ℕ, ℤ, ◌<◌, ◌<ℤ◌, ◌⊎◌, Bool, true, false, AllPairs, inl, inr, sym, arith}
use Rattle.std.proofs.lemmas.Int.{ints}
use Rattle.history_model.proofs.Members.{at_apart}
use Rattle.history_model.specs.Events.{Event, is_checkpoint}
use Rattle.history_model.specs.Histories.{History}
use Rattle.history_model.specs.Judging.{PrecedesByKind, IsJudgedBefore, IsFirst}

moments : (a b : ℤ) → (a <ℤ b) ⊎ (b <ℤ a) ⊎ (a ≡ b)
moments a b = grind (arith, ints)

pub numbers : (a b : ℕ) → (a < b) ⊎ (b < a) ⊎ (a ≡ b)
numbers a b = grind arith

not_both : (a b : ℤ) → a <ℤ b → b <ℤ a → ⊥
not_both a b h k = omega (arith, ints)

not_same : (a b : ℤ) → a <ℤ b → b ≡ a → ⊥
not_same a b h k = omega (arith, ints)

by_kind : (x y : Bool) (a b : Event) → PrecedesByKind x y a b ⊎ PrecedesByKind y x b a ⊎ (a.line ≡ b.line)
by_kind false false a b = go (moments a.hi b.hi) (numbers a.line b.line)
  where
    go : (a.hi <ℤ b.hi) ⊎ (b.hi <ℤ a.hi) ⊎ (a.hi ≡ b.hi) → (a.line < b.line) ⊎ (b.line < a.line) ⊎ (a.line ≡ b.line)
        → PrecedesByKind false false a b ⊎ PrecedesByKind false false b a ⊎ (a.line ≡ b.line)
    go (inl l) n = inl (inl l)
    go (inr (inl l)) n = inr (inl (inl l))
    go (inr (inr e)) (inl l) = inl (inr (e, l))
    go (inr (inr e)) (inr (inl l)) = inr (inl (inr (sym e, l)))
    go (inr (inr e)) (inr (inr q)) = inr (inr q)
by_kind false true a b = inl tt
by_kind true false a b = inr (inl tt)
by_kind true true a b = numbers a.line b.line

pub judged_cases : (a b : Event) → IsJudgedBefore a b ⊎ IsJudgedBefore b a ⊎ (a.line ≡ b.line)
judged_cases a b = by_kind (is_checkpoint a) (is_checkpoint b) a b

not_both_kinds : (x y : Bool) (a b : Event) → PrecedesByKind x y a b → PrecedesByKind y x b a → ⊥
not_both_kinds false false a b (inl l) (inl m) = not_both a.hi b.hi l m
not_both_kinds false false a b (inl l) (inr m) = not_same a.hi b.hi l m.0
not_both_kinds false false a b (inr l) (inl m) = not_same b.hi a.hi m l.0
not_both_kinds false false a b (inr l) (inr m) = omega (arith, l.1, m.1)
not_both_kinds false true a b h k = k
not_both_kinds true false a b h k = h
not_both_kinds true true a b h k = omega (arith, h, k)

pub judged_once : (a b : Event) → IsJudgedBefore a b → IsJudgedBefore b a → ⊥
judged_once a b = not_both_kinds (is_checkpoint a) (is_checkpoint b) a b

-- there is one first event of a kind
pub first_same : (h : History) (Holds : Event → Type 0) (n m : ℕ) (a b : Event) → AllPairs (λ x y. x.line < y.line) h.events
    → IsFirst h Holds n a → IsFirst h Holds m b → n ≡ m
first_same h Holds n m a b lines f g = go (judged_cases a b)
  where
    go : IsJudgedBefore a b ⊎ IsJudgedBefore b a ⊎ (a.line ≡ b.line) → n ≡ m
    go (inl l) = absurd (g.none_before n a f.known f.holds l)
    go (inr (inl l)) = absurd (f.none_before m b g.known g.holds l)
    go (inr (inr e)) = at_apart (λ x. x.line) h.events n m a b lines f.known g.known e
