-- The first in the order of judgement, over more and more things.
use Rattle.std.proofs.Common.{◌≡◌, ℕ, ◌+◌, ◌<◌, ◌<ℤ◌, ◌≤ℤ◌, ⊎_elim, inl, inr, List, length, get_or, take, Option, None, Some, Any, Contains, refl, sym, ◌∙◌, ap, subst, arith}
use Rattle.std.proofs.lemmas.Int.{ints}
use Rattle.std.proofs.lemmas.List.{get_or_default, get_or-take, length-take}
use Rattle.std.proofs.lemmas.List.Elements.{All-more, All-weaker}
use Rattle.base_types.proofs.Quantifiers.{Any-weaker, none_from_all}
use Rattle.base_types.specs.declared.kubernetes.revision.Moment.{Moment}
use Rattle.strict_order.specs.declared.thing.Thing.{Thing}
use Rattle.strict_order.specs.Judged.{IsEarlier, IsFirstSuch}
use Rattle.strict_order.specs.Printed.{IsPrinted}
use Rattle.strict_order.specs.Things.{ComesBefore, Crosses, IsJudgedNoLater}

pub judged-refl : (a : Thing) → IsJudgedNoLater a a
judged-refl a = inr (refl, omega arith)

pub judged-trans : (a b c : Thing) → IsJudgedNoLater a b → IsJudgedNoLater b c → IsJudgedNoLater a c
judged-trans a b c before after = ⊎_elim
    (λ lower. ⊎_elim (λ next. inl (omega (arith, ints))) (λ tie. inl (omega (arith, ints))) after)
    (λ same. ⊎_elim (λ next. inl (omega (arith, ints))) (λ tie. inr (same.0 ∙ tie.0, omega arith)) after)
    before

-- what stands among the first things stands among one more
Contains-longer : (things : List Thing) (i : ℕ) (t : Thing) → i < length things → Contains (take i things) t → Contains (take (i + 1) things) t
Contains-longer things i t within among =
    let front : among.0 < i = (let below = among.1 in omega (arith, length-take i things)) in
    (among.0, omega (arith, length-take (i + 1) things), get_or-take (i + 1) things among.0 t (omega arith) ∙ sym (get_or-take i things among.0 t front) ∙ among.2)

Contains-last : (things : List Thing) (i : ℕ) (d : Thing) → i < length things → Contains (take (i + 1) things) (get_or things i d)
Contains-last things i d within =
    (i, omega (arith, length-take (i + 1) things), get_or-take (i + 1) things i (get_or things i d) (omega arith) ∙ get_or_default things i (get_or things i d) d within)

-- one thing more, which isn't so
pub IsFirstSuch-skip : (P : Thing → Type 0) (things : List Thing) (i : ℕ) (d : Thing) (first : Option Thing) → i < length things → (P (get_or things i d) → ⊥)
    → IsFirstSuch P (take i things) first → IsFirstSuch P (take (i + 1) things) first
IsFirstSuch-skip P things i d None within fails such = All-more (λ thing. P thing → ⊥) things i d within such fails
IsFirstSuch-skip P things i d (Some t) within fails such =
    (Contains-longer things i t within such.0, such.1, All-more (λ thing. P thing → IsJudgedNoLater t thing) things i d within such.2 (λ is_so. absurd (fails is_so)))

-- one thing more, which is so
pub IsFirstSuch-take : (P : Thing → Type 0) (things : List Thing) (i : ℕ) (d : Thing) (first : Option Thing) (earlier : Thing) → i < length things → P (get_or things i d)
    → IsEarlier first (get_or things i d) earlier → IsFirstSuch P (take i things) first → IsFirstSuch P (take (i + 1) things) (Some earlier)
IsFirstSuch-take P things i d None earlier within holds is such =
    subst (λ t. IsFirstSuch P (take (i + 1) things) (Some t)) (sym is) (
      Contains-last things i d within,
      holds,
      All-more (λ thing. P thing → IsJudgedNoLater (get_or things i d) thing) things i d within
          (All-weaker (λ thing. P thing → ⊥) (λ thing. P thing → IsJudgedNoLater (get_or things i d) thing) (λ thing none is_so. absurd (none is_so)) (take i things) such)
          (λ _. judged-refl (get_or things i d)),
    )
IsFirstSuch-take P things i d (Some t) earlier within holds is such = ⊎_elim
    (λ stays. subst (λ t. IsFirstSuch P (take (i + 1) things) (Some t)) (sym stays.0)
    (Contains-longer things i t within such.0, such.1, All-more (λ thing. P thing → IsJudgedNoLater t thing) things i d within such.2 (λ _. stays.1)))
    (λ goes. subst (λ t. IsFirstSuch P (take (i + 1) things) (Some t)) (sym goes.0) (
      Contains-last things i d within,
      holds,
      All-more (λ thing. P thing → IsJudgedNoLater (get_or things i d) thing) things i d within
          (All-weaker (λ thing. P thing → IsJudgedNoLater t thing) (λ thing. P thing → IsJudgedNoLater (get_or things i d) thing) (λ thing before is_so. judged-trans (get_or things i d) t thing goes.1 (before is_so)) (take i things) such.2)
          (λ _. judged-refl (get_or things i d)),
    ))
    is

-- where the first moment that a thing can have is too late, some thing crosses it
pub crossed_from_late : (things : List Thing) (b : Thing) (moment : Moment) → IsPrinted things b moment → b.lo.0 ≤ℤ b.hi.0 → b.hi.0 <ℤ moment.0 → Any (λ a. Crosses a b) things
crossed_from_late things b moment printed ordered late = ⊎_elim
    (λ own. let same : moment.0 ≡ b.lo.0 = ap (λ (m : Moment). m.0) own in absurd (omega (arith, ints)))
    (λ any. Any-weaker (λ a. ComesBefore a b × (moment ≡ a.lo)) (λ a. Crosses a b) things (λ a parts.
    let same : moment.0 ≡ a.lo.0 = ap (λ (m : Moment). m.0) parts.1 in (parts.0, omega (arith, ints))) any)
    printed.reached

-- and else none does
pub uncrossed_from_early : (things : List Thing) (b : Thing) (moment : Moment) → IsPrinted things b moment → moment.0 ≤ℤ b.hi.0 → Any (λ a. Crosses a b) things → ⊥
uncrossed_from_early things b moment printed early any =
    none_from_all (λ a. Crosses a b) things (All-weaker (λ a. ComesBefore a b → a.lo.0 ≤ℤ moment.0) (λ a. Crosses a b → ⊥) (λ a bound crosses. let upto = bound crosses.0 in let late = crosses.1 in omega (arith, ints)) things printed.others) any
