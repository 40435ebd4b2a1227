-- Bounds on different ranges, each with room, are met by one choice.
use Rattle.std.proofs.Common.{◌≡◌, ◌≢◌, ℕ, zero, suc, ◌<◌, ◌⊎◌, List, [], ◌∷◌, length, map, set, Some, AllPairs, Contains, slice_get, slice_index, inl, inr, refl, sym, ap, subst, arith, get_or-set_same, get_or-set_other}
use Rattle.std.proofs.lemmas.List.Elements.{All-cons, All-head, All-map, All-nil, All-tail}
use Rattle.std.proofs.lemmas.Option.{same_Some, slice_get_within}
use Rattle.base_types.specs.Choices.{HasPlace, HavePlaces, IsChoice, IsPlaceOf, Meets, MeetsAll}
use Rattle.base_types.specs.declared.verdict.claim.Bound.{Bound}
use Rattle.base_types.specs.declared.verdict.claim.Range.{Range}
use Rattle.history_model.proofs.Members.{here, there, in_cons, all_at, all_from, pairs_head, pairs_tail}
use Rattle.history_model.specs.Bounding.{IsOpen}
use Rattle.history_model.specs.Histories.{History, Removal, ranges as ranges_of}
use Rattle.history_model.specs.Readable.{IsReadable}

-- no removal of a readable history has an empty range
pub have_places : (h : History) → IsReadable h → HavePlaces (ranges_of h)
have_places h readable = All-map HasPlace (λ (removal : Removal). removal.range) h.removals
    (all_from (λ (removal : Removal). HasPlace removal.range) h.removals (λ removal among. (readable.removals.sound removal among).behind.some_place))

-- nor has a range in which a choice has a place
pub chosen_places : (ranges : List Range) (choice : List ℕ) → IsChoice ranges choice → HavePlaces ranges
chosen_places [] choice c = All-nil HasPlace
chosen_places (range ∷ ranges) [] c = absurd c
chosen_places (range ∷ ranges) (place ∷ places) c = All-cons HasPlace range ranges (omega (arith, c.0.0, c.0.1)) (chosen_places ranges places c.1)

-- the low ends are a choice
lows : (ranges : List Range) → HavePlaces ranges → IsChoice ranges (map (λ range. range.low) ranges)
lows [] places = tt
lows (range ∷ ranges) places = ((omega arith, All-head HasPlace range ranges places), lows ranges (All-tail HasPlace range ranges places))

-- another place for one range
moved : (ranges : List Range) (choice : List ℕ) (i place : ℕ) (range : Range) → IsChoice ranges choice → slice_get ranges i ≡ Some range → IsPlaceOf range place
    → IsChoice ranges (set choice i place)
moved [] choice i place range c e p = absurd (cc e)
moved (x ∷ xs) [] i place range c e p = absurd c
moved (x ∷ xs) (y ∷ ys) zero place range c e p = (subst (λ r. IsPlaceOf r place) (sym (same_Some x range e)) p, c.1)
moved (x ∷ xs) (y ∷ ys) (suc i) place range c e p = (c.0, moved xs ys i place range c.1 e p)

as_long : (ranges : List Range) (choice : List ℕ) → IsChoice ranges choice → length choice ≡ length ranges
as_long [] [] c = refl
as_long [] (y ∷ ys) c = absurd c
as_long (x ∷ xs) [] c = absurd c
as_long (x ∷ xs) (y ∷ ys) c = ap suc (as_long xs ys c.1)

pub open_is : (ranges : List Range) (bounds : List Bound) → HavePlaces ranges → AllPairs (λ a b. a.range < b.range) bounds → ((bound : Bound) → Contains bounds bound → IsOpen ranges bound)
    → (choice : List ℕ) × IsChoice ranges choice × MeetsAll choice bounds
open_is ranges [] places rising each = (map (λ range. range.low) ranges, lows ranges places, λ k d l. absurd (omega arith))
open_is ranges (b ∷ bs) places rising each = go (open_is ranges bs places (pairs_tail (λ x y. x.range < y.range) b bs rising) (λ x c. each x (there b x bs c))) (each b (here b bs))
  where
    go : (choice : List ℕ) × IsChoice ranges choice × MeetsAll choice bs → IsOpen ranges b → (choice : List ℕ) × IsChoice ranges choice × MeetsAll choice (b ∷ bs)
    go (choice, chosen, met) o = (
      set choice b.range b.low,
      moved ranges choice b.range b.low o.range chosen o.known (o.from, omega (arith, o.room, o.to)),
      all_from (Meets (set choice b.range b.low)) (b ∷ bs) (λ x c. at x (in_cons b bs x c)),
    )
      where
        within : b.range < length choice
        within = omega (arith, slice_get_within ranges b.range o.range o.known, as_long ranges choice chosen)

        here' : slice_index (set choice b.range b.low) b.range ≡ b.low
        here' = get_or-set_same choice b.range b.low 0 within

        at : (x : Bound) → (b ≡ x) ⊎ Contains bs x → Meets (set choice b.range b.low) x
        at x (inl e) = subst (λ z. Meets (set choice b.range b.low) z) e (omega (arith, here'), omega (arith, here', o.room))
        at x (inr c) = (omega (arith, other, (all_at (Meets choice) bs x met c).0), omega (arith, other, (all_at (Meets choice) bs x met c).1))
          where
            differs : x.range ≢ b.range
            differs = omega (arith, all_at (λ y. b.range < y.range) bs x (pairs_head (λ x y. x.range < y.range) b bs rising) c)

            other : slice_index (set choice b.range b.low) x.range ≡ slice_index choice x.range
            other = get_or-set_other choice b.range x.range b.low 0 differs
