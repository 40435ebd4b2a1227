-- An event has one claim.
use Rattle.std.proofs.Common.{◌≡◌, ◌≢◌, ℕ, zero, suc, ◌<◌, ◌≤◌, ◌⊎◌, Bool, true, false, ◌==◌, List, [], ◌∷◌, Option, Some, None, length, set, slice_get, slice_index, Contains, inl, inr, refl, sym, ap, ◌∙◌, subst, arith, true≢false, get_or-set_same, get_or-set_other}
use Rattle.std.specs.Prelude.{option_map}
use Rattle.std.proofs.lemmas.Bool.Decides.{eqb_tells}
use Rattle.std.proofs.lemmas.Option.{slice_get-map, slice_get_within, same_Some}
use Rattle.base_types.specs.Choices.{HavePlaces, IsChoice, IsPlaceOf, Meets, MeetsAll}
use Rattle.base_types.specs.declared.verdict.claim.Bound.{Bound}
use Rattle.base_types.specs.declared.verdict.claim.Claim.{Claim}
use Rattle.base_types.specs.declared.verdict.claim.Range.{Range}
use Rattle.base_types.specs.declared.verdict.claim.Reason.{Reason}
use Rattle.history_model.proofs.CodeLemmas.{same_code}
use Rattle.history_model.proofs.Members.{not_in_none, here, there, in_cons, all_at, all_from, apart}
use Rattle.history_model.proofs.OpenBounds.{chosen_places, open_is}
use Rattle.history_model.proofs.SameSorted.{same_sorted}
use Rattle.history_model.specs.Clouds.{IsClouded}
use Rattle.history_model.specs.Codes as codes
use Rattle.history_model.specs.Codes.{HasCode}
use Rattle.history_model.specs.Events.{Item, Event, Made}
use Rattle.history_model.specs.Exact.{SometimesHolds, IsFailure, AreExactBounds, IsExactClaim}
use Rattle.history_model.specs.Histories.{History, Removal, ranges}
use Rattle.history_model.specs.Local.{IsFixedBy, IsFixedRight}
use Rattle.history_model.specs.Making.{HasFoundFault}
use Rattle.history_model.specs.Right.{IsRightAnswer}
use Rattle.history_model.specs.States.{state}
use Rattle.local_bounds.specs.Asked.{AreDeciding, IsDeciding}

moved : (rs : List Range) (choice : List ℕ) (i place : ℕ) (range : Range) → IsChoice rs choice → slice_get rs i ≡ Some range → IsPlaceOf range place
    → IsChoice rs (set choice i place)
moved [] choice i place range c e p = absurd (cc e)
moved (x ∷ xs) [] i place range c e p = absurd c
moved (x ∷ xs) (y ∷ ys) zero place range c e p = (subst (λ r. IsPlaceOf r place) (sym (same_Some x range e)) p, c.1)
moved (x ∷ xs) (y ∷ ys) (suc i) place range c e p = (c.0, moved xs ys i place range c.1 e p)

as_long : (rs : List Range) (choice : List ℕ) → IsChoice rs choice → length choice ≡ length rs
as_long [] [] c = refl
as_long [] (y ∷ ys) c = absurd c
as_long (x ∷ xs) [] c = absurd c
as_long (x ∷ xs) (y ∷ ys) c = ap suc (as_long xs ys c.1)

-- with another place for one range, bounds are met that the place meets
met_after : (bs : List Bound) (choice : List ℕ) (r p : ℕ) → r < length choice → MeetsAll choice bs
    → ((z : Bound) → Contains bs z → z.range ≡ r → (z.low ≤ p) × (p ≤ z.high)) → MeetsAll (set choice r p) bs
met_after bs choice r p l met at = all_from (Meets (set choice r p)) bs (λ z c. go z c (eqb_tells z.range r))
  where
    go : (z : Bound) → Contains bs z → (((z.range == r) ≡ true) × (z.range ≡ r)) ⊎ (((z.range == r) ≡ false) × (z.range ≢ r)) → Meets (set choice r p) z
    go z c (inl w) = (omega (arith, here', (at z c w.1).0), omega (arith, here', (at z c w.1).1))
      where
        here' : slice_index (set choice r p) z.range ≡ p
        here' = ap (λ i. slice_index (set choice r p) i) w.1 ∙ get_or-set_same choice r p 0 l
    go z c (inr w) = (omega (arith, other, (all_at (Meets choice) bs z met c).0), omega (arith, other, (all_at (Meets choice) bs z met c).1))
      where
        other : slice_index (set choice r p) z.range ≡ slice_index choice z.range
        other = get_or-set_other choice r z.range p 0 w.1

-- a bound on a range, if there is one
on_range : (bs : List Bound) (r : ℕ) → ((y : Bound) × Contains bs y × (y.range ≡ r)) ⊎ ((y : Bound) → Contains bs y → y.range ≢ r)
on_range [] r = inr (λ y c. absurd (not_in_none c))
on_range (x ∷ xs) r = go (on_range xs r) (eqb_tells x.range r)
  where
    go : ((y : Bound) × Contains xs y × (y.range ≡ r)) ⊎ ((y : Bound) → Contains xs y → y.range ≢ r)
        → (((x.range == r) ≡ true) × (x.range ≡ r)) ⊎ (((x.range == r) ≡ false) × (x.range ≢ r))
        → ((y : Bound) × Contains (x ∷ xs) y × (y.range ≡ r)) ⊎ ((y : Bound) → Contains (x ∷ xs) y → y.range ≢ r)
    go rest (inl w) = inl (x, here x xs, w.1)
    go (inl (y, c, e)) (inr w) = inl (y, there x y xs c, e)
    go (inr none) (inr w) = inr (λ y c. at y (in_cons x xs y c))
      where
        at : (y : Bound) → (x ≡ y) ⊎ Contains xs y → y.range ≢ r
        at y (inl e) = subst (λ (z : Bound). z.range ≢ r) e w.1
        at y (inr c) = none y c

module _ (h : History) (a b : List Bound) (da : AreDeciding h a) (db : AreDeciding h b)
    (places : HavePlaces (ranges h))
    (same : (choice : List ℕ) → IsChoice (ranges h) choice → MeetsAll choice a → MeetsAll choice b)
    (back : (choice : List ℕ) → IsChoice (ranges h) choice → MeetsAll choice b → MeetsAll choice a) where
  -- each bound of the one list has a bound of the other on its range that is met wherever it is
  counterpart : (x : Bound) → Contains a x → (y : Bound) × Contains b y × (y.range ≡ x.range) × (y.low ≤ x.low) × (x.high ≤ y.high)
  counterpart x c = go (open_is (ranges h) a places da.rising (λ z e. (da.deciding z e).has_room)) (on_range b x.range)
    where
      d : IsDeciding h x
      d = da.deciding x c

      range_at : slice_get (ranges h) x.range ≡ Some d.removal.range
      range_at = slice_get-map (λ (z : Removal). z.range) h.removals x.range ∙ ap (λ o. option_map (λ (z : Removal). z.range) o) d.known

      same_range : d.has_room.range ≡ d.removal.range
      same_range = same_Some d.has_room.range d.removal.range (sym d.has_room.known ∙ range_at)

      from : d.removal.range.low ≤ x.low
      from = subst (λ (r : Range). r.low ≤ x.low) same_range d.has_room.from

      to : x.high ≤ d.removal.range.high
      to = subst (λ (r : Range). x.high ≤ r.high) same_range d.has_room.to

      ordered : d.removal.range.low ≤ d.removal.range.high
      ordered = omega (arith, from, d.has_room.room, to)

      go : (choice : List ℕ) × IsChoice (ranges h) choice × MeetsAll choice a
          → ((y : Bound) × Contains b y × (y.range ≡ x.range)) ⊎ ((y : Bound) → Contains b y → y.range ≢ x.range)
          → (y : Bound) × Contains b y × (y.range ≡ x.range) × (y.low ≤ x.low) × (x.high ≤ y.high)
      go (choice, chosen, met) (inl (y, e, q)) = (y, e, q, (at_y x.low (omega arith, d.has_room.room)).0, (at_y x.high (d.has_room.room, omega arith)).1)
        where
          within : x.range < length choice
          within = omega (arith, slice_get_within (ranges h) x.range d.removal.range range_at, as_long (ranges h) choice chosen)

          at_y : (p : ℕ) → (x.low ≤ p) × (p ≤ x.high) → (y.low ≤ p) × (p ≤ y.high)
          at_y p w = subst (λ n. (y.low ≤ n) × (n ≤ y.high)) (ap (λ i. slice_index (set choice x.range p) i) q ∙ get_or-set_same choice x.range p 0 within)
              (all_at (Meets (set choice x.range p)) b y
              (same (set choice x.range p) (moved (ranges h) choice x.range p d.removal.range chosen range_at (omega (arith, from, w.0), omega (arith, to, w.1)))
              (met_after a choice x.range p within met (λ z f s. subst (λ (v : Bound). (v.low ≤ p) × (p ≤ v.high)) (apart (λ (v : Bound). v.range) a x z da.rising c f (sym s)) w))) e)
      go (choice, chosen, met) (inr none) = absurd (outside d.narrow)
        where
          within : x.range < length choice
          within = omega (arith, slice_get_within (ranges h) x.range d.removal.range range_at, as_long (ranges h) choice chosen)

          meets_x : (p : ℕ) → (d.removal.range.low ≤ p) × (p ≤ d.removal.range.high) → (x.low ≤ p) × (p ≤ x.high)
          meets_x p w = subst (λ n. (x.low ≤ n) × (n ≤ x.high)) (get_or-set_same choice x.range p 0 within)
              (all_at (Meets (set choice x.range p)) a x
              (back (set choice x.range p) (moved (ranges h) choice x.range p d.removal.range chosen range_at w)
              (met_after b choice x.range p within (same choice chosen met) (λ z f s. absurd (none z f s)))) c)

          outside : (d.removal.range.low < x.low) ⊎ (x.high < d.removal.range.high) → ⊥
          outside (inl l) = omega (arith, l, (meets_x d.removal.range.low (omega arith, ordered)).0)
          outside (inr l) = omega (arith, l, (meets_x d.removal.range.high (ordered, omega arith)).1)

same_bound : (x y : Bound) → x.range ≡ y.range → x.low ≡ y.low → x.high ≡ y.high → x ≡ y
same_bound x y r l m = λ i. record { range = r i; low = l i; high = m i }

-- each bound of the one list is one of the other
shared : (h : History) (a b : List Bound) → AreDeciding h a → AreDeciding h b → HavePlaces (ranges h)
    → ((choice : List ℕ) → IsChoice (ranges h) choice → MeetsAll choice a → MeetsAll choice b)
    → ((choice : List ℕ) → IsChoice (ranges h) choice → MeetsAll choice b → MeetsAll choice a)
    → (x : Bound) → Contains a x → Contains b x
shared h a b da db places same back x c = go (counterpart h a b da db places same back x c)
  where
    go : (y : Bound) × Contains b y × (y.range ≡ x.range) × (y.low ≤ x.low) × (x.high ≤ y.high) → Contains b x
    go (y, e, q, l, m) = at (counterpart h b a db da places back same y e)
      where
        at : (z : Bound) × Contains a z × (z.range ≡ y.range) × (z.low ≤ y.low) × (y.high ≤ z.high) → Contains b x
        at (z, f, s, k, n) = subst (λ v. Contains b v) (same_bound y x q (omega (arith, l, k, ap (λ (v : Bound). v.low) one)) (omega (arith, m, n, ap (λ (v : Bound). v.high) one))) e
          where
            one : z ≡ x
            one = apart (λ (v : Bound). v.range) a z x da.rising f c (s ∙ q)

same_bounds : (h : History) (a b : List Bound) → AreDeciding h a → AreDeciding h b → HavePlaces (ranges h)
    → ((choice : List ℕ) → IsChoice (ranges h) choice → MeetsAll choice a → MeetsAll choice b)
    → ((choice : List ℕ) → IsChoice (ranges h) choice → MeetsAll choice b → MeetsAll choice a) → a ≡ b
same_bounds h a b da db places same back = same_sorted (λ x y. x.range < y.range) a b (λ x y c d l m. omega (arith, l, m)) da.rising db.rising
    (shared h a b da db places same back) (shared h b a db da places back same)

module _ (h : History) (number : ℕ) (event : Event) where
  exact_same : (a b : List Bound) → AreDeciding h a → AreDeciding h b → AreExactBounds h number event a → AreExactBounds h number event b → a ≡ b
  exact_same a b da db (inl x) (inl y) = same_bounds h a b da db (chosen_places (ranges h) x.0.0 x.0.1)
      (λ choice chosen m. (y.1 choice chosen).0 ((x.1 choice chosen).1 m)) (λ choice chosen m. (x.1 choice chosen).0 ((y.1 choice chosen).1 m))
  exact_same a b da db (inl x) (inr y) = absurd (y.0 x.0.0 x.0.1 x.0.2)
  exact_same a b da db (inr x) (inl y) = absurd (x.0 y.0.0 y.0.1 y.0.2)
  exact_same a b da db (inr x) (inr y) = x.1 ∙ sym y.1

  -- a write that found its revision, but couldn't have, is right where clouds hide it
  found_wrong : (item : Item) (created : Bool) (code : Reason) → event.answer ≡ Made item created
      → HasFoundFault h (record { number = number; event = event; item = item; created = created }) code
      → (choice : List ℕ) (place : ℕ) → IsRightAnswer h number event place (state h choice place) event.answer → IsClouded h item.key place
  found_wrong item created code e f choice place right = go (subst (λ answer. IsRightAnswer h number event place (state h choice place) answer) e right)
    where
      go : IsRightAnswer h number event place (state h choice place) (Made item created) → IsClouded h item.key place
      go (inl clouded) = clouded
      go (inr shown) = absurd (shown.1 code f)

  pub right_no_code : (code : Reason) → IsFixedRight h number event → SometimesHolds h number event → HasCode h number event code → ⊥
  right_no_code code right some (codes.level e x) = true≢false (sym x ∙ right.level)
  right_no_code code right some (codes.stage e x) = true≢false (sym x ∙ right.stage)
  right_no_code code right some (codes.stray e w) = subst (IsFixedBy h event) w right.by_word
  right_no_code code right some (codes.making m before w e f) = (subst (IsFixedBy h event) w right.by_word) before e code f
  right_no_code code right some (codes.removal removed e w n) = n (subst (IsFixedBy h event) w right.by_word)
  right_no_code code right (choice, chosen, holds) (codes.found item created w a n f) = let place = holds w in
      n (place.0, place.1.0, place.1.1, found_wrong item created code a f choice place.0 place.2)
  right_no_code code right (choice, chosen, holds) (codes.answer e w n) = n choice chosen holds
  right_no_code code right some (codes.decision decided e d n) = let places = right.decision decided d in n places.0 places.1

  failure_same : (a b : Option Reason) → IsFailure h number event a → IsFailure h number event b → a ≡ b
  failure_same None None x y = refl
  failure_same None (Some d) x y = absurd (right_no_code d x.0 x.1 y.0)
  failure_same (Some c) None x y = absurd (right_no_code c y.0 y.1 x.0)
  failure_same (Some c) (Some d) x y = ap Some (same_code c d (x.1 d y.0) (y.1 c x.0))

  pub one_claim : (a b : Claim) → IsExactClaim h number event a → IsExactClaim h number event b → AreDeciding h a.bounds → AreDeciding h b.bounds → a ≡ b
  one_claim a b x y da db = λ i. record { fails = fails i; bounds = bounds i; reason = reason i }
    where
      fails : a.fails ≡ b.fails
      fails = failure_same a.fails b.fails x.failure y.failure

      bounds : a.bounds ≡ b.bounds
      bounds = exact_same a.bounds b.bounds da db x.exact y.exact

      reason : a.reason ≡ b.reason
      reason = x.of_answer ∙ sym y.of_answer
