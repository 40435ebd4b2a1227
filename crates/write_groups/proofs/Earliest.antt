-- The earliest of the moments that numbers have.
use Rattle.std.proofs.Common.{◌≡◌, ℕ, ℤ, ◌<ℤ◌, ◌≤ℤ◌, ◌⊎◌, inl, inr, Bool, true, false, if◌then◌else◌, List, [], ◌∷◌, Option, Some, None, Contains, refl, sym, ap, ◌∙◌, subst, arith}
use Rattle.std.specs.Prelude.{int_lt}
use Rattle.std.specs.List.{fold}
use Rattle.std.proofs.lemmas.Int.{ints}
use Rattle.std.proofs.lemmas.Option.{same_Some}
use Rattle.base_types.specs.declared.kubernetes.revision.Moment.{Moment}
use Rattle.history_model.proofs.Members.{not_in_none, here, there, in_cons}
use Rattle.write_groups.proofs.Comparing.{int_tells}
use Rattle.write_groups.specs.Spanned.{earlier_moment, least_by}

at_most : (x : ℤ) → x ≤ℤ x
at_most x = omega (arith, ints)

not_after : (x y : ℤ) → x <ℤ y → x ≤ℤ y
not_after x y l = omega (arith, ints)

upto_trans : (x y z : ℤ) → x ≤ℤ y → y ≤ℤ z → x ≤ℤ z
upto_trans x y z l m = omega (arith, ints)

earlier_none : (a b : Option Moment) → earlier_moment a b ≡ None → (a ≡ None) × (b ≡ None)
earlier_none None b e = (refl, e)
earlier_none (Some a) None e = absurd (cc e)
earlier_none (Some a) (Some b) e = absurd (cc e)

earlier_pick : (a b : Option Moment) (m : Moment) → earlier_moment a b ≡ Some m → (a ≡ Some m) ⊎ (b ≡ Some m)
earlier_pick None b m e = inr e
earlier_pick (Some a) None m e = inl e
earlier_pick (Some a) (Some b) m e = go (int_lt b.0 a.0) refl
  where
    go : (t : Bool) → int_lt b.0 a.0 ≡ t → (Some a ≡ Some m) ⊎ (Some b ≡ Some m)
    go true t = inr (let h : Some b ≡ Some m = rw t at e in h)
    go false t = inl (let h : Some a ≡ Some m = rw t at e in h)

-- the earlier of two isn't after the first, nor after the second
earlier_first : (a b : Option Moment) (m x : Moment) → earlier_moment a b ≡ Some m → a ≡ Some x → m.0 ≤ℤ x.0
earlier_first None b m x e f = absurd (cc f)
earlier_first (Some a) None m x e f = subst (λ (z : Moment). m.0 ≤ℤ z.0) (same_Some m x (sym e ∙ f)) (at_most m.0)
earlier_first (Some a) (Some b) m x e f = go (int_tells b.0 a.0)
  where
    same : a ≡ x
    same = same_Some a x f

    go : ((int_lt b.0 a.0 ≡ true) × (b.0 <ℤ a.0)) ⊎ ((int_lt b.0 a.0 ≡ false) × (a.0 ≤ℤ b.0)) → m.0 ≤ℤ x.0
    go (inl t) = let h : Some b ≡ Some m = rw t.0 at e in subst (λ (z : Moment). z.0 ≤ℤ x.0) (same_Some b m h) (subst (λ (z : Moment). b.0 ≤ℤ z.0) same (not_after b.0 a.0 t.1))
    go (inr t) = let h : Some a ≡ Some m = rw t.0 at e in subst (λ (z : Moment). z.0 ≤ℤ x.0) (same_Some a m h) (subst (λ (z : Moment). a.0 ≤ℤ z.0) same (at_most a.0))

earlier_second : (a b : Option Moment) (m x : Moment) → earlier_moment a b ≡ Some m → b ≡ Some x → m.0 ≤ℤ x.0
earlier_second None b m x e f = subst (λ (z : Moment). m.0 ≤ℤ z.0) (same_Some m x (sym e ∙ f)) (at_most m.0)
earlier_second (Some a) None m x e f = absurd (cc f)
earlier_second (Some a) (Some b) m x e f = go (int_tells b.0 a.0)
  where
    same : b ≡ x
    same = same_Some b x f

    go : ((int_lt b.0 a.0 ≡ true) × (b.0 <ℤ a.0)) ⊎ ((int_lt b.0 a.0 ≡ false) × (a.0 ≤ℤ b.0)) → m.0 ≤ℤ x.0
    go (inl t) = let h : Some b ≡ Some m = rw t.0 at e in subst (λ (z : Moment). z.0 ≤ℤ x.0) (same_Some b m h) (subst (λ (z : Moment). b.0 ≤ℤ z.0) same (at_most b.0))
    go (inr t) = let h : Some a ≡ Some m = rw t.0 at e in subst (λ (z : Moment). z.0 ≤ℤ x.0) (same_Some a m h) (subst (λ (z : Moment). a.0 ≤ℤ z.0) same t.1)

earlier_some : (a b : Option Moment) (x : Moment) → a ≡ Some x → (y : Moment) × (earlier_moment a b ≡ Some y)
earlier_some None b x f = absurd (cc f)
earlier_some (Some a) None x f = (a, refl)
earlier_some (Some a) (Some b) x f = ((if int_lt b.0 a.0 then b else a), refl)

module _ (at : ℕ → Option Moment) where
  abbrev step : Option Moment → ℕ → Option Moment
  step first number = earlier_moment first (at number)

  -- the earliest of a moment and of those of the numbers
  pub record IsEarliest (first : Option Moment) (numbers : List ℕ) (m : Moment) : Type 0 where
    pub among : (first ≡ Some m) ⊎ ((number : ℕ) × Contains numbers number × (at number ≡ Some m))
    pub not_after_first : (x : Moment) → first ≡ Some x → m.0 ≤ℤ x.0
    pub not_after : (number : ℕ) (x : Moment) → Contains numbers number → at number ≡ Some x → m.0 ≤ℤ x.0

  none_at : (first : Option Moment) (numbers : List ℕ) → fold step first numbers ≡ None → (first ≡ None) × ((number : ℕ) → Contains numbers number → at number ≡ None)
  none_at first [] e = (e, λ number c. absurd (not_in_none c))
  none_at first (n ∷ ns) e = go (none_at (step first n) ns e)
    where
      go : (step first n ≡ None) × ((number : ℕ) → Contains ns number → at number ≡ None) → (first ≡ None) × ((number : ℕ) → Contains (n ∷ ns) number → at number ≡ None)
      go (f, rest) = ((earlier_none first (at n) f).0, λ number c. by number (in_cons n ns number c))
        where
          by : (number : ℕ) → (n ≡ number) ⊎ Contains ns number → at number ≡ None
          by number (inl q) = sym (ap at q) ∙ (earlier_none first (at n) f).1
          by number (inr c) = rest number c

  -- the earlier of the first two isn't after the earliest
  known : (first : Option Moment) (n : ℕ) (ns : List ℕ) (m : Moment) → IsEarliest (step first n) ns m → (x : Moment) → ((y : Moment) → step first n ≡ Some y → y.0 ≤ℤ x.0) → ((y : Moment) × (step first n ≡ Some y)) → m.0 ≤ℤ x.0
  known first n ns m i x f (y, e) = upto_trans m.0 y.0 x.0 (i.not_after_first y e) (f y e)

  second_some : (first : Option Moment) (n : ℕ) (x : Moment) → at n ≡ Some x → (y : Moment) × (step first n ≡ Some y)
  second_some None n x e = (x, e)
  second_some (Some a) n x e = earlier_some (Some a) (at n) a refl

  earliest_at : (first : Option Moment) (numbers : List ℕ) (m : Moment) → fold step first numbers ≡ Some m → IsEarliest first numbers m
  earliest_at first [] m e = record { among = inl e; not_after_first = λ x f. subst (λ (z : Moment). m.0 ≤ℤ z.0) (same_Some m x (sym e ∙ f)) (at_most m.0); not_after = λ number x c. absurd (not_in_none c) }
  earliest_at first (n ∷ ns) m e = go (earliest_at (step first n) ns m e)
    where
      go : IsEarliest (step first n) ns m → IsEarliest first (n ∷ ns) m
      go i = record {
        among = one i.among;
        not_after_first = λ x f. known first n ns m i x (λ y g. earlier_first first (at n) y x g f) (earlier_some first (at n) x f);
        not_after = λ number x c f. other number x (in_cons n ns number c) f;
      }
        where
          one : (step first n ≡ Some m) ⊎ ((number : ℕ) × Contains ns number × (at number ≡ Some m)) → (first ≡ Some m) ⊎ ((number : ℕ) × Contains (n ∷ ns) number × (at number ≡ Some m))
          one (inl f) = by (earlier_pick first (at n) m f)
            where
              by : (first ≡ Some m) ⊎ (at n ≡ Some m) → (first ≡ Some m) ⊎ ((number : ℕ) × Contains (n ∷ ns) number × (at number ≡ Some m))
              by (inl g) = inl g
              by (inr g) = inr (n, here n ns, g)
          one (inr (number, c, f)) = inr (number, there n number ns c, f)

          other : (number : ℕ) (x : Moment) → (n ≡ number) ⊎ Contains ns number → at number ≡ Some x → m.0 ≤ℤ x.0
          other number x (inl q) f = known first n ns m i x (λ y g. earlier_second first (at n) y x g (ap at q ∙ f)) (second_some first n x (ap at q ∙ f))
          other number x (inr c) f = i.not_after number x c f

  pub least_none : (numbers : List ℕ) → least_by at numbers ≡ None → (number : ℕ) → Contains numbers number → at number ≡ None
  least_none numbers e = (none_at None numbers e).1

  pub record IsLeast (numbers : List ℕ) (m : Moment) : Type 0 where
    pub number : ℕ
    pub among : Contains numbers number
    pub found : at number ≡ Some m
    pub not_after : (number : ℕ) (x : Moment) → Contains numbers number → at number ≡ Some x → m.0 ≤ℤ x.0

  pub least_some : (numbers : List ℕ) (m : Moment) → least_by at numbers ≡ Some m → IsLeast numbers m
  least_some numbers m e = go (earliest_at None numbers m e)
    where
      go : IsEarliest None numbers m → IsLeast numbers m
      go i = by i.among
        where
          by : (None ≡ Some m) ⊎ ((number : ℕ) × Contains numbers number × (at number ≡ Some m)) → IsLeast numbers m
          by (inl f) = absurd (cc f)
          by (inr (number, c, f)) = record { number = number; among = c; found = f; not_after = i.not_after }
