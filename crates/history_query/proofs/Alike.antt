-- In a list that rises by a number: the first item from which on all are alike that count, of those that come first.
use Rattle.std.proofs.Common.{◌≡◌, ℕ, ◌+◌, ◌<◌, ◌≤◌, ◌⊎◌, inl, inr, ⊎_elim, Option, Some, None, List, AllPairs, slice_get, unwrap_or, sym, ap, ◌∙◌, subst, arith}
use Rattle.std.specs.Option.{option_or}
use Rattle.std.proofs.lemmas.Option.{get_or_from_slice_get, same_Some, slice_get_within}

-- one of the first `n`
pub record IsAmong {X : Type 0} (xs : List X) (n : ℕ) (x : X) : Type 0 where
  pub position : ℕ
  pub below : position < n
  pub stands : slice_get xs position ≡ Some x

-- from this number on, each of the first `n` that counts is alike
abbrev pub AreAlikeFrom : {X : Type 0} → (X → ℕ) → (X → Type 0) → (X → Type 0) → List X → ℕ → ℕ → Type 0
AreAlikeFrom {X} number Counts Alike xs n from = (x : X) → IsAmong xs n x → Counts x → from ≤ number x → Alike x

-- the first of them from which on it is so
pub record IsFirstAlike {X : Type 0} (number : X → ℕ) (Counts Alike : X → Type 0) (xs : List X) (n : ℕ) (first : X) : Type 0 where
  pub among : IsAmong xs n first
  pub counts : Counts first
  pub alike : AreAlikeFrom number Counts Alike xs n (number first)
  pub least : (x : X) → IsAmong xs n x → Counts x → AreAlikeFrom number Counts Alike xs n (number x) → number first ≤ number x

-- that one, or there is none
abbrev pub IsAlikeSince : {X : Type 0} → (X → ℕ) → (X → Type 0) → (X → Type 0) → List X → ℕ → Option X → Type 0
IsAlikeSince {X} number Counts Alike xs n None = (x : X) → IsAmong xs n x → Counts x → AreAlikeFrom number Counts Alike xs n (number x) → ⊥
IsAlikeSince number Counts Alike xs n (Some first) = IsFirstAlike number Counts Alike xs n first

below_or_at : (i n : ℕ) → i < n + 1 → (i < n) ⊎ (i ≡ n)
below_or_at i n l = grind arith

module _ {X : Type 0} (xs : List X) (n : ℕ) where
  among_more : (x : X) → IsAmong xs n x → IsAmong xs (n + 1) x
  among_more x a = record { position = a.position; below = (let l = a.below in omega (arith, l)); stands = a.stands }

  among_last : (x : X) → slice_get xs n ≡ Some x → IsAmong xs (n + 1) x
  among_last x e = record { position = n; below = omega arith; stands = e }

  among_split : (x y : X) → slice_get xs n ≡ Some x → IsAmong xs (n + 1) y → IsAmong xs n y ⊎ (x ≡ y)
  among_split x y e a = ⊎_elim
      (λ (l : a.position < n). inl (record { position = a.position; below = l; stands = a.stands }))
      (λ (q : a.position ≡ n). inr (same_Some x y (sym e ∙ ap (slice_get xs) (sym q) ∙ a.stands)))
      (below_or_at a.position n a.below)

module _ {X : Type 0} (number : X → ℕ) (Counts Alike : X → Type 0) (xs : List X) where
  among_below : (n : ℕ) (x y : X) → AllPairs (λ a b. number a < number b) xs → slice_get xs n ≡ Some x → IsAmong xs n y → number y < number x
  among_below n x y rising e a =
      let l = rising a.position n x a.below (slice_get_within xs n x e) in
      let of_y = ap number (get_or_from_slice_get xs a.position y x a.stands) in
      let of_x = ap number (get_or_from_slice_get xs n x x e) in
      omega (arith, l, of_y, of_x)

  narrowed : (n from : ℕ) → AreAlikeFrom number Counts Alike xs (n + 1) from → AreAlikeFrom number Counts Alike xs n from
  narrowed n from h = λ y a counts upto. h y (among_more xs n y a) counts upto

  widened : (n from : ℕ) (x : X) → slice_get xs n ≡ Some x → (Counts x → Alike x) → AreAlikeFrom number Counts Alike xs n from
      → AreAlikeFrom number Counts Alike xs (n + 1) from
  widened n from x e here h = λ y a counts upto. ⊎_elim
      (λ (b : IsAmong xs n y). h y b counts upto)
      (λ (q : x ≡ y). subst Alike q (here (subst Counts (sym q) counts)))
      (among_split xs n x y e a)

  -- the next item doesn't count
  pub alike_past : (n : ℕ) (x : X) (since : Option X) → slice_get xs n ≡ Some x → (Counts x → ⊥) → IsAlikeSince number Counts Alike xs n since
      → IsAlikeSince number Counts Alike xs (n + 1) since
  alike_past n x None e not h = λ y a counts alike. ⊎_elim
      (λ (b : IsAmong xs n y). h y b counts (narrowed n (number y) alike))
      (λ (q : x ≡ y). not (subst Counts (sym q) counts))
      (among_split xs n x y e a)
  alike_past n x (Some first) e not h = record {
    among = among_more xs n first h.among;
    counts = h.counts;
    alike = widened n (number first) x e (λ counts. absurd (not counts)) h.alike;
    least = λ y a counts alike. ⊎_elim
        (λ (b : IsAmong xs n y). h.least y b counts (narrowed n (number y) alike))
        (λ (q : x ≡ y). absurd (not (subst Counts (sym q) counts)))
        (among_split xs n x y e a);
  }

  -- it counts and isn't alike
  pub alike_none : (n : ℕ) (x : X) → AllPairs (λ a b. number a < number b) xs → slice_get xs n ≡ Some x → Counts x → (Alike x → ⊥)
      → IsAlikeSince number Counts Alike xs (n + 1) None
  alike_none n x rising e counts not = λ y a other alike. ⊎_elim
      (λ (b : IsAmong xs n y). let l = among_below n x y rising e b in not (alike x (among_last xs n x e) counts (omega (arith, l))))
      (λ (q : x ≡ y). let l = ap number q in not (alike x (among_last xs n x e) counts (omega (arith, l))))
      (among_split xs n x y e a)

  -- it counts and is alike
  pub alike_more : (n : ℕ) (x : X) (since : Option X) → AllPairs (λ a b. number a < number b) xs → slice_get xs n ≡ Some x → Counts x → Alike x
      → IsAlikeSince number Counts Alike xs n since → IsAlikeSince number Counts Alike xs (n + 1) (option_or since (Some x))
  alike_more n x None rising e counts is h = record {
    among = among_last xs n x e;
    counts = counts;
    alike = λ y a other upto. ⊎_elim
        (λ (b : IsAmong xs n y). let l = among_below n x y rising e b in absurd (omega (arith, l, upto)))
        (λ (q : x ≡ y). subst Alike q is)
        (among_split xs n x y e a);
    least = λ y a other alike. ⊎_elim
        (λ (b : IsAmong xs n y). absurd (h y b other (narrowed n (number y) alike)))
        (λ (q : x ≡ y). let l = ap number q in omega (arith, l))
        (among_split xs n x y e a);
  }
  alike_more n x (Some first) rising e counts is h = record {
    among = among_more xs n first h.among;
    counts = h.counts;
    alike = widened n (number first) x e (λ _. is) h.alike;
    least = λ y a other alike. ⊎_elim
        (λ (b : IsAmong xs n y). h.least y b other (narrowed n (number y) alike))
        (λ (q : x ≡ y). let l = among_below n x first rising e h.among in let m = ap number q in omega (arith, l, m))
        (among_split xs n x y e a);
  }

  -- where the last one that counts is alike there is such an item
  pub alike_whole : (n : ℕ) (last : X) (since : Option X) → IsAmong xs n last → Counts last → AreAlikeFrom number Counts Alike xs n (number last)
      → IsAlikeSince number Counts Alike xs n since → IsFirstAlike number Counts Alike xs n (unwrap_or since last)
  alike_whole n last None among counts alike h = absurd (h last among counts alike)
  alike_whole n last (Some first) among counts alike h = h
