-- Removals with the places that a choice gives them.
use Rattle.base_types.specs.declared.verdict.claim.Range.{Range}
use Rattle.std.proofs.Common.{◌≡◌, ℕ, zero, suc, ◌<◌, ◌≤◌, ◌⊎◌, true, false, nat_le, ◌==◌, List, [], ◌∷◌, map, Some, AllPairs, Contains, slice_get, slice_index, inl, inr, refl, sym, ap, ◌∙◌, subst, arith}
use Rattle.std.proofs.lemmas.Bool.Decides.{leb_tells, eqb_tells}
use Rattle.std.proofs.lemmas.Option.{same_Some}
use Rattle.base_types.specs.Choices.{IsChoice, IsPlaceOf}
use Rattle.history_model.proofs.Members.{not_in_none, here, there, in_cons, pairs_head, pairs_tail, all_at}
use Rattle.history_model.specs.Histories.{Removal}
use Rattle.history_model.specs.States.{Cut, cuts, is_gone}

abbrev pub cut_of : Removal → ℕ → Cut
cut_of removal place = record { removal = removal; place = place }

-- the places of a list of removals
abbrev pub AreChosen : List Removal → List ℕ → Type 0
AreChosen removals choice = IsChoice (map (λ removal. removal.range) removals) choice

pub cut_removal : (removals : List Removal) (choice : List ℕ) (cut : Cut) → Contains (cuts removals choice) cut → Contains removals cut.removal
cut_removal [] choice cut c = absurd (not_in_none c)
cut_removal (r ∷ rs) [] cut c = absurd (not_in_none c)
cut_removal (r ∷ rs) (x ∷ xs) cut c = go (cut_removal rs xs cut) (in_cons (cut_of r x) (cuts rs xs) cut c)
  where
    go : (Contains (cuts rs xs) cut → Contains rs cut.removal) → (cut_of r x ≡ cut) ⊎ Contains (cuts rs xs) cut → Contains (r ∷ rs) cut.removal
    go rest (inl e) = subst (λ (z : Cut). Contains (r ∷ rs) z.removal) e (here r rs)
    go rest (inr m) = there r cut.removal rs (rest m)

pub cut_chosen : (removals : List Removal) (choice : List ℕ) (cut : Cut) → AreChosen removals choice → Contains (cuts removals choice) cut
    → IsPlaceOf cut.removal.range cut.place
cut_chosen [] choice cut a c = absurd (not_in_none c)
cut_chosen (r ∷ rs) [] cut a c = absurd a
cut_chosen (r ∷ rs) (x ∷ xs) cut a c = go (cut_chosen rs xs cut a.1) (in_cons (cut_of r x) (cuts rs xs) cut c)
  where
    go : (Contains (cuts rs xs) cut → IsPlaceOf cut.removal.range cut.place) → (cut_of r x ≡ cut) ⊎ Contains (cuts rs xs) cut → IsPlaceOf cut.removal.range cut.place
    go rest (inl e) = subst (λ (z : Cut). IsPlaceOf z.removal.range z.place) e a.0
    go rest (inr m) = rest m

-- each removal has its place
pub removal_cut : (removals : List Removal) (choice : List ℕ) (removal : Removal) → AreChosen removals choice → Contains removals removal
    → (place : ℕ) × Contains (cuts removals choice) (cut_of removal place)
removal_cut [] choice removal a c = absurd (not_in_none c)
removal_cut (r ∷ rs) [] removal a c = absurd a
removal_cut (r ∷ rs) (x ∷ xs) removal a c = go (removal_cut rs xs removal a.1) (in_cons r rs removal c)
  where
    go : (Contains rs removal → (place : ℕ) × Contains (cuts rs xs) (cut_of removal place)) → (r ≡ removal) ⊎ Contains rs removal
        → (place : ℕ) × Contains (cuts (r ∷ rs) (x ∷ xs)) (cut_of removal place)
    go rest (inl e) = (x, subst (λ z. Contains (cuts (r ∷ rs) (x ∷ xs)) (cut_of z x)) e (here (cut_of r x) (cuts rs xs)))
    go rest (inr m) = ((rest m).0, there (cut_of r x) (cut_of removal (rest m).0) (cuts rs xs) (rest m).1)

-- by its position
pub cut_at : (removals : List Removal) (choice : List ℕ) (i : ℕ) (removal : Removal) → AreChosen removals choice → slice_get removals i ≡ Some removal
    → Contains (cuts removals choice) (cut_of removal (slice_index choice i))
cut_at [] choice i removal a e = absurd (cc e)
cut_at (r ∷ rs) [] i removal a e = absurd a
cut_at (r ∷ rs) (x ∷ xs) zero removal a e =
    subst (λ z. Contains (cuts (r ∷ rs) (x ∷ xs)) (cut_of z x)) (same_Some r removal e) (here (cut_of r x) (cuts rs xs))
cut_at (r ∷ rs) (x ∷ xs) (suc i) removal a e = there (cut_of r x) (cut_of removal (slice_index xs i)) (cuts rs xs) (cut_at rs xs i removal a.1 e)

-- cuts rise by event as their removals do
pub cuts_apart : (removals : List Removal) (choice : List ℕ) (a b : Cut) → AllPairs (λ r s. r.range.event < s.range.event) removals
    → Contains (cuts removals choice) a → Contains (cuts removals choice) b → a.removal.range.event ≡ b.removal.range.event → a ≡ b
cuts_apart [] choice a b rising c d e = absurd (not_in_none c)
cuts_apart (r ∷ rs) [] a b rising c d e = absurd (not_in_none c)
cuts_apart (r ∷ rs) (x ∷ xs) a b rising c d e =
    go (λ m n. cuts_apart rs xs a b (pairs_tail (λ p q. p.range.event < q.range.event) r rs rising) m n e)
    (in_cons (cut_of r x) (cuts rs xs) a c) (in_cons (cut_of r x) (cuts rs xs) b d)
  where
    above : (z : Cut) → Contains (cuts rs xs) z → r.range.event < z.removal.range.event
    above z m = all_at (λ q. r.range.event < q.range.event) rs z.removal (pairs_head (λ p q. p.range.event < q.range.event) r rs rising) (cut_removal rs xs z m)

    go : (Contains (cuts rs xs) a → Contains (cuts rs xs) b → a ≡ b) → (cut_of r x ≡ a) ⊎ Contains (cuts rs xs) a → (cut_of r x ≡ b) ⊎ Contains (cuts rs xs) b → a ≡ b
    go rest (inl p) (inl q) = sym p ∙ q
    go rest (inl p) (inr n) = absurd (omega (arith, above b n, ap (λ (z : Cut). z.removal.range.event) p))
    go rest (inr m) (inl q) = absurd (omega (arith, above a m, ap (λ (z : Cut). z.removal.range.event) q))
    go rest (inr m) (inr n) = rest m n

-- what the test of removed incarnations tells
pub gone_tells : (cs : List Cut) (last place : ℕ)
    → ((is_gone cs last place ≡ true) × ((cut : Cut) × Contains cs cut × (cut.removal.last ≡ last) × (cut.place ≤ place)))
    ⊎ ((is_gone cs last place ≡ false) × ((cut : Cut) → Contains cs cut → cut.removal.last ≡ last → place < cut.place))
gone_tells [] last place = inr (refl, λ cut c. absurd (not_in_none c))
gone_tells (z ∷ zs) last place = go (gone_tells zs last place) (eqb_tells z.removal.last last) (leb_tells z.place place)
  where
    go : ((is_gone zs last place ≡ true) × ((cut : Cut) × Contains zs cut × (cut.removal.last ≡ last) × (cut.place ≤ place)))
        ⊎ ((is_gone zs last place ≡ false) × ((cut : Cut) → Contains zs cut → cut.removal.last ≡ last → place < cut.place))
        → (((z.removal.last == last) ≡ true) × (z.removal.last ≡ last)) ⊎ (((z.removal.last == last) ≡ false) × (z.removal.last ≡ last → ⊥))
        → ((nat_le z.place place ≡ true) × (z.place ≤ place)) ⊎ ((nat_le z.place place ≡ false) × (place < z.place))
        → ((is_gone (z ∷ zs) last place ≡ true) × ((cut : Cut) × Contains (z ∷ zs) cut × (cut.removal.last ≡ last) × (cut.place ≤ place)))
        ⊎ ((is_gone (z ∷ zs) last place ≡ false) × ((cut : Cut) → Contains (z ∷ zs) cut → cut.removal.last ≡ last → place < cut.place))
    go rest (inl e) (inl l) = inl (rw (e.0, l.0) refl, (z, here z zs, e.1, l.1))
    go (inl r) (inl e) (inr l) = inl (rw (e.0, l.0) r.0, (r.1.0, there z r.1.0 zs r.1.1, r.1.2, r.1.3))
    go (inl r) (inr e) l = inl (rw e.0 r.0, (r.1.0, there z r.1.0 zs r.1.1, r.1.2, r.1.3))
    go (inr r) (inl e) (inr l) = inr (rw (e.0, l.0) r.0, λ cut c q. at cut q (in_cons z zs cut c))
      where
        at : (cut : Cut) → cut.removal.last ≡ last → (z ≡ cut) ⊎ Contains zs cut → place < cut.place
        at cut q (inl p) = omega (arith, l.1, ap (λ (y : Cut). y.place) p)
        at cut q (inr m) = r.1 cut m q
    go (inr r) (inr e) l = inr (rw e.0 r.0, λ cut c q. at cut q (in_cons z zs cut c))
      where
        at : (cut : Cut) → cut.removal.last ≡ last → (z ≡ cut) ⊎ Contains zs cut → place < cut.place
        at cut q (inl p) = absurd (e.1 (ap (λ (y : Cut). y.removal.last) p ∙ q))
        at cut q (inr m) = r.1 cut m q

-- removals are told apart by their numbers and texts
pub same_removal : (x y : Removal) → x.key ≡ y.key → x.uid ≡ y.uid → x.last ≡ y.last → x.range.event ≡ y.range.event → x.range.low ≡ y.range.low → x.range.high ≡ y.range.high → x ≡ y
same_removal x y k u l e f g = λ i. record { key = k i; uid = u i; last = l i; range = ranges_same x.range y.range e f g i }
  where
    ranges_same : (a b : Range) → a.event ≡ b.event → a.low ≡ b.low → a.high ≡ b.high → a ≡ b
    ranges_same a b e f g = λ i. record { event = e i; low = f i; high = g i }
