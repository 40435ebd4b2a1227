-- The earliest of some pages: none of them comes before it.
use Rattle.std.proofs.Common.{◌≡◌, ℕ, ℤ, ◌<◌, ◌<ℤ◌, inl, inr, Bool, true, false, ◌&&◌, ◌||◌, List, [], ◌∷◌, ◌++◌, Option, Some, None, refl, sym, ap, subst, ◌∙◌, if◌then◌else◌, append_assoc, arith}
use Rattle.std.specs.Prelude.{filter, fold, int_lt, nat_lt}
use Rattle.std.specs.Ordering.{int_eq}
use Rattle.std.proofs.lemmas.Int.{ints}
use Rattle.std.proofs.lemmas.Bool.{true≢false, or_cases, and_parts, and_from, lt-ltb, le-ltb, ltb-true}
use Rattle.std.proofs.lemmas.Bool.Decides.{Decides-int_eq}
use Rattle.page_chains.specs.declared.page.Page.{Page}
use Rattle.page_chains.specs.Chains.{key_with, asks, comes_before, sooner, earliest, next_by, next_of}
use Rattle.page_chains.specs.Following.{IsEarliest}
use Rattle.page_chains.proofs.Members.{Each, all_of, each_mapped, each_append, Among, contains_of, among_front, among_end}

-- the order of two times and lines
abbrev before : ℤ → ℕ → ℤ → ℕ → Bool
before s l t m = int_lt s t || (int_eq s t && nat_lt l m)

lt_means : (x y : ℤ) → int_lt x y ≡ true → x <ℤ y
lt_means x y e = grind (arith, ints)

lt_tells : (x y : ℤ) → x <ℤ y → int_lt x y ≡ true
lt_tells x y h = grind (arith, ints)

lt_both : (x y z : ℤ) → x <ℤ y → y <ℤ z → x <ℤ z
lt_both x y z h k = grind (arith, ints)

not_itself : (x : ℤ) → int_lt x x ≡ false
not_itself x = grind (arith, ints)

on_time : (s t : ℤ) (l m : ℕ) → int_lt s t ≡ true → before s l t m ≡ true
on_time s t l m e = ap (λ b. b || (int_eq s t && nat_lt l m)) e

either_way : (b : Bool) → (b || true) ≡ true
either_way true = refl
either_way false = refl

on_line : (s t : ℤ) (l m : ℕ) → s ≡ t → l < m → before s l t m ≡ true
on_line s t l m same lt =
    ap (λ b. int_lt s t || b) (and_from (int_eq s t) (nat_lt l m) ((Decides-int_eq s t).1 same) (lt-ltb l m lt)) ∙ either_way (int_lt s t)

-- two that come one before the other
before_both : (r s t : ℤ) (k l m : ℕ) → before r k s l ≡ true → before s l t m ≡ true → before r k t m ≡ true
before_both r s t k l m e f =
    elim (or_cases (int_lt r s) (int_eq r s && nat_lt k l) e) [
      | inl a ↦ elim (or_cases (int_lt s t) (int_eq s t && nat_lt l m) f) [
        | inl b ↦ on_time r t k m (lt_tells r t (lt_both r s t (lt_means r s a) (lt_means s t b)))
        | inr b ↦ let same : s ≡ t = (Decides-int_eq s t).0 (and_parts (int_eq s t) (nat_lt l m) b).0 in on_time r t k m (subst (λ z. int_lt r z ≡ true) same a)
      ]
      | inr a ↦
          let tied : r ≡ s = (Decides-int_eq r s).0 (and_parts (int_eq r s) (nat_lt k l) a).0 in
          elim (or_cases (int_lt s t) (int_eq s t && nat_lt l m) f) [
            | inl b ↦ on_time r t k m (subst (λ z. int_lt z t ≡ true) (sym tied) b)
            | inr b ↦
                let same : s ≡ t = (Decides-int_eq s t).0 (and_parts (int_eq s t) (nat_lt l m) b).0 in
                let one : k < l = ltb-true k l (and_parts (int_eq r s) (nat_lt k l) a).1 in
                let two : l < m = ltb-true l m (and_parts (int_eq s t) (nat_lt l m) b).1 in
                on_line r t k m (tied ∙ same) (omega arith)
          ]
    ]

itself : (page : Page) → comes_before page page ≡ false
itself page = ap (λ b. b || (int_eq page.staged.0 page.staged.0 && nat_lt page.line page.line)) (not_itself page.staged.0) ∙ by_line (int_eq page.staged.0 page.staged.0)
  where
    by_line : (b : Bool) → (b && nat_lt page.line page.line) ≡ false
    by_line true = le-ltb page.line page.line (omega arith)
    by_line false = refl

-- what doesn't come before the second doesn't come before the first
not_before : (page found other : Page) → comes_before page found ≡ true → comes_before other found ≡ false → comes_before other page ≡ false
not_before page found other e f = by_test (comes_before other page) refl
  where
    by_test : (b : Bool) → comes_before other page ≡ b → b ≡ false
    by_test true h = absurd (true≢false (sym (before_both other.staged.0 page.staged.0 found.staged.0 other.line page.line found.line h e) ∙ f))
    by_test false h = refl

-- the earliest of those that were seen
abbrev IsBest : List Page → Option Page → Type 0
IsBest seen None = seen ≡ []
IsBest seen (Some page) = Among page seen × Each (λ other. comes_before other page ≡ false) seen

one_more : (seen : List Page) (o : Option Page) (page : Page) → IsBest seen o → IsBest (seen ++ page ∷ []) (sooner o page)
one_more seen None page empty = subst (λ l. IsBest (l ++ page ∷ []) (Some page)) (sym empty) (inl refl, (itself page, tt))
one_more seen (Some found) page best = by_order (comes_before page found) refl
  where
    by_order : (b : Bool) → comes_before page found ≡ b → IsBest (seen ++ page ∷ []) (if b then Some page else Some found)
    by_order true e = (
      among_end seen page,
      each_append (λ other. comes_before other page ≡ false) seen (page ∷ [])
          (each_mapped (λ other. comes_before other found ≡ false) (λ other. comes_before other page ≡ false) (λ other. not_before page found other e) seen best.1) (itself page, tt),
    )
    by_order false e = (among_front seen (page ∷ []) found best.0, each_append (λ other. comes_before other found ≡ false) seen (page ∷ []) best.1 (e, tt))

all_seen : (xs seen : List Page) (o : Option Page) → IsBest seen o → IsBest (seen ++ xs) (fold sooner o xs)
all_seen [] seen o best = subst (λ l. IsBest l o) (sym (end seen)) best
  where
    end : (l : List Page) → l ++ [] ≡ l
    end [] = refl
    end (x ∷ l) = ap (λ m. x ∷ m) (end l)
all_seen (x ∷ xs) seen o best = subst (λ l. IsBest l (fold sooner (sooner o x) xs)) (append_assoc seen (x ∷ []) xs) (all_seen xs (seen ++ x ∷ []) (sooner o x) (one_more seen o x best))

earliest_is : (pages : List Page) → IsEarliest pages (earliest pages)
earliest_is pages = tells (earliest pages) (all_seen pages [] None refl)
  where
    tells : (o : Option Page) → IsBest pages o → IsEarliest pages o
    tells None empty = empty
    tells (Some page) best = record { among = contains_of page pages best.0; first = all_of (λ other. comes_before other page ≡ false) pages best.1 }

-- the page that follows is the earliest that was asked for by the token
pub next_is_earliest : (pages : List Page) (page : Page) (token : List ℕ) → page.token ≡ Some token → IsEarliest (filter (asks (key_with page token)) pages) (next_of pages page)
next_is_earliest pages page token e =
    subst (IsEarliest (filter (asks (key_with page token)) pages)) (sym (ap (next_by pages page) e)) (earliest_is (filter (asks (key_with page token)) pages))
