-- The order of judgement has the number of each event once.
use Rattle.std.proofs.Common.{◌≡◌, ◌≢◌, ℕ, ◌<◌, ◌⊎◌, inl, inr, List, [], ◌∷◌, length, get_or, swap_remove, AllPairs, Contains, sym, subst, arith}
use Rattle.std.specs.List.{range_with_len}
use Rattle.std.specs.List.Sorted.{IsPermutation}
use Rattle.std.proofs.lemmas.List.{length-map}
use Rattle.std.proofs.lemmas.List.Elements.{Contains-get_or}
use Rattle.std.proofs.lemmas.List.FromFn.{get_or-range_with_len, length-range_with_len}
use Rattle.std.proofs.lemmas.List.Sorted.{Contains-permutation, IsPermutation-cons, IsPermutation-refl, IsPermutation-swap_remove, IsPermutation-sym, IsPermutation-trans}
use Rattle.history_model.proofs.JudgingLemmas.{judged_once}
use Rattle.history_model.proofs.Members.{all_at, here, in_cons, not_in_none, pairs_head, pairs_tail, there}
use Rattle.history_model.proofs.OutcomeLaw.{get_within}
use Rattle.history_model.specs.Events.{Event}
use Rattle.history_model.specs.Histories.{IsEvent}
use Rattle.history_model.specs.Judging.{IsJudgedBefore}
use Rattle.history_model.specs.Readable.{IsReadable}
use Rattle.log_context.specs.Histories.{history_of}
use Rattle.log_context.specs.Known.{Known}
use Rattle.write_groups.proofs.Judging.{apart_moved}
use Rattle.write_groups.specs.Modelled.{event_of}

-- lists without repeats that have the same numbers
pub same_numbers : (xs ys : List ℕ) → AllPairs (λ a b. a ≢ b) xs → AllPairs (λ a b. a ≢ b) ys → ((z : ℕ) → Contains xs z → Contains ys z) → ((z : ℕ) → Contains ys z → Contains xs z)
    → IsPermutation xs ys
same_numbers [] [] f g to back = IsPermutation-refl []
same_numbers [] (y ∷ ys) f g to back = absurd (not_in_none (back y (here y ys)))
same_numbers (x ∷ xs) ys f g to back = go (λ zs. same_numbers xs zs) (to x (here x xs))
  where
    go : ((zs : List ℕ) → AllPairs (λ a b. a ≢ b) xs → AllPairs (λ a b. a ≢ b) zs → ((z : ℕ) → Contains xs z → Contains zs z) → ((z : ℕ) → Contains zs z → Contains xs z) → IsPermutation xs zs)
        → Contains ys x → IsPermutation (x ∷ xs) ys
    go rest (i, l, e) = IsPermutation-trans (x ∷ xs) (x ∷ others) ys
        (IsPermutation-cons x xs others (rest others (pairs_tail (λ a b. a ≢ b) x xs f) (pairs_tail (λ a b. a ≢ b) x others apart) forth back_again))
        (IsPermutation-sym ys (x ∷ others) taken)
      where
        others : List ℕ
        others = swap_remove ys i x

        taken : IsPermutation ys (x ∷ others)
        taken = IsPermutation-swap_remove ys i x l (sym e)

        apart : AllPairs (λ a b. a ≢ b) (x ∷ others)
        apart = apart_moved (λ n. n) ys (x ∷ others) taken g

        forth : (z : ℕ) → Contains xs z → Contains others z
        forth z c = by (in_cons x others z (Contains-permutation ys (x ∷ others) z taken (to z (there x z xs c))))
          where
            by : (x ≡ z) ⊎ Contains others z → Contains others z
            by (inl q) = absurd (all_at (λ b. x ≢ b) xs z (pairs_head (λ a b. a ≢ b) x xs f) c q)
            by (inr d) = d

        back_again : (z : ℕ) → Contains others z → Contains xs z
        back_again z c = by (in_cons x xs z (back z (Contains-permutation (x ∷ others) ys z (IsPermutation-sym ys (x ∷ others) taken) (there x z others c))))
          where
            by : (x ≡ z) ⊎ Contains xs z → Contains xs z
            by (inl q) = absurd (all_at (λ b. x ≢ b) others z (pairs_head (λ a b. a ≢ b) x others apart) c q)
            by (inr d) = d

in_range : (n z : ℕ) → z < n → Contains (range_with_len 0 n) z
in_range n z l = (z, omega (arith, l, length-range_with_len 0 n), (let e = get_or-range_with_len 0 n z z l in omega (arith, e)))

range_below : (n z : ℕ) → Contains (range_with_len 0 n) z → z < n
range_below n z (i, l, e) = let within : i < n = omega (arith, l, length-range_with_len 0 n) in omega (arith, within, e, get_or-range_with_len 0 n i z within)

range_apart : (n : ℕ) → AllPairs (λ a b. a ≢ b) (range_with_len 0 n)
range_apart n = λ i j d l m e. let within : j < n = omega (arith, m, length-range_with_len 0 n) in
    let before : i < n = omega (arith, l, within) in
    omega (arith, l, e, get_or-range_with_len 0 n i d before, get_or-range_with_len 0 n j d within)

pub ordered : (known : Known) → IsReadable (history_of known) → IsPermutation (range_with_len 0 (length known.log)) known.order
ordered known r = same_numbers (range_with_len 0 (length known.log)) known.order (range_apart (length known.log)) apart
    (λ z c. r.order.full z (let l = range_below (length known.log) z c in omega (arith, l, whole)))
    (λ z c. in_range (length known.log) z (let l = r.order.known z c in omega (arith, l, whole)))
  where
    whole : length (history_of known).events ≡ length known.log
    whole = length-map known.log event_of

    apart : AllPairs (λ a b. a ≢ b) known.order
    apart = λ i j d l m e. go i j d (r.order.sorted i j d l m) e (r.order.known (get_or known.order i d) (Contains-get_or known.order i d (omega (arith, l, m))))
      where
        go : (i j d : ℕ) → ((x y : Event) → IsEvent (history_of known) (get_or known.order i d) x → IsEvent (history_of known) (get_or known.order j d) y → IsJudgedBefore x y)
            → get_or known.order i d ≡ get_or known.order j d → get_or known.order i d < length (history_of known).events → ⊥
        go i j d before e l = by (get_within (history_of known).events (get_or known.order i d) l)
          where
            by : (x : Event) × IsEvent (history_of known) (get_or known.order i d) x → ⊥
            by (x, k) = let self = before x x k (subst (λ n. IsEvent (history_of known) n x) e k) in judged_once x x self self
