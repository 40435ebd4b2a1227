-- The first place at which some span of several parts has begun.
use Rattle.std.proofs.Common.{◌≡◌, ℕ, zero, suc, ◌+◌, ◌<◌, ◌≤◌, ⊎_elim, List, [], ◌∷◌, ◌++◌, length, get_or, set, take, Option, sym, ◌∙◌, subst, ap, append_assoc, append-nil, arith}
use Rattle.std.specs.List.{Any, flat_map}
use Rattle.std.proofs.lemmas.List.{take_all, take_more}
use Rattle.std.proofs.lemmas.List.Concat.{flat_map-append}
use Rattle.base_types.specs.declared.kubernetes.key.ObjectKey.{ObjectKey}
use Rattle.clouds.specs.declared.span.OpaqueSpan.{OpaqueSpan}
use Rattle.clouds.specs.FirstPlace.{IsFirstPlace, lesser_place}
use Rattle.clouds.specs.Hiding.{ReachesKey}
use Rattle.clouds.proofs.FirstPlaces.{Either, IsFirstPlace-either, IsFirstPlace-same}
use Rattle.clouds.proofs.Quantified.{Any-append_cases, Any-append_left, Any-append_right}

abbrev pub joined : List (List OpaqueSpan) → List OpaqueSpan
joined parts = flat_map (λ part. part) parts

joined_more : (parts : List (List OpaqueSpan)) (i : ℕ) (part : List OpaqueSpan) → i < length parts → part ≡ get_or parts i part → joined (take (i + 1) parts) ≡ joined (take i parts) ++ part
joined_more parts i part within is =
    ap joined (take_more parts i part within ∙ ap (λ p. take i parts ++ p ∷ []) (sym is)) ∙ flat_map-append (λ part. part) (take i parts) (part ∷ []) ∙ ap (λ l. joined (take i parts) ++ l) (append-nil part)

pub IsFirstPlace-more : (key : ObjectKey) (revision low high : ℕ) (parts : List (List OpaqueSpan)) (i : ℕ) (part : List OpaqueSpan) (a b : Option ℕ) → i < length parts → part ≡ get_or parts i part
    → IsFirstPlace (λ n. Any (ReachesKey key n revision) (joined (take i parts))) low high a → IsFirstPlace (λ n. Any (ReachesKey key n revision) part) low high b
    → IsFirstPlace (λ n. Any (ReachesKey key n revision) (joined (take (i + 1) parts))) low high (lesser_place a b)
IsFirstPlace-more key revision low high parts i part a b within is first next =
    let P : ℕ → Type 0 = λ n. Any (ReachesKey key n revision) (joined (take i parts)) in
    let Q : ℕ → Type 0 = λ n. Any (ReachesKey key n revision) part in
    subst (λ spans. IsFirstPlace (λ n. Any (ReachesKey key n revision) spans) low high (lesser_place a b)) (sym (joined_more parts i part within is))
    (IsFirstPlace-same (Either P Q) (λ n. Any (ReachesKey key n revision) (joined (take i parts) ++ part)) low high (lesser_place a b)
    (λ n either. ⊎_elim (Any-append_left (ReachesKey key n revision) (joined (take i parts)) part) (Any-append_right (ReachesKey key n revision) (joined (take i parts)) part) either)
    (λ n any. Any-append_cases (ReachesKey key n revision) (joined (take i parts)) part any)
    (IsFirstPlace-either P Q low high a b first next))

pub IsFirstPlace-all : (key : ObjectKey) (revision low high : ℕ) (parts : List (List OpaqueSpan)) (i : ℕ) (place : Option ℕ) → length parts ≤ i
    → IsFirstPlace (λ n. Any (ReachesKey key n revision) (joined (take i parts))) low high place → IsFirstPlace (λ n. Any (ReachesKey key n revision) (joined parts)) low high place
IsFirstPlace-all key revision low high parts i place end first =
    subst (λ l. IsFirstPlace (λ n. Any (ReachesKey key n revision) (joined l)) low high place) (take_all i parts end) first

-- the last part gets more
pub joined_longer : (parts : List (List OpaqueSpan)) (n : ℕ) (part more : List OpaqueSpan) → n + 1 ≡ length parts → part ≡ get_or parts n part → joined (set parts n (part ++ more)) ≡ joined parts ++ more
joined_longer [] n part more last is = absurd (omega arith)
joined_longer (first ∷ []) zero part more last is = append-nil (part ++ more) ∙ ap (λ l. l ++ more) (is ∙ sym (append-nil first))
joined_longer (first ∷ second ∷ parts) zero part more last is = absurd (omega arith)
joined_longer (first ∷ parts) (suc n) part more last is = ap (λ l. first ++ l) (joined_longer parts n part more (omega arith) is) ∙ sym (append_assoc first (joined parts) more)
