-- Claims by the events of an order, and all claims.
use Rattle.std.proofs.Common.{◌≡◌, ℕ, zero, suc, ◌<◌, List, [], ◌∷◌, length, get_or, All, None, IfSome, slice_get, arith, subst, sym}
use Rattle.std.specs.List.{range_with_len}
use Rattle.std.specs.List.Sorted.{IsPermutation}
use Rattle.std.proofs.lemmas.List.FromFn.{get_or-range_with_len, length-range_with_len}
use Rattle.std.proofs.lemmas.List.Sorted.{All-permutation, IsPermutation-sym}
use Rattle.std.proofs.lemmas.Option.{slice_get-get_or}
use Rattle.base_types.specs.declared.verdict.claim.Claim.{Claim}
use Rattle.base_types.specs.declared.verdict.claim.Range.{Range}
use Rattle.base_types.specs.Choices.{MeetsAll}
use Rattle.base_types.specs.Settlement.{Explains, ExplainsAll}

-- what holds of each claim holds of the claim of any event
pub All-at : (P : Claim → Type 0) (claims : List Claim) (event : ℕ) → All P claims → IfSome (slice_get claims event) P
All-at P [] event all = tt
All-at P (claim ∷ claims) zero all = all 0 claim (omega arith)
All-at P (claim ∷ claims) (suc event) all = All-at P claims event (λ k d below. all (suc k) d (omega arith))

pub IfSome-at : (P : Claim → Type 0) (claims : List Claim) (event : ℕ) (d : Claim) → event < length claims → IfSome (slice_get claims event) P → P (get_or claims event d)
IfSome-at P claims event d known holds = subst (λ o. IfSome o P) (slice_get-get_or claims event d known) holds

pub at-IfSome : (P : Claim → Type 0) (claims : List Claim) (event : ℕ) (d : Claim) → event < length claims → P (get_or claims event d) → IfSome (slice_get claims event) P
at-IfSome P claims event d known holds = subst (λ o. IfSome o P) (sym (slice_get-get_or claims event d known)) holds

-- an order of all events meets each claim
pub All-from_order : (P : Claim → Type 0) (claims : List Claim) (order : List ℕ) → IsPermutation (range_with_len 0 (length claims)) order
    → All (λ event. IfSome (slice_get claims event) P) order → All P claims
All-from_order P claims order same all = λ k d below.
    let events = All-permutation (λ event. IfSome (slice_get claims event) P) order (range_with_len 0 (length claims)) (IsPermutation-sym _ _ same) all in
    let among : k < length (range_with_len 0 (length claims)) = omega (arith, length-range_with_len 0 (length claims)) in
    let is : get_or (range_with_len 0 (length claims)) k 0 ≡ k = omega (arith, get_or-range_with_len 0 (length claims) k 0 below) in
    IfSome-at P claims k d below (subst (λ event. IfSome (slice_get claims event) P) is (events k 0 among))

pub ExplainsAll-from_order : (ranges : List Range) (claims : List Claim) (order choice : List ℕ) → IsPermutation (range_with_len 0 (length claims)) order
    → Explains ranges claims order choice → ExplainsAll ranges claims choice
ExplainsAll-from_order ranges claims order choice same explains = record {
  chosen = explains.meets.chosen;
  sound = All-from_order (λ claim. claim.fails ≡ None) claims order same explains.sound;
  met = All-from_order (λ claim. MeetsAll choice claim.bounds) claims order same explains.meets.met;
}

pub Explains-from_all : (ranges : List Range) (claims : List Claim) (events choice : List ℕ) → ExplainsAll ranges claims choice → Explains ranges claims events choice
Explains-from_all ranges claims events choice explains = record {
  sound = λ k d below. All-at (λ claim. claim.fails ≡ None) claims (get_or events k d) explains.sound;
  meets = record { chosen = explains.chosen; met = λ k d below. All-at (λ claim. MeetsAll choice claim.bounds) claims (get_or events k d) explains.met };
}

-- an order of the events names no other number
pub below_all : (n : ℕ) (order : List ℕ) → IsPermutation (range_with_len 0 n) order → All (λ event. event < n) order
below_all n order same = All-permutation (λ event. event < n) (range_with_len 0 n) order same (λ k d below.
    let within : k < n = omega (arith, length-range_with_len 0 n) in
    omega (arith, get_or-range_with_len 0 n k d within))
