-- The removals, sorted by their last versions.
use Rattle.std.proofs.Common.{◌≡◌, ◌≢◌, ℕ, zero, suc, ◌+◌, ⊎_elim, List, [], ◌∷◌, Some, slice_get, refl, sym, ◌∙◌, subst, ap, arith}
use Rattle.std.specs.List.{All, Contains}
use Rattle.std.specs.List.Sorted.{IsPermutation}
use Rattle.std.proofs.lemmas.List.Sorted.{Contains-permutation, IsPermutation-sym}
use Rattle.std.proofs.lemmas.Option.{same_Some}
use Rattle.history_model.proofs.Members.{here, there, in_cons, in_at, all_from, not_in_none}
use Rattle.object_past.specs.Endings.{AreEndings, ByLast, ending_of, endings_from}
use Rattle.object_past.specs.declared.ending.Ending.{Ending}
use Rattle.object_past.specs.declared.removal.Removal.{Removal}

-- an ending is that of a removal, at its position
listed_of : (position : ℕ) (removals : List Removal) (ending : Ending) → Contains (endings_from position removals) ending
    → (k : ℕ) × (removal : Removal) × (slice_get removals k ≡ Some removal) × (ending ≡ ending_of (position + k) removal)
listed_of position [] ending among = absurd (not_in_none among)
listed_of position (r ∷ rs) ending among = ⊎_elim
    (λ is. let start : position ≡ position + 0 = omega arith in (0, r, refl, sym is ∙ ap (λ n. ending_of n r) start))
    (λ later.
    let rest = listed_of (position + 1) rs ending later in
    let next : position + 1 + rest.0 ≡ position + suc rest.0 = omega arith in
    (suc rest.0, rest.1, rest.2, rest.3 ∙ ap (λ n. ending_of n rest.1) next))
    (in_cons (ending_of position r) (endings_from (position + 1) rs) ending among)

listed_at : (position : ℕ) (removals : List Removal) (k : ℕ) (removal : Removal) → slice_get removals k ≡ Some removal
    → Contains (endings_from position removals) (ending_of (position + k) removal)
listed_at position [] k removal at = absurd (cc at)
listed_at position (r ∷ rs) zero removal at =
    let start : position ≡ position + 0 = omega arith in
    subst (λ e. Contains (endings_from position (r ∷ rs)) e) (ap (λ n. ending_of n r) start ∙ ap (ending_of (position + 0)) (same_Some r removal at))
    (here (ending_of position r) (endings_from (position + 1) rs))
listed_at position (r ∷ rs) (suc k) removal at =
    let next : position + 1 + k ≡ position + suc k = omega arith in
    there (ending_of position r) (ending_of (position + suc k) removal) (endings_from (position + 1) rs)
    (subst (λ n. Contains (endings_from (position + 1) rs) (ending_of n removal)) next (listed_at (position + 1) rs k removal at))

pub AreEndings-sorted : (removals : List Removal) (listed sorted : List Ending) → listed ≡ endings_from 0 removals → IsPermutation listed sorted → ByLast sorted → AreEndings removals sorted
AreEndings-sorted removals listed sorted is same order = record {
  rising = order;
  sound = λ ending among.
      let found = listed_of 0 removals ending (subst (λ l. Contains l ending) is (Contains-permutation sorted listed ending (IsPermutation-sym listed sorted same) among)) in
      let start : 0 + found.0 ≡ found.0 = omega arith in
      let of : ending ≡ ending_of found.0 found.1 = found.3 ∙ ap (λ n. ending_of n found.1) start in
      let position : found.0 ≡ ending.position = sym (ap (λ (e : Ending). e.position) of) in
      (found.1, subst (λ n. slice_get removals n ≡ Some found.1) position found.2, of ∙ ap (λ n. ending_of n found.1) position);
  full = λ position removal at.
      let start : 0 + position ≡ position = omega arith in
      Contains-permutation listed sorted (ending_of position removal) same
      (subst (λ l. Contains l (ending_of position removal)) (sym is) (subst (λ n. Contains (endings_from 0 removals) (ending_of n removal)) start (listed_at 0 removals position removal at)));
}

-- what an ending says of its removal
pub ending_removal : (removals : List Removal) (endings : List Ending) (ending : Ending) → AreEndings removals endings → Contains endings ending
    → (removal : Removal) × (slice_get removals ending.position ≡ Some removal) × (removal.last ≡ ending.last) × (removal.range.high ≡ ending.high)
ending_removal removals endings ending are among =
    let found = are.sound ending among in
    (found.0, found.1, sym (ap (λ (e : Ending). e.last) found.2), sym (ap (λ (e : Ending). e.high) found.2))

-- no removal has a last version that no ending has
pub ending_none : (removals : List Removal) (endings : List Ending) (last : ℕ) → AreEndings removals endings → ((ending : Ending) → Contains endings ending → ending.last ≢ last)
    → All (λ removal. removal.last ≢ last) removals
ending_none removals endings last are none = all_from (λ removal. removal.last ≢ last) removals
    (λ removal among. let at = in_at removals removal among in none (ending_of at.0 removal) (are.full at.0 removal at.1))
