-- What the ranges that are left say of the events that were taken.
use Rattle.std.proofs.Common.{◌≡◌, ℕ, ◌+◌, ◌<◌, ◌≤◌, ⊎_elim, inl, inr, ◌↔◌, List, [], ◌∷◌, length, get_or, map, take, Bool, true, false, All, None, IfSome, slice_get, arith, subst, sym, refl}
use Rattle.std.specs.List.{AllZip, range_with_len}
use Rattle.std.specs.List.Sorted.{IsPermutation}
use Rattle.std.proofs.lemmas.List.{take_all}
use Rattle.std.proofs.lemmas.List.Elements.{All-head, All-more, All-tail}
use Rattle.std.proofs.lemmas.Option.{slice_get-get_or}
use Rattle.base_types.specs.declared.verdict.claim.Claim.{Claim}
use Rattle.base_types.specs.declared.verdict.claim.Range.{Range}
use Rattle.base_types.specs.declared.verdict.claim.Reason.{Reason}
use Rattle.base_types.specs.Choices.{HasPlace, HavePlaces, IsChoice, MeetsAll}
use Rattle.base_types.specs.Settlement.{MeetsBounds, ExplainsAll, IsLeastChoice, LeavesNoChoice, HasLeastCode, BreaksFirst}
use Rattle.place_choice.specs.Room.{Narrows}
use Rattle.place_choice.proofs.Explaining.{IfSome-at, at-IfSome, ExplainsAll-from_order, Explains-from_all}
use Rattle.base_types.proofs.Quantifiers.{All-fewer, All-last}

-- none of these events fails, and the choices of what is left are those that meet their bounds
pub record LeavesExactly (ranges left : List Range) (claims : List Claim) (events : List ℕ) : Type 0 where
  pub long : length left ≡ length ranges
  pub places : HavePlaces left
  pub sound : All (λ event. IfSome (slice_get claims event) (λ claim. claim.fails ≡ None)) events
  pub exact : (choice : List ℕ) → IsChoice left choice ↔ MeetsBounds ranges claims events choice

-- at the start all is left
pub LeavesExactly-none : (ranges : List Range) (claims : List Claim) → HavePlaces ranges → LeavesExactly ranges ranges claims []
LeavesExactly-none ranges claims places = record {
  long = refl;
  places = places;
  sound = λ k d below. absurd (omega arith);
  exact = λ choice. (λ chosen. record { chosen = chosen; met = λ k d below. absurd (omega arith) }, λ meets. meets.chosen);
}

-- the least places are a choice, and no choice is below them
pub lows-IsChoice : (left : List Range) → HavePlaces left → IsChoice left (map (λ range. range.low) left)
lows-IsChoice [] places = tt
lows-IsChoice (r ∷ rs) places =
    let kept : r.low ≤ r.high = All-head HasPlace r rs places in ((omega arith, omega arith), lows-IsChoice rs (All-tail HasPlace r rs places))

pub lows-least : (left : List Range) (choice : List ℕ) → IsChoice left choice → AllZip ◌≤◌ (map (λ range. range.low) left) choice
lows-least [] [] chosen = tt
lows-least [] (x ∷ xs) chosen = absurd chosen
lows-least (r ∷ rs) [] chosen = absurd chosen
lows-least (r ∷ rs) (x ∷ xs) chosen = (chosen.0.0, lows-least rs xs chosen.1)

-- the event at a place of the order, with its claim and what is left before it
pub record IsNext (ranges left : List Range) (claims : List Claim) (order : List ℕ) (i : ℕ) (claim : Claim) : Type 0 where
  pub within : i < length order
  pub known : get_or order i 0 < length claims
  pub is : claim ≡ get_or claims (get_or order i 0) claim
  pub leaves : LeavesExactly ranges left claims (take i order)

-- what holds of the claim holds of the event, and back
pub holds_of_event : (ranges left : List Range) (claims : List Claim) (order : List ℕ) (i : ℕ) (claim : Claim) (P : Claim → Type 0) → IsNext ranges left claims order i claim
    → P claim → IfSome (slice_get claims (get_or order i 0)) P
holds_of_event ranges left claims order i claim P next holds = at-IfSome P claims (get_or order i 0) claim next.known (subst P next.is holds)

pub holds_of_claim : (ranges left : List Range) (claims : List Claim) (order : List ℕ) (i : ℕ) (claim : Claim) (P : Claim → Type 0) → IsNext ranges left claims order i claim
    → IfSome (slice_get claims (get_or order i 0)) P → P claim
holds_of_claim ranges left claims order i claim P next holds = subst P (sym next.is) (IfSome-at P claims (get_or order i 0) claim next.known holds)

-- the bounds of the events up to this one are those of the events before and its own
pub MeetsBounds-more : (ranges left : List Range) (claims : List Claim) (order : List ℕ) (i : ℕ) (claim : Claim) (choice : List ℕ) → IsNext ranges left claims order i claim
    → IsChoice left choice → MeetsAll choice claim.bounds → MeetsBounds ranges claims (take (i + 1) order) choice
MeetsBounds-more ranges left claims order i claim choice next chosen met =
    let before = (next.leaves.exact choice).0 chosen in
    record {
      chosen = before.chosen;
      met = All-more (λ event. IfSome (slice_get claims event) (λ c. MeetsAll choice c.bounds)) order i 0 next.within before.met (holds_of_event ranges left claims order i claim (λ c. MeetsAll choice c.bounds) next met);
    }

pub MeetsBounds-parts : (ranges left : List Range) (claims : List Claim) (order : List ℕ) (i : ℕ) (claim : Claim) (choice : List ℕ) → IsNext ranges left claims order i claim
    → MeetsBounds ranges claims (take (i + 1) order) choice → IsChoice left choice × MeetsAll choice claim.bounds
MeetsBounds-parts ranges left claims order i claim choice next meets =
    let P : ℕ → Type 0 = λ event. IfSome (slice_get claims event) (λ c. MeetsAll choice c.bounds) in (
      (next.leaves.exact choice).1 (record { chosen = meets.chosen; met = All-fewer P order i next.within meets.met }),
      holds_of_claim ranges left claims order i claim (λ c. MeetsAll choice c.bounds) next (All-last P order i 0 next.within meets.met),
    )

-- one event more
pub LeavesExactly-more : (ranges left new : List Range) (claims : List Claim) (order : List ℕ) (i : ℕ) (claim : Claim) → IsNext ranges left claims order i claim
    → length new ≡ length left → HavePlaces new → claim.fails ≡ None → Narrows left new claim.bounds → LeavesExactly ranges new claims (take (i + 1) order)
LeavesExactly-more ranges left new claims order i claim next long places sound narrows = record {
  long = (let before = next.leaves.long in omega arith);
  places = places;
  sound = All-more (λ event. IfSome (slice_get claims event) (λ c. c.fails ≡ None)) order i 0 next.within next.leaves.sound (holds_of_event ranges left claims order i claim (λ c. c.fails ≡ None) next sound);
  exact = λ choice. (
    λ chosen. let parts = (narrows choice).0 chosen in MeetsBounds-more ranges left claims order i claim choice next parts.0 parts.1,
    λ meets. (narrows choice).1 (MeetsBounds-parts ranges left claims order i claim choice next meets),
  );
}

-- a code goes along with what shows that no choice is left
pub HasLeastCode-along : (claim : Claim) (A B : Type 0) (code : Reason) → (A → B) → (B → A) → HasLeastCode claim A code → HasLeastCode claim B code
HasLeastCode-along claim A B code to from least = record {
  has = ⊎_elim (λ own. inl own) (λ left. inr (left.0, to left.1)) least.has;
  least = λ other has. least.least other (⊎_elim (λ own. inl own) (λ left. inr (left.0, from left.1)) has);
}

-- whether the event's bounds left a place in each range
pub record IsClaimTold (left new : List Range) (claim : Claim) (fits : Bool) : Type 0 where
  pub narrowed : fits ≡ true → Narrows left new claim.bounds
  pub places : fits ≡ true → HavePlaces new
  pub emptied : fits ≡ false → (choice : List ℕ) → IsChoice left choice → MeetsAll choice claim.bounds → ⊥

pub fits_from_choice : (ranges left new : List Range) (claims : List Claim) (order : List ℕ) (i : ℕ) (claim : Claim) (fits : Bool) → IsNext ranges left claims order i claim
    → IsClaimTold left new claim fits → LeavesNoChoice ranges claims (take (i + 1) order) → fits ≡ false
fits_from_choice ranges left new claims order i claim false next told none = refl
fits_from_choice ranges left new claims order i claim true next told none =
    let lows = map (λ (range : Range). range.low) new in
    let parts = ((told.narrowed refl) lows).0 (lows-IsChoice new (told.places refl)) in
    absurd (none lows (MeetsBounds-more ranges left claims order i claim lows next parts.0 parts.1))

-- an event that has a code is the first that breaks
pub BreaksFirst-here : (ranges left new : List Range) (claims : List Claim) (order : List ℕ) (i : ℕ) (claim : Claim) (fits : Bool) (reason : Reason) → IsNext ranges left claims order i claim
    → IsClaimTold left new claim fits → HasLeastCode claim (fits ≡ false) reason → BreaksFirst ranges claims order (get_or order i 0) reason
BreaksFirst-here ranges left new claims order i claim fits reason next told least =
    let lows = map (λ (range : Range). range.low) left in
    let none = λ (lost : fits ≡ false) (choice : List ℕ) (meets : MeetsBounds ranges claims (take (i + 1) order) choice).
    let parts = MeetsBounds-parts ranges left claims order i claim choice next meets in told.emptied lost choice parts.0 parts.1 in
    record {
      before = i;
      found = slice_get-get_or order i 0 next.within;
      earlier = (lows, record { sound = next.leaves.sound; meets = (next.leaves.exact lows).0 (lows-IsChoice left next.leaves.places) });
      breaks = λ choice explains. ⊎_elim
          (λ own.
          let sound = All-last (λ event. IfSome (slice_get claims event) (λ c. c.fails ≡ None)) order i 0 next.within explains.sound in
          let is_none = holds_of_claim ranges left claims order i claim (λ c. c.fails ≡ None) next sound in
          cc)
          (λ lost. none lost.1 choice explains.meets)
          least.has;
      code = holds_of_event ranges left claims order i claim (λ c. HasLeastCode c (LeavesNoChoice ranges claims (take (i + 1) order)) reason) next
          (HasLeastCode-along claim (fits ≡ false) (LeavesNoChoice ranges claims (take (i + 1) order)) reason none (fits_from_choice ranges left new claims order i claim fits next told) least);
    }

-- once no event is left, the least places are the least choice
pub IsLeastChoice-at_end : (ranges left : List Range) (claims : List Claim) (order : List ℕ) (i : ℕ) → IsPermutation (range_with_len 0 (length claims)) order
    → length order ≤ i → LeavesExactly ranges left claims (take i order) → IsLeastChoice ranges claims (map (λ range. range.low) left)
IsLeastChoice-at_end ranges left claims order i same ended leaves =
    let lows = map (λ (range : Range). range.low) left in
    let all = rw (take_all i order ended) at leaves in
    record {
      explains = ExplainsAll-from_order ranges claims order lows same (record { sound = all.sound; meets = (all.exact lows).0 (lows-IsChoice left all.places) });
      least = λ other explains. lows-least left other ((all.exact other).1 (Explains-from_all ranges claims order other explains).meets);
    }

-- no choice explains all where the events break
pub none_from_breaks : (ranges : List Range) (claims : List Claim) (order : List ℕ) (event : ℕ) (reason : Reason) (choice : List ℕ) → BreaksFirst ranges claims order event reason
    → ExplainsAll ranges claims choice → ⊥
none_from_breaks ranges claims order event reason choice breaks explains =
    breaks.breaks choice (Explains-from_all ranges claims (take (breaks.before + 1) order) choice explains)
