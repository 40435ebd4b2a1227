-- What it is to settle the claims of all events: the least choice that explains all, or the first event that breaks.
use Rattle.std.specs.Prelude.{◌≡◌, ℕ, ◌+◌, ◌≤◌, ◌⊎◌, List, Some, None, IfSome, All, slice_get, take}
use Rattle.std.specs.List.{AllZip}
use Rattle.base_types.specs.declared.verdict.claim.Claim.{Claim}
use Rattle.base_types.specs.declared.verdict.claim.Range.{Range}
use Rattle.base_types.specs.declared.verdict.claim.Reason.{Reason}
use Rattle.base_types.specs.Choices.{IsChoice, MeetsAll}
use Rattle.base_types.specs.Reasons.{code_number}

-- a choice that meets each bound of these events
pub record MeetsBounds (ranges : List Range) (claims : List Claim) (events choice : List ℕ) : Type 0 where
  pub chosen : IsChoice ranges choice
  pub met : All (λ event. IfSome (slice_get claims event) (λ claim. MeetsAll choice claim.bounds)) events

-- none of these events fails, and the choice meets each of their bounds
pub record Explains (ranges : List Range) (claims : List Claim) (events choice : List ℕ) : Type 0 where
  pub sound : All (λ event. IfSome (slice_get claims event) (λ claim. claim.fails ≡ None)) events
  pub meets : MeetsBounds ranges claims events choice

-- the same of all claims
pub record ExplainsAll (ranges : List Range) (claims : List Claim) (choice : List ℕ) : Type 0 where
  pub chosen : IsChoice ranges choice
  pub sound : All (λ claim. claim.fails ≡ None) claims
  pub met : All (λ claim. MeetsAll choice claim.bounds) claims

-- the choice that has the least place in each range, among those that explain all
pub record IsLeastChoice (ranges : List Range) (claims : List Claim) (choice : List ℕ) : Type 0 where
  pub explains : ExplainsAll ranges claims choice
  pub least : (other : List ℕ) → ExplainsAll ranges claims other → AllZip ◌≤◌ choice other

-- the bounds of these events leave some range without a place
abbrev pub LeavesNoChoice : List Range → List Claim → List ℕ → Type 0
LeavesNoChoice ranges claims events = (choice : List ℕ) → MeetsBounds ranges claims events choice → ⊥

-- a code that the claim stands for: its own, or that of its answer where no choice is left
abbrev pub HasCode : Claim → Type 0 → Reason → Type 0
HasCode claim no_choice code = (claim.fails ≡ Some code) ⊎ ((code ≡ claim.reason) × no_choice)

pub record HasLeastCode (claim : Claim) (no_choice : Type 0) (code : Reason) : Type 0 where
  pub has : HasCode claim no_choice code
  pub least : (other : Reason) → HasCode claim no_choice other → code_number code ≤ code_number other

-- the events of the order before this one are explained by some choice, and with it by none
pub record BreaksFirst (ranges : List Range) (claims : List Claim) (order : List ℕ) (event : ℕ) (reason : Reason) : Type 0 where
  pub before : ℕ
  pub found : slice_get order before ≡ Some event
  pub earlier : (choice : List ℕ) × Explains ranges claims (take before order) choice
  pub breaks : (choice : List ℕ) → Explains ranges claims (take (before + 1) order) choice → ⊥
  pub code : IfSome (slice_get claims event) (λ claim. HasLeastCode claim (LeavesNoChoice ranges claims (take (before + 1) order)) reason)
