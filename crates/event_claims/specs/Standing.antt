-- The codes that an event has under every choice, by what gives them.
use Rattle.std.specs.Prelude.{◌≡◌, ℕ, ◌⊎◌, true, false, Option, Some}
use Rattle.base_types.specs.declared.verdict.claim.Reason.{Reason}
use Rattle.base_types.specs.declared.verdict.claim.Reason.TheVariants.{U1, U2, U3, U7, U14}
use Rattle.base_types.specs.declared.verdict.placed.Places.{Places}
use Rattle.base_types.specs.declared.kubernetes.request.Decision.{Decision}
use Rattle.history_model.specs.Clouds.{IsCloudedWithin}
use Rattle.history_model.specs.Codes.{NeverHolds}
use Rattle.history_model.specs.Decisions.{IsDecidedAt}
use Rattle.history_model.specs.Events.{Event, Answer, Made, Removed, Opaque, Saw, SawNone, SawSome, SawOther, Listed, Free, Aside}
use Rattle.history_model.specs.Histories.{History, Version}
use Rattle.history_model.specs.Machine.{MeetsPreconditions}
use Rattle.history_model.specs.Making.{HasFault, HasFoundFault, IsEntryBefore}
use Rattle.history_model.specs.Right.{answer_code}
use Rattle.history_model.specs.Windows.{low_end, high_end}
use Rattle.history_model.specs.Words.{Word, Makes, Removes, At, Strays, Nothing, word}

-- the policy gives the event's level, and doesn't omit its stage
abbrev pub IsOfPolicy : Event → Type 0
IsOfPolicy event = (event.other_level ≡ false) × (event.omitted_stage ≡ false)

abbrev pub HasPolicyCode : Event → Reason → Type 0
HasPolicyCode event code = ((code ≡ U1) × (event.other_level ≡ true)) ⊎ ((code ≡ U2) × (event.omitted_stage ≡ true))

-- the code of a write that can't have been made or that strays, and of a removal whose conditions aren't met
abbrev pub HasWordCode : History → Event → Word → Reason → Type 0
HasWordCode h event (Makes m) code = (before : Option Version) × IsEntryBefore h m before × HasFault h m before code
HasWordCode h event (Removes removal) code = (code ≡ U7) × (MeetsPreconditions h event removal removal.last → ⊥)
HasWordCode h event At code = ⊥
HasWordCode h event Strays code = code ≡ U3
HasWordCode h event Nothing code = ⊥

-- the code of a write that could not have found its revision, which a cloud in the window hides
abbrev pub HasFindingCode : History → ℕ → Event → Answer → Reason → Type 0
HasFindingCode h number event (Made item created) code = (IsCloudedWithin h item.key (low_end h event) (high_end h event) → ⊥)
    × HasFoundFault h (record { number = number; event = event; item = item; created = created }) code
HasFindingCode h number event (Removed key uid) code = ⊥
HasFindingCode h number event (Opaque cover) code = ⊥
HasFindingCode h number event (Saw item) code = ⊥
HasFindingCode h number event (SawNone key) code = ⊥
HasFindingCode h number event (SawSome key) code = ⊥
HasFindingCode h number event (SawOther key) code = ⊥
HasFindingCode h number event (Listed listing) code = ⊥
HasFindingCode h number event Free code = ⊥
HasFindingCode h number event Aside code = ⊥

abbrev pub HasFoundCode : History → ℕ → Event → Reason → Type 0
HasFoundCode h number event code = (word h number event ≡ At) × HasFindingCode h number event event.answer code

abbrev pub HasAnswerCode : History → ℕ → Event → Reason → Type 0
HasAnswerCode h number event code = (code ≡ answer_code event.answer) × (word h number event ≡ At) × NeverHolds h number event

-- caches at some places could have given the event's decision
abbrev pub IsDecidable : History → ℕ → Event → Type 0
IsDecidable h number event = (decided : Decision) → event.decision ≡ Some decided → (places : Places) × IsDecidedAt h number event places

abbrev pub HasDecisionCode : History → ℕ → Event → Reason → Type 0
HasDecisionCode h number event code = (decided : Decision) × (code ≡ U14) × (event.decision ≡ Some decided) × ((places : Places) → IsDecidedAt h number event places → ⊥)
