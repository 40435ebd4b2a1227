-- What is told of decisions.
use Rattle.std.proofs.Common.{◌≡◌, ◌↔◌, ℕ, List, true, false, codes, sym, subst}
use Rattle.base_types.specs.declared.verdict.placed.Places.{Places}
use Rattle.base_types.specs.declared.kubernetes.request.Decision.TheVariants.{Allow, Forbid}
use Rattle.base_types.specs.declared.kubernetes.request.Possible.{Possible}
use Rattle.base_types.specs.declared.kubernetes.request.RequestAttrs.{RequestAttrs}
use Rattle.base_types.specs.declared.kubernetes.request.User.{User}
use Rattle.rbac_timeline.specs.Decisions.{IsPossible}
use Rattle.rbac_timeline.specs.Known as rbac
use Rattle.verdict_text.specs.Words.{ended}
use Rattle.log_context.specs.Known.{Known}
use Rattle.history_query.specs.Deciding.{IsCanText, IsCanTextBy, IsDecision, equal_places, possible_word}
use Rattle.history_query.specs.Telling.{IsBelowStart, IsToldText}

pub unjudged_told : (known : Known) (place : ℕ) (who : User) (attrs : RequestAttrs) (text : List ℕ) → known.setup.authorize ≡ false → text ≡ ended (codes "unjudged")
    → IsCanText known place who attrs text
unjudged_told known place who attrs text not is = subst (λ b. IsCanTextBy b known place who attrs text) (sym not) is

pub judged_told : (known : Known) (place : ℕ) (who : User) (attrs : RequestAttrs) (text : List ℕ) → known.setup.authorize ≡ true
    → IsToldText (IsBelowStart known place) (IsDecision known place who attrs) text → IsCanText known place who attrs text
judged_told known place who attrs text judged is = subst (λ b. IsCanTextBy b known place who attrs text) (sym judged) is

pub decision_told : (known : Known) (place : ℕ) (who : User) (attrs : RequestAttrs) (possible : Possible) (timeline : rbac.Known) (places : Places) (text : List ℕ)
    → timeline ≡ known.rbac → places ≡ equal_places place → (possible.allow ≡ true) ↔ IsPossible timeline places who attrs Allow
    → (possible.forbid ≡ true) ↔ IsPossible timeline places who attrs Forbid → text ≡ ended (possible_word possible.allow possible.forbid) → IsDecision known place who attrs text
decision_told known place who attrs possible timeline places text same equal allow forbid is = record {
  allow = possible.allow;
  forbid = possible.forbid;
  allowed = subst (λ t. (possible.allow ≡ true) ↔ IsPossible t (equal_places place) who attrs Allow) same
      (subst (λ p. (possible.allow ≡ true) ↔ IsPossible timeline p who attrs Allow) equal allow);
  forbidden = subst (λ t. (possible.forbid ≡ true) ↔ IsPossible t (equal_places place) who attrs Forbid) same
      (subst (λ p. (possible.forbid ≡ true) ↔ IsPossible timeline p who attrs Forbid) equal forbid);
  word = is;
}
