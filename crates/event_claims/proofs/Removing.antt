-- The removal of an event, and whether its conditions are met.
use Rattle.std.proofs.Common.{◌≡◌, ℕ, ◌≤◌, List, Option, Some, None, slice_get, refl, sym, ap, ◌∙◌, subst, arith}
use Rattle.std.specs.Prelude.{option_map}
use Rattle.std.proofs.lemmas.Option.{slice_get-map, same_Some}
use Rattle.base_types.specs.Reasons.{code_number}
use Rattle.base_types.specs.declared.verdict.claim.Reason.TheVariants.{U7}
use Rattle.history_model.specs.Events.{Event}
use Rattle.history_model.specs.Histories as model
use Rattle.history_model.specs.Histories.{History}
use Rattle.history_model.specs.Local.{IsFixedBy}
use Rattle.history_model.specs.Machine.{MeetsPreconditions}
use Rattle.history_model.specs.Words.{Removes}
use Rattle.local_bounds.specs.Known.{IsPastOf}
use Rattle.object_past.specs.declared.removal.Removal.{Removal}
use Rattle.object_past.specs.Modelled.{recorded}
use Rattle.object_past.specs.Past.{Recorded}
use Rattle.event_claims.specs.Standing.{HasWordCode}
use Rattle.event_claims.specs.Verdicts.{IsVerdict}

module _ (past : Recorded) (h : History) (p : IsPastOf past h) (position : ℕ) (removal : model.Removal) (at : slice_get h.removals position ≡ Some removal)
    (found : List Removal) (same : found ≡ past.removals) where
  looked : (o : Option Removal) → o ≡ slice_get found position → Some removal ≡ option_map recorded o
  looked o e = sym at ∙ ap (λ rs. slice_get rs position) p.recorded.removals ∙ slice_get-map recorded past.removals position
      ∙ ap (λ rs. option_map recorded (slice_get rs position)) (sym same) ∙ ap (option_map recorded) (sym e)

  pub is_there : None ≡ slice_get found position → ⊥
  is_there e = let q : Some removal ≡ None = looked None e in cc q

  pub is_recorded : (r : Removal) → Some r ≡ slice_get found position → removal ≡ recorded r
  is_recorded r e = same_Some removal (recorded r) (looked (Some r) e)

pub removal_right : (h : History) (event : Event) (removal : model.Removal) → MeetsPreconditions h event removal removal.last
    → IsVerdict (IsFixedBy h event (Removes removal)) (HasWordCode h event (Removes removal)) None
removal_right h event removal m = (m, λ code w. w.1 m)

pub removal_wrong : (h : History) (event : Event) (removal : model.Removal) → (MeetsPreconditions h event removal removal.last → ⊥)
    → IsVerdict (IsFixedBy h event (Removes removal)) (HasWordCode h event (Removes removal)) (Some U7)
removal_wrong h event removal n = ((refl, n), λ other w. subst (λ code. 7 ≤ code_number code) (sym w.0) (omega arith))
