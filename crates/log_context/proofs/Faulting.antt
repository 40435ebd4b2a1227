-- What is told of an event by its number.
use Rattle.std.proofs.Common.{◌≡◌, ℕ, ◌<◌, ◌≤◌, List, Option, Some, length, get_or, sym, ap, ◌∙◌, arith}
use Rattle.std.proofs.lemmas.Option.{slice_get-get_or, slice_get_within}
use Rattle.base_types.specs.declared.verdict.claim.Reason.{Reason}
use Rattle.history_model.specs.Events.{Event}
use Rattle.history_model.specs.Histories.{History, IsEvent}
use Rattle.object_past.specs.Faulted.{IsFaultOf, AreFaults}

pub fault_is : (h : History) (faults : List (Option Reason)) (number : ℕ) (event : Event) (fault : Option Reason) → AreFaults h faults → IsEvent h number event
    → number < length faults → fault ≡ get_or faults number fault → IsFaultOf h number event fault
fault_is h faults number event fault are known l e = are.each number event fault known (slice_get-get_or faults number fault l ∙ ap Some (sym e))

pub fault_there : (h : History) (faults : List (Option Reason)) (number : ℕ) (event : Event) → AreFaults h faults → IsEvent h number event → length faults ≤ number → ⊥
fault_there h faults number event are known l = omega (arith, l, slice_get_within h.events number event known, are.all)
