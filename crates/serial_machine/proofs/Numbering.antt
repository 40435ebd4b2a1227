-- The events of a context by their numbers.
use Rattle.std.proofs.Common.{◌≡◌, ℕ, ◌<◌, List, Some, length, get_or, slice_get, ap, ◌∙◌, arith}
use Rattle.std.specs.Prelude.{option_map}
use Rattle.std.proofs.lemmas.Option.{slice_get-get_or, slice_get-map, slice_get_within}
use Rattle.std.proofs.lemmas.List.{length-map}
use Rattle.history_model.proofs.OutcomeLaw.{get_within}
use Rattle.history_model.specs.Events.{Event}
use Rattle.history_model.specs.Histories.{History, IsEvent}
use Rattle.write_groups.specs.Modelled.{HasEvents, event_of}
use Rattle.write_groups.specs.declared.event.LogEvent.{LogEvent}

module _ (h : History) (log : List LogEvent) (has : HasEvents log h) where
  -- the event at a number below their count
  pub numbered : (number : ℕ) (item : LogEvent) → number < length log → IsEvent h number (event_of (get_or log number item))
  numbered number item l = ap (λ es. slice_get es number) has ∙ slice_get-map event_of log number ∙ ap (option_map event_of) (slice_get-get_or log number item l)

  pub some_event : (number : ℕ) → number < length log → (event : Event) × IsEvent h number event
  some_event number l = (event_of item.0, ap (λ es. slice_get es number) has ∙ slice_get-map event_of log number ∙ ap (option_map event_of) item.1)
    where
      item : (x : LogEvent) × (slice_get log number ≡ Some x)
      item = get_within log number l

  pub is_within : (number : ℕ) (event : Event) → IsEvent h number event → number < length log
  is_within number event known = omega (arith, slice_get_within h.events number event known, ap length has, length-map log event_of)
