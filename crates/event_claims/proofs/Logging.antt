-- Events by their numbers.
use Rattle.std.proofs.Common.{ℕ, ◌<◌, List, length, get_or, slice_get, ap, ◌∙◌}
use Rattle.std.specs.Prelude.{option_map}
use Rattle.std.proofs.lemmas.Option.{slice_get-map, slice_get-get_or}
use Rattle.history_model.specs.Histories.{History, IsEvent}
use Rattle.write_groups.specs.Modelled.{HasEvents, event_of}
use Rattle.write_groups.specs.declared.event.LogEvent.{LogEvent}

pub logged : (h : History) (log : List LogEvent) (number : ℕ) (event : LogEvent) → HasEvents log h → number < length log → IsEvent h number (event_of (get_or log number event))
logged h log number event has l = ap (λ es. slice_get es number) has ∙ slice_get-map event_of log number ∙ ap (λ o. option_map event_of o) (slice_get-get_or log number event l)
