use Rattle.std.proofs.Common.{◌≡◌, ◌++◌, map, take, string_bytes}
use Rattle.std.specs.List.{flat_map}
use Rattle.log_context.specs.Histories.{history_of}
use Rattle.finding_picture.specs.Hiding.{hidden_row}
use Rattle.finding_picture.proofs.hiding.push_hidden_rows.Given as goal

abbrev pub invariant-loop-event : goal.invariant-loop-event
invariant-loop-event l = string_bytes l.text ≡ string_bytes l.initial.text ++ flat_map (hidden_row (history_of l.context)) (map (λ one. one.now) (take l.event-index l.writes))
