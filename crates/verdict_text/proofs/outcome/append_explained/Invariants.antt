use Rattle.std.proofs.Common.{◌≡◌, ◌++◌, All, take, string_bytes}
use Rattle.std.specs.List.{flat_map}
use Rattle.verdict_text.specs.Words.{ended}
use Rattle.verdict_text.specs.Placed.{FitsPlaced, placed_text}
use Rattle.verdict_text.proofs.outcome.append_explained.Given as goal

abbrev pub invariant-loop-placed : goal.invariant-loop-placed
invariant-loop-placed l = (string_bytes l.text ≡ string_bytes l.initial.text ++ flat_map (λ placed. ended (placed_text placed)) (take l.placed-index l.lines))
    × All FitsPlaced (take l.placed-index l.lines)
