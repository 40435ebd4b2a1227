use Rattle.std.proofs.Common.{◌≡◌, take, map}
use Rattle.std.specs.Prelude.{slice_index}
use Rattle.page_chains.proofs.reaching.after.Given as goal

abbrev pub invariant-loop-to : goal.invariant-loop-to
invariant-loop-to l = l.reached.items ≡ map (λ to. slice_index l.second to) (take l.to-index l.first)
