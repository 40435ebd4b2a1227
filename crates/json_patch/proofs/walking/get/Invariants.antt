use Rattle.std.proofs.Common.{◌≡◌, drop}
use Rattle.base_types.specs.Pointers.{pointed}
use Rattle.json_patch.proofs.walking.get.Given as goal

abbrev pub invariant-loop-token : goal.invariant-loop-token
invariant-loop-token l = pointed l.at l.draft ≡ pointed (drop l.token-index l.token-items) l.here
