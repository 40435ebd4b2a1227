use Rattle.std.proofs.Common.{option_map}
use Rattle.history_query.proofs.BlameFacts.{IsSinceAmong}
use Rattle.history_query.proofs.blaming.since_of.Given as goal

-- what the versions so far tell
abbrev pub invariant-loop-other : goal.invariant-loop-other
invariant-loop-other l = IsSinceAmong l.context.trees l.pointer l.version l.versions l.other-index (option_map (λ w. w.now) l.since)
