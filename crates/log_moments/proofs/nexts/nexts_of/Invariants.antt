use Rattle.log_moments.proofs.Following.{AreNextsFrom}
use Rattle.log_moments.proofs.nexts.nexts_of.Given as goal

-- the next versions of those from this position on
abbrev pub invariant-loop-i : goal.invariant-loop-i
invariant-loop-i l = AreNextsFrom l.versions l.i l.firsts l.nexts.items
