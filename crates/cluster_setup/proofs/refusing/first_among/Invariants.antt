use Rattle.std.proofs.Common.{drop}
use Rattle.cluster_setup.specs.Indexed.{AreListed, IsFirstWrong}
use Rattle.cluster_setup.proofs.refusing.first_among.Given as goal

-- the lists behind are known, and so is the first of the files behind with which something is wrong
abbrev pub invariant-loop-at : goal.invariant-loop-at
invariant-loop-at l = AreListed l.behind (drop l.at l.trees) × IsFirstWrong l.trees l.at l.first
