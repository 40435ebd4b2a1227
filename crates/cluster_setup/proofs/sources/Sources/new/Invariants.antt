use Rattle.std.proofs.Common.{drop}
use Rattle.cluster_setup.specs.Indexed.{AreSources}
use Rattle.cluster_setup.proofs.sources.Sources.new.Given as goal

-- what the files from this one on tell is there
abbrev pub invariant-loop-at : goal.invariant-loop-at
invariant-loop-at l = AreSources l.entries (drop l.at l.documents)
