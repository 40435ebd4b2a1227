use Rattle.std.proofs.Common.{take}
use Rattle.rbac_timeline.specs.Indexed.{IsIndexed, mentions_of}
use Rattle.rbac_timeline.proofs.index.Index.of.Given as goal

-- the versions so far are indexed
abbrev pub invariant-loop-version : goal.invariant-loop-version
invariant-loop-version l = IsIndexed l.index (mentions_of (take l.version-index l.versions))
