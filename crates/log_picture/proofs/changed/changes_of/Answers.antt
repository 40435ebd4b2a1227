use Rattle.std.proofs.Common.{subst}
use Rattle.std.specs.List.Sorted.{IsPermutation}
use Rattle.log_picture.proofs.Ranking.{changes_are}
use Rattle.log_picture.proofs.changed.changes_of.Goals as goal

pub returns : goal.returns
returns c =
    changes_are c.args.versions.now c.in_ok-tallies.tallies c.in_ok-tallies.ensures c.in_ok-changes.ensures.ordered c.sort_unstable.new.self.items
    (subst (λ l. IsPermutation l c.sort_unstable.new.self.items) c.in_ok-changes.ensures.all c.sort_unstable.ensures.permutation) c.sort_unstable.ensures.sorted
