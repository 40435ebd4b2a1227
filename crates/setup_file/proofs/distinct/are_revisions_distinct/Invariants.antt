use Rattle.std.proofs.Common.{◌≡◌, ◌==◌, drop}
use Rattle.std.specs.Prelude.{map}
use Rattle.setup_file.specs.Distinct.{are_distinct}
use Rattle.setup_file.proofs.Seen.{are_new, seen_in}
use Rattle.setup_file.proofs.distinct.are_revisions_distinct.Given as goal

abbrev pub invariant-loop-revision : goal.invariant-loop-revision
invariant-loop-revision l = are_distinct (λ a b. a == b) (map (λ revision. revision.now) l.revisions) ≡ are_new (λ a b. a == b) (seen_in (λ a b. a == b) (λ revision. revision.now) l.seen.keys) (map (λ revision. revision.now) (drop l.revision-index l.revisions))
