use Rattle.std.proofs.Common.{◌≡◌, take}
use Rattle.std.specs.Prelude.{map}
use Rattle.setup_file.proofs.snapshot.have_distinct_revisions.Given as goal

abbrev pub invariant-loop-object : goal.invariant-loop-object
invariant-loop-object l = (map (λ revision. revision.now) l.revisions.items ≡ map (λ object. object.revision) (take l.object-index l.objects))
