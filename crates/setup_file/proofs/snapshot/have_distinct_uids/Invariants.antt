use Rattle.std.proofs.Common.{◌≡◌, take}
use Rattle.std.specs.Prelude.{map}
use Rattle.setup_file.proofs.snapshot.have_distinct_uids.Given as goal

abbrev pub invariant-loop-object : goal.invariant-loop-object
invariant-loop-object l = (map (λ uid. uid.now) l.uids.items ≡ map (λ object. object.uid) (take l.object-index l.objects))
