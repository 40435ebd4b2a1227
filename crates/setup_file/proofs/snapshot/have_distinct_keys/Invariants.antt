use Rattle.std.proofs.Common.{◌≡◌, take}
use Rattle.std.specs.Prelude.{map}
use Rattle.setup_file.proofs.snapshot.have_distinct_keys.Given as goal

abbrev pub invariant-loop-object : goal.invariant-loop-object
invariant-loop-object l = (map (λ key. key.now) l.keys.items ≡ map (λ object. object.key) (take l.object-index l.objects))
