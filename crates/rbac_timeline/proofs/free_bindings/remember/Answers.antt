use Rattle.std.specs.Ordering.{nat_cmp}
use Rattle.std.proofs.lemmas.Map.Lookups.{exact_unsigned}
use Rattle.std.proofs.lemmas.Map.Views.{tells_apart}
use Rattle.rbac_timeline.proofs.Remembering.{remembered}
use Rattle.rbac_timeline.proofs.free_bindings.remember.Goals as goal

pub returns : goal.returns
returns c = remembered nat_cmp (tells_apart exact_unsigned) c.args.free_bindings.now c.insert-old.new.self c.args.cluster_roles c.args.answer c.insert-old.result c.insert-old.ensures.updates c.insert-old.ensures.err
