use Rattle.std.proofs.Common.{◌≡◌, drop}
use Rattle.std.specs.List.{list_all}
use Rattle.setup_file.specs.Authorization.{is_readable}
use Rattle.setup_file.proofs.authorization.are_readable.Given as goal

abbrev pub invariant-loop-object : goal.invariant-loop-object
invariant-loop-object l = list_all is_readable l.objects ≡ list_all is_readable (drop l.object-index l.objects)
