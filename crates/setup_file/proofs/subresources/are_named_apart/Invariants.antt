use Rattle.std.proofs.Common.{◌≡◌, take}
use Rattle.std.specs.Prelude.{map}
use Rattle.setup_file.proofs.subresources.are_named_apart.Given as goal

abbrev pub invariant-loop-subresource : goal.invariant-loop-subresource
invariant-loop-subresource l = (map (λ name. name.now) l.names.items ≡ map (λ subresource. subresource.name) (take l.subresource-index l.subresources))
