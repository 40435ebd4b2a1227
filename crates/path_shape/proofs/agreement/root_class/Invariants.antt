use Rattle.std.proofs.Common.{◌≡◌, drop}
use Rattle.path_shape.specs.Beginning.{root_class}
use Rattle.path_shape.proofs.agreement.root_class.Given as goal

abbrev pub invariant-loop-entry : goal.invariant-loop-entry
invariant-loop-entry l = root_class l.unasked l.entries l.root ≡ root_class l.unasked (drop l.entry-index l.entries) l.root
