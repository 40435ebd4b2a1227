use Rattle.std.proofs.Common.{ap, sym, subst, ◌∙◌}
use Rattle.packed_tree.specs.Encoding.{encode}
use Rattle.packed_tree.specs.Sound.{IsSound}
use Rattle.packed_tree.proofs.reading.PackedRef.as_bytes.Goals as goal

pub returns-clause-value : goal.returns-clause-value
returns-clause-value c = sym c.self.invariant.canonical ∙ ap encode c.self.view_is

pub returns-clause-sound : goal.returns-clause-sound
returns-clause-sound c = subst IsSound c.self.view_is c.self.invariant.sound
