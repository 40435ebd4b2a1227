use Rattle.std.proofs.lemmas.Bool.Decides.{same_from_decides}
use Rattle.base_types.specs.Same.{same, same-Decides}
use Rattle.base_types.proofs.json.equality.TreePartialEq.eq.Goals as goal

pub returns : goal.returns
returns c = same_from_decides c.equal.result (same c.args.self.now c.args.other.now) c.equal.ensures (same-Decides c.args.self.now c.args.other.now)
