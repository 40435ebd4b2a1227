use Rattle.std.proofs.Common.{rules}
use Rattle.past_building.proofs.Keeping.{latest_found}
use Rattle.past_building.proofs.grown.Grown.latest.Goals as goal

pub returns-clause-latest : goal.returns-clause-latest
returns-clause-latest c = rw (← c.self.view_is) (latest_found c.self.inside.versions c.self.inside.index.firsts.items c.self.inside.index.earlier.items c.self.inside.index.last c.self.inside.index.owners c.self.inside.index.uids c.args.key.now c.in_ok-position.field-0.now c.in_ok-version.version.now c.in_ok-is_first.is_first c.self.invariant
    (search rules) (search rules) (search rules))
