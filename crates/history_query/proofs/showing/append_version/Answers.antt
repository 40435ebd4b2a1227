use Rattle.std.proofs.Common.{All, subst, sym}
use Rattle.base_types.specs.Values.{InRange}
use Rattle.history_query.proofs.showing.append_version.Goals as goal

pub append_json-requires-clause-numbers : goal.append_json-requires-clause-numbers
append_json-requires-clause-numbers c = subst (All InRange) (sym c.pool.ensures.trees) c.pool.ensures.numbers
