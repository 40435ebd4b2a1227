use Rattle.std.proofs.Common.{◌≡◌, map, []}
use Rattle.std.specs.List.{filter_map}
use Rattle.request_attrs.specs.Queries.{term_name}
use Rattle.request_attrs.proofs.query.name_in.Given as goal

abbrev pub invariant-loop-term : goal.invariant-loop-term
invariant-loop-term l = filter_map term_name (map (λ x. x.now) l.yielded) ≡ []
