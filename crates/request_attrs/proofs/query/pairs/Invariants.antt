use Rattle.std.proofs.Common.{◌≡◌, ◌++◌, map}
use Rattle.form_urlencoded.specs.Parse.{pairs_left}
use Rattle.request_attrs.specs.Queries.{pair_of, pairs_of}
use Rattle.request_attrs.proofs.query.pairs.Given as goal

abbrev pub invariant-loop-pair : goal.invariant-loop-pair
invariant-loop-pair l = pairs_of l.query ≡ l.all ++ map pair_of (pairs_left l.pair-iterator)
