use Rattle.std.proofs.Common.{◌≡◌, drop}
use Rattle.std.specs.Prelude.{map}
use Rattle.setup_file.specs.Distinct.{are_distinct, pair_eq}
use Rattle.setup_file.proofs.Seen.{are_new, seen_in}
use Rattle.setup_file.proofs.distinct.are_pairs_distinct.Given as goal

abbrev pub invariant-loop-pair : goal.invariant-loop-pair
invariant-loop-pair l = are_distinct pair_eq (map (λ pair. (pair.0.now, pair.1.now)) l.pairs) ≡ are_new pair_eq (seen_in pair_eq (λ pair. (pair.0.now, pair.1.now)) l.seen.keys) (map (λ pair. (pair.0.now, pair.1.now)) (drop l.pair-index l.pairs))
