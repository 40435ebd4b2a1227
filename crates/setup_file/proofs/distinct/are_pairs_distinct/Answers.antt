use Rattle.std.proofs.Common.{ℕ, ◌≡◌, Bor, List, false}
use Rattle.std.specs.Prelude.{map}
use Rattle.setup_file.specs.Distinct.{pair_eq}
use Rattle.setup_file.proofs.Seen.{seen_in, distinct_new, new_step, unseen, put_key}
use Rattle.setup_file.proofs.distinct.are_pairs_distinct.Goals as goal

pub loop-pair-init : goal.loop-pair-init
loop-pair-init c = rw c.with_hasher-seen.ensures.empty (distinct_new {K = (Bor (List ℕ) × Bor (List ℕ))} pair_eq (λ pair. (pair.0.now, pair.1.now)) (map (λ (pair : Bor (List ℕ) × Bor (List ℕ)). (pair.0.now, pair.1.now)) c.args.pairs.now))

pub loop-pair-preserved : goal.loop-pair-preserved
loop-pair-preserved c =
    let test = c.if-not-branch.false in
    let perm = put_key _ _ _ c.in_ok-insert.ensures.keys test in
    let fresh : seen_in {K = (Bor (List ℕ) × Bor (List ℕ))} pair_eq (λ pair. (pair.0.now, pair.1.now)) c.loop-pair.seen.keys (c.pair-item.result.0.now, c.pair-item.result.1.now) ≡ false = unseen _ _ c.in_ok-insert.ensures.added test in
    new_step {K = (Bor (List ℕ) × Bor (List ℕ))} pair_eq (λ pair. (pair.0.now, pair.1.now)) c.args.pairs.now c.loop-pair.pair-index c.pair-item.result c.loop-pair.seen.keys c.insert.new.self.keys _ c.loop-pair-test.true c.pair-item.is fresh perm c.loop-pair.invariant
