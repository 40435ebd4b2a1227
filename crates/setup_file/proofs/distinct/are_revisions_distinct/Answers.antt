use Rattle.std.proofs.Common.{ℕ, ◌≡◌, ◌==◌, Bor, false}
use Rattle.std.specs.Prelude.{map}
use Rattle.setup_file.proofs.Seen.{seen_in, distinct_new, new_step, unseen, put_key}
use Rattle.setup_file.proofs.distinct.are_revisions_distinct.Goals as goal

pub loop-revision-init : goal.loop-revision-init
loop-revision-init c = rw c.with_hasher-seen.ensures.empty (distinct_new {K = (Bor ℕ)} (λ a b. a == b) (λ revision. revision.now) (map (λ (revision : Bor ℕ). revision.now) c.args.revisions.now))

pub loop-revision-preserved : goal.loop-revision-preserved
loop-revision-preserved c =
    let test = c.if-not-branch.false in
    let perm = put_key _ _ _ c.in_ok-insert.ensures.keys test in
    let fresh : seen_in {K = (Bor ℕ)} (λ a b. a == b) (λ revision. revision.now) c.loop-revision.seen.keys c.revision-item.result.now ≡ false = unseen _ _ c.in_ok-insert.ensures.added test in
    new_step {K = (Bor ℕ)} (λ a b. a == b) (λ revision. revision.now) c.args.revisions.now c.loop-revision.revision-index c.revision-item.result c.loop-revision.seen.keys c.insert.new.self.keys _ c.loop-revision-test.true c.revision-item.is fresh perm c.loop-revision.invariant
