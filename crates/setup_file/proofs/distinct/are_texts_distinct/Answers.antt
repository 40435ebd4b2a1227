use Rattle.std.proofs.Common.{ℕ, ◌≡◌, Bor, List, false, bytes_eq}
use Rattle.std.specs.Prelude.{map}
use Rattle.setup_file.proofs.Seen.{seen_in, distinct_new, new_step, unseen, put_key}
use Rattle.setup_file.proofs.distinct.are_texts_distinct.Goals as goal

pub loop-text-init : goal.loop-text-init
loop-text-init c = rw c.with_hasher-seen.ensures.empty (distinct_new {K = (Bor (List ℕ))} bytes_eq (λ text. text.now) (map (λ (text : Bor (List ℕ)). text.now) c.args.texts.now))

pub loop-text-preserved : goal.loop-text-preserved
loop-text-preserved c =
    let test = c.if-not-branch.false in
    let perm = put_key _ _ _ c.in_ok-insert.ensures.keys test in
    let fresh : seen_in {K = (Bor (List ℕ))} bytes_eq (λ text. text.now) c.loop-text.seen.keys c.text-item.result.now ≡ false = unseen _ _ c.in_ok-insert.ensures.added test in
    new_step {K = (Bor (List ℕ))} bytes_eq (λ text. text.now) c.args.texts.now c.loop-text.text-index c.text-item.result c.loop-text.seen.keys c.insert.new.self.keys _ c.loop-text-test.true c.text-item.is fresh perm c.loop-text.invariant
