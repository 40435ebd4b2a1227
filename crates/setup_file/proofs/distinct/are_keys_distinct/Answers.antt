use Rattle.std.proofs.Common.{◌≡◌, Bor, false}
use Rattle.std.specs.Prelude.{map}
use Rattle.base_types.specs.declared.kubernetes.key.ObjectKey.{ObjectKey}
use Rattle.setup_file.specs.Distinct.{key_eq}
use Rattle.setup_file.proofs.Seen.{seen_in, distinct_new, new_step, unseen, put_key}
use Rattle.setup_file.proofs.distinct.are_keys_distinct.Goals as goal

pub loop-key-init : goal.loop-key-init
loop-key-init c = rw c.with_hasher-seen.ensures.empty (distinct_new {K = (Bor ObjectKey)} key_eq (λ key. key.now) (map (λ (key : Bor ObjectKey). key.now) c.args.keys.now))

pub loop-key-preserved : goal.loop-key-preserved
loop-key-preserved c =
    let test = c.if-not-branch.false in
    let perm = put_key _ _ _ c.in_ok-insert.ensures.keys test in
    let fresh : seen_in {K = (Bor ObjectKey)} key_eq (λ key. key.now) c.loop-key.seen.keys c.key-item.result.now ≡ false = unseen _ _ c.in_ok-insert.ensures.added test in
    new_step {K = (Bor ObjectKey)} key_eq (λ key. key.now) c.args.keys.now c.loop-key.key-index c.key-item.result c.loop-key.seen.keys c.insert.new.self.keys _ c.loop-key-test.true c.key-item.is fresh perm c.loop-key.invariant
