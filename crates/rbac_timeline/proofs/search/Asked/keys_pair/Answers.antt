use Rattle.std.proofs.Common.{ℕ, ◌+◌, sym, ◌∙◌}
use Rattle.base_types.specs.declared.kubernetes.key.ObjectKey.{ObjectKey}
use Rattle.rbac_timeline.specs.Kept.{MayGrantByListed}
use Rattle.rbac_timeline.proofs.Pairing.{IsFirstPair-all, IsFirstPair-enough, IsFirstPair-more, IsFirstPair-nothing}
use Rattle.rbac_timeline.proofs.search.Asked.keys_pair.Goals as goal

pub loop-key-init : goal.loop-key-init
loop-key-init c =
    let s = c.args.self.now in
    (IsFirstPair-nothing (λ (key : ObjectKey) (r b : ℕ). MayGrantByListed s.timeline.now c.args.way r b s.who.now s.attrs.now key) s.low s.high c.args.keys.now, c.requires.firsts)

pub returns-then-is_lowest : goal.returns-then-is_lowest
returns-then-is_lowest c =
    let s = c.args.self.now in
    let F = λ (key : ObjectKey) (r b : ℕ). MayGrantByListed s.timeline.now c.args.way r b s.who.now s.attrs.now key in
    IsFirstPair-enough F s.low s.high c.args.keys.now (c.loop-key.key-index + 1) c.earlier_pair-best.result (sym c.is_lowest.ensures ∙ c.if-is_lowest.true)
    (rw c.earlier_pair-best.ensures (IsFirstPair-more F s.low s.high c.args.keys.now _ c.key-item.result _ _ c.loop-key-test.true c.key-item.is c.loop-key.invariant.0 c.key_pair.ensures.found))

pub loop-key-preserved : goal.loop-key-preserved
loop-key-preserved c =
    let s = c.args.self.now in (
      rw c.earlier_pair-best.ensures (IsFirstPair-more (λ (key : ObjectKey) (r b : ℕ). MayGrantByListed s.timeline.now c.args.way r b s.who.now s.attrs.now key) s.low s.high c.args.keys.now _ c.key-item.result _ _
          c.loop-key-test.true c.key-item.is c.loop-key.invariant.0 c.key_pair.ensures.found),
      c.key_pair.ensures.firsts,
    )

pub returns : goal.returns
returns c =
    let s = c.args.self.now in
    IsFirstPair-all (λ (key : ObjectKey) (r b : ℕ). MayGrantByListed s.timeline.now c.args.way r b s.who.now s.attrs.now key) s.low s.high c.args.keys.now _ _ c.loop-key-test.false c.loop-key.invariant.0
