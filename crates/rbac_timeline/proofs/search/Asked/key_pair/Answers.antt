use Rattle.std.proofs.Common.{◌≡◌, ℕ, ◌⊎◌, arith, sym, ◌∙◌}
use Rattle.clouds.specs.Clouds.{IsClouded}
use Rattle.rbac_timeline.specs.declared.history.Stored.{Stored}
use Rattle.rbac_timeline.specs.Kept.{MayGrantByListed}
use Rattle.rbac_timeline.specs.Known.{writes_of}
use Rattle.rbac_timeline.proofs.Beginning.{key_cover}
use Rattle.rbac_timeline.proofs.Pairing.{IsFirstPair-either, IsFirstPair-later, IsFirstPair-start, IsFirstPair-stop}
use Rattle.rbac_timeline.proofs.search.Asked.key_pair.Goals as goal

pub returns-then-is_lowest-clause-found : goal.returns-then-is_lowest-clause-found
returns-then-is_lowest-clause-found c =
    let s = c.args.self.now in
    let P = λ (r b : ℕ). MayGrantByListed s.timeline.now c.args.way r b s.who.now s.attrs.now c.args.key.now in
    IsFirstPair-stop (λ (r b : ℕ). (b ≡ s.low) × P r b) P s.low s.high c.pair_at-here.result (sym c.is_lowest.ensures ∙ c.if-is_lowest.true) (λ r b at. at.1) c.pair_at-here.ensures.found

pub loop-stored-init : goal.loop-stored-init
loop-stored-init c =
    let s = c.args.self.now in
    let P = λ (r b : ℕ). MayGrantByListed s.timeline.now c.args.way r b s.who.now s.attrs.now c.args.key.now in (
      rw c.earlier_pair-best.ensures (IsFirstPair-start (λ (r b : ℕ). ((b ≡ s.low) × P r b) ⊎ (IsClouded (writes_of s.timeline.now) c.args.key.now b × P r b)) (λ (v : Stored) (r b : ℕ). (b ≡ v.revision) × P r b) s.low s.high c.versions_between-stored-items.result.now _
          (IsFirstPair-either (λ (r b : ℕ). (b ≡ s.low) × P r b) (λ (r b : ℕ). IsClouded (writes_of s.timeline.now) c.args.key.now b × P r b) s.low s.high _ _ c.pair_at-here.ensures.found c.clouded_pair.ensures.found)),
      c.clouded_pair.ensures.firsts,
    )

pub pair_at-requires : goal.pair_at-requires
pair_at-requires c =
    let inside = c.versions_between-stored-items.ensures.within c.stored-item.result (c.loop-stored.stored-index, c.loop-stored-test.true, sym c.stored-item.is) in
    let above = inside.0 in
    record { from_low = omega arith; upto_high = inside.1; firsts = c.loop-stored.invariant.1 }

pub loop-stored-preserved : goal.loop-stored-preserved
loop-stored-preserved c =
    let s = c.args.self.now in
    let P = λ (r b : ℕ). MayGrantByListed s.timeline.now c.args.way r b s.who.now s.attrs.now c.args.key.now in (
      rw c.earlier_pair-best-in-loop-stored.ensures (IsFirstPair-later (λ (r b : ℕ). ((b ≡ s.low) × P r b) ⊎ (IsClouded (writes_of s.timeline.now) c.args.key.now b × P r b)) (λ (v : Stored) (r b : ℕ). (b ≡ v.revision) × P r b) s.low s.high c.versions_between-stored-items.result.now _
          c.stored-item.result _ _ c.loop-stored-test.true c.stored-item.is c.loop-stored.invariant.0 c.pair_at.ensures.found),
      c.pair_at.ensures.firsts,
    )

pub returns-clause-found : goal.returns-clause-found
returns-clause-found c =
    let s = c.args.self.now in
    key_cover s.timeline.now c.args.way s.who.now s.attrs.now c.args.key.now s.low s.high c.versions_between-stored-items.result.now c.loop-stored.stored-index c.loop-stored.best
    c.versions_between-stored-items.ensures c.loop-stored-test.false c.loop-stored.invariant.0
