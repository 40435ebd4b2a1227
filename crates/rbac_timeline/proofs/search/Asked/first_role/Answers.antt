use Rattle.std.proofs.Common.{◌≡◌, ℕ, ◌⊎◌, None, arith, sym}
use Rattle.clouds.proofs.FirstPlaces.{IsFirstPlace-either}
use Rattle.clouds.specs.Clouds.{IsClouded}
use Rattle.rbac_timeline.specs.declared.history.Stored.{Stored}
use Rattle.rbac_timeline.specs.Extents.{MayGrantByRole}
use Rattle.rbac_timeline.specs.Known.{writes_of}
use Rattle.rbac_timeline.proofs.Beginning.{role_cover}
use Rattle.rbac_timeline.proofs.Pairing.{IsFirstPlace-more, IsFirstPlace-start, IsLeastPlace-low}
use Rattle.rbac_timeline.proofs.search.Asked.first_role.Goals as goal

pub returns-in-Some : goal.returns-in-Some
returns-in-Some c =
    let s = c.args.self.now in
    IsLeastPlace-low (λ (n : ℕ). MayGrantByRole s.timeline.now c.args.role.now n s.attrs.now) s.low s.high c.in-Some.place c.in-Some.ensures

pub loop-stored-init : goal.loop-stored-init
loop-stored-init c =
    let s = c.args.self.now in
    let P = λ (n : ℕ). MayGrantByRole s.timeline.now c.args.role.now n s.attrs.now in
    IsFirstPlace-start (λ (n : ℕ). ((n ≡ s.low) × P n) ⊎ IsClouded (writes_of s.timeline.now) c.args.role.now n) (λ (v : Stored) (n : ℕ). (n ≡ v.revision) × P n) s.low s.high c.versions_between-stored-items.result.now _
    (IsFirstPlace-either (λ (n : ℕ). (n ≡ s.low) × P n) (IsClouded (writes_of s.timeline.now) c.args.role.now) s.low s.high None c.first_clouded-first.result c.in_default.ensures c.first_clouded-first.ensures)

pub role_at-requires-in-loop-stored : goal.role_at-requires-in-loop-stored
role_at-requires-in-loop-stored c =
    let inside = c.versions_between-stored-items.ensures.within c.stored-item.result (c.loop-stored.stored-index, c.loop-stored-test.true, sym c.stored-item.is) in
    let above = inside.0 in
    record { from_low = omega arith; upto_high = inside.1 }

pub loop-stored-preserved : goal.loop-stored-preserved
loop-stored-preserved c =
    let s = c.args.self.now in
    let P = λ (n : ℕ). MayGrantByRole s.timeline.now c.args.role.now n s.attrs.now in
    rw c.lesser_place-first.ensures (IsFirstPlace-more (λ (n : ℕ). ((n ≡ s.low) × P n) ⊎ IsClouded (writes_of s.timeline.now) c.args.role.now n) (λ (v : Stored) (n : ℕ). (n ≡ v.revision) × P n) s.low s.high c.versions_between-stored-items.result.now _
    c.stored-item.result _ _ c.loop-stored-test.true c.stored-item.is c.loop-stored.invariant c.role_at-in-loop-stored.ensures)

pub returns : goal.returns
returns c =
    let s = c.args.self.now in
    let P = λ (n : ℕ). MayGrantByRole s.timeline.now c.args.role.now n s.attrs.now in
    role_cover s.timeline.now c.args.role.now s.attrs.now s.low s.high c.versions_between-stored-items.result.now c.loop-stored.stored-index c.loop-stored.first
    c.versions_between-stored-items.ensures c.loop-stored-test.false c.loop-stored.invariant
