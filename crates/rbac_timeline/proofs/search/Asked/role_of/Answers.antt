use Rattle.std.proofs.Common.{ℕ}
use Rattle.std.proofs.lemmas.Bool.{both_ways}
use Rattle.clouds.proofs.FirstPlaces.{IsFirstPlace-same}
use Rattle.rbac_timeline.specs.Extents.{MayGrantByRole}
use Rattle.rbac_timeline.proofs.Pairing.{IsFirstPlace-low}
use Rattle.rbac_timeline.proofs.search.Asked.role_of.Goals as goal

pub returns-in-Rules-clause-found : goal.returns-in-Rules-clause-found
returns-in-Rules-clause-found c = let s = c.args.self.now in rw c.in-Rules.is (IsFirstPlace-low (λ (r : ℕ). Unit {0}) s.low s.high c.requires.range tt)

pub returns-in-Unreadable-clause-found : goal.returns-in-Unreadable-clause-found
returns-in-Unreadable-clause-found c = let s = c.args.self.now in rw c.in-Unreadable.is (IsFirstPlace-low (λ (r : ℕ). Unit {0}) s.low s.high c.requires.range tt)

pub returns-then-not-is_kind-clause-found : goal.returns-then-not-is_kind-clause-found
returns-then-not-is_kind-clause-found c = λ r from upto may.
    let parts = rw c.in-Bound.is at may in
    both_ways _ c.if-not-is_kind.true (c.is_kind.ensures.1 (rw (c.kind_of_key.ensures, c.roles.ensures) parts.0))

pub returns-then-not-names-clause-found : goal.returns-then-not-names-clause-found
returns-then-not-names-clause-found c = λ r from upto may.
    let parts = rw c.in-Bound.is at may in
    both_ways _ c.if-not-names.true (c.names.ensures.1 parts.1)

pub returns-else-not-names-clause-found : goal.returns-else-not-names-clause-found
returns-else-not-names-clause-found c =
    let s = c.args.self.now in
    let kind = rw (c.kind_of_key.ensures, c.roles.ensures) at c.is_kind.ensures.0 c.if-not-is_kind.false in
    let named = c.names.ensures.0 c.if-not-names.false in
    rw c.in-Bound.is (IsFirstPlace-same (λ (r : ℕ). MayGrantByRole s.timeline.now c.in-Bound.role r s.attrs.now) _ s.low s.high c.first_role_once.result (λ r may. (kind, named, may)) (λ r may. may.2) c.first_role_once.ensures.found)
