use Rattle.std.proofs.Common.{refl}
use Rattle.std.proofs.lemmas.Bool.{both_ways, false≢true}
use Rattle.rbac_timeline.proofs.timeline.Timeline.content_extent.Goals as goal

pub returns-in-Rules-clause-may : goal.returns-in-Rules-clause-may
returns-in-Rules-clause-may c = ((λ passed. rw c.in-Rules.is tt), (λ may. refl))

pub returns-in-Rules-clause-must : goal.returns-in-Rules-clause-must
returns-in-Rules-clause-must c = ((λ passed. absurd (false≢true passed)), (λ must. absurd (rw c.in-Rules.is at must)))

pub returns-in-Unreadable-clause-may : goal.returns-in-Unreadable-clause-may
returns-in-Unreadable-clause-may c = ((λ passed. rw c.in-Unreadable.is tt), (λ may. refl))

pub returns-in-Unreadable-clause-must : goal.returns-in-Unreadable-clause-must
returns-in-Unreadable-clause-must c = ((λ passed. absurd (false≢true passed)), (λ must. absurd (rw c.in-Unreadable.is at must)))

pub returns-then-not-is_kind-clause-may : goal.returns-then-not-is_kind-clause-may
returns-then-not-is_kind-clause-may c = (
  (λ passed. absurd (false≢true passed)),
  (λ may.
      let parts = rw c.in-Bound.is at may in
      absurd (both_ways _ c.if-not-is_kind.true (c.is_kind.ensures.1 (rw (c.kind_of_key.ensures, c.roles.ensures) parts.0)))),
)

pub returns-then-not-names-clause-may : goal.returns-then-not-names-clause-may
returns-then-not-names-clause-may c = (
  (λ passed. absurd (false≢true passed)),
  (λ may.
      let parts = rw c.in-Bound.is at may in
      absurd (both_ways _ c.if-not-names.true (c.names.ensures.1 parts.1))),
)

pub returns-else-not-names-clause-may : goal.returns-else-not-names-clause-may
returns-else-not-names-clause-may c =
    let kind = rw (c.kind_of_key.ensures, c.roles.ensures) at c.is_kind.ensures.0 c.if-not-is_kind.false in
    let named = c.names.ensures.0 c.if-not-names.false in
    rw c.in-Bound.is ((λ passed. (kind, named, c.role_extent.ensures.may.0 passed)), (λ may. c.role_extent.ensures.may.1 may.2))

pub returns-then-not-is_kind-clause-must : goal.returns-then-not-is_kind-clause-must
returns-then-not-is_kind-clause-must c = (
  (λ passed. absurd (false≢true passed)),
  (λ must.
      let parts = rw c.in-Bound.is at must in
      absurd (both_ways _ c.if-not-is_kind.true (c.is_kind.ensures.1 (rw (c.kind_of_key.ensures, c.roles.ensures) parts.0)))),
)

pub returns-then-not-names-clause-must : goal.returns-then-not-names-clause-must
returns-then-not-names-clause-must c = (
  (λ passed. absurd (false≢true passed)),
  (λ must.
      let parts = rw c.in-Bound.is at must in
      absurd (both_ways _ c.if-not-names.true (c.names.ensures.1 parts.1))),
)

pub returns-else-not-names-clause-must : goal.returns-else-not-names-clause-must
returns-else-not-names-clause-must c =
    let kind = rw (c.kind_of_key.ensures, c.roles.ensures) at c.is_kind.ensures.0 c.if-not-is_kind.false in
    let named = c.names.ensures.0 c.if-not-names.false in
    rw c.in-Bound.is ((λ passed. (kind, named, c.role_extent.ensures.must.0 passed)), (λ must. c.role_extent.ensures.must.1 must.2))
