use Rattle.std.proofs.Common.{ℕ}
use Rattle.std.proofs.lemmas.Bool.{both_ways}
use Rattle.clouds.proofs.FirstPlaces.{IsFirstPlace-same}
use Rattle.rbac_timeline.specs.Kept.{MayGrantByContent, MayGrantByListed}
use Rattle.rbac_timeline.specs.Kinds.{IsBindingOf}
use Rattle.rbac_timeline.proofs.Granting.{may_clouded}
use Rattle.rbac_timeline.proofs.Pairing.{IsFirstPlace-low}
use Rattle.rbac_timeline.proofs.search.Asked.role_for.Goals as goal

pub returns-then-not-is_kind-clause-found : goal.returns-then-not-is_kind-clause-found
returns-then-not-is_kind-clause-found c = λ r from upto may. both_ways _ c.if-not-is_kind.true (c.is_kind.ensures.1 (rw (c.kind_of_key.ensures, c.bindings.ensures) may.0))

pub returns-then-not-reaches-clause-found : goal.returns-then-not-reaches-clause-found
returns-then-not-reaches-clause-found c = λ r from upto may. both_ways _ c.if-not-reaches.true (c.reaches.ensures.1 may.1)

pub returns-then-is_clouded-clause-found : goal.returns-then-is_clouded-clause-found
returns-then-is_clouded-clause-found c =
    let s = c.args.self.now in
    let kind = rw (c.kind_of_key.ensures, c.bindings.ensures) at c.is_kind.ensures.0 c.if-not-is_kind.false in
    let reached = c.reaches.ensures.0 c.if-not-reaches.false in
    IsFirstPlace-low (λ (r : ℕ). MayGrantByListed s.timeline.now c.args.way r c.args.place s.who.now s.attrs.now c.args.key.now) s.low s.high c.requires.range
    (kind, reached, may_clouded (IsBindingOf c.args.key.now) s.timeline.now c.args.key.now c.args.place _ (c.is_clouded.ensures.0 c.if-is_clouded.true))

pub held-requires : goal.held-requires
held-requires c = λ clouded. both_ways _ c.if-is_clouded.false (c.is_clouded.ensures.1 clouded)

pub returns-in-Some-clause-found : goal.returns-in-Some-clause-found
returns-in-Some-clause-found c =
    let s = c.args.self.now in
    let kind = rw (c.kind_of_key.ensures, c.bindings.ensures) at c.is_kind.ensures.0 c.if-not-is_kind.false in
    let reached = c.reaches.ensures.0 c.if-not-reaches.false in
    let told = c.in-Some.ensures.some in
    IsFirstPlace-same (λ (r : ℕ). MayGrantByContent s.timeline.now c.args.way r s.who.now s.attrs.now c.in-Some.content.now) _ s.low s.high c.role_of.result
    (λ r may. (kind, reached, (told c.args.way r s.who.now s.attrs.now).1 may)) (λ r may. (told c.args.way r s.who.now s.attrs.now).0 may.2) c.role_of.ensures.found

pub returns-in-None-clause-found : goal.returns-in-None-clause-found
returns-in-None-clause-found c =
    let s = c.args.self.now in
    λ r from upto may. c.in-None.ensures.none c.args.way r s.who.now s.attrs.now may.2
