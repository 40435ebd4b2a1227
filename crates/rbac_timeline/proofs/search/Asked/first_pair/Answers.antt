use Rattle.std.proofs.Common.{ℕ, ◌≤◌, ◌⊎◌, ⊎_elim, inl, inr, arith, sym, ◌∙◌}
use Rattle.std.specs.List.{Any}
use Rattle.base_types.proofs.Quantifiers.{Any-contains}
use Rattle.base_types.specs.declared.kubernetes.key.ObjectKey.{ObjectKey}
use Rattle.rbac_rules.specs.Matching.{Matches}
use Rattle.rbac_timeline.specs.Extents.{MayGrantInWay, MayGrantNameless, by_create}
use Rattle.rbac_timeline.specs.Found.{MayGrantNamed}
use Rattle.rbac_timeline.specs.Kept.{MayGrantByListed}
use Rattle.rbac_timeline.specs.Unsure.{last_place}
use Rattle.rbac_timeline.proofs.Naming.{way_from_known}
use Rattle.rbac_timeline.proofs.Partly.{FirstFor-earlier, FirstFor-one, FirstFor-stop, IsFirstPair-from}
use Rattle.rbac_timeline.proofs.Subjects.{may_parts}
use Rattle.rbac_timeline.proofs.search.Asked.first_pair.Goals as goal

pub named_pair-named-requires-clause-fits : goal.named_pair-named-requires-clause-fits
named_pair-named-requires-clause-fits c =
    let same = c.in_range-high.ensures in
    let fits = c.in_range-high.type_inv in
    omega arith

pub returns-then-is_lowest : goal.returns-then-is_lowest
returns-then-is_lowest c =
    let s = c.args.self.now in
    let all = λ (r b : ℕ). MayGrantInWay s.timeline.now c.args.way r b s.who.now s.attrs.now in
    IsFirstPair-from all s.low s.high all c.named_pair-named.result (λ r b upto may. may)
    (FirstFor-stop all s.low s.high (λ (r b : ℕ). MayGrantNamed s.timeline.now (λ x. Matches x s.who.now) c.args.way r b s.who.now s.attrs.now) all c.named_pair-named.result
    (sym c.is_lowest.ensures ∙ c.if-is_lowest.true) c.named_pair-named.ensures.found)

pub returns : goal.returns
returns c =
    let s = c.args.self.now in
    let known = s.timeline.now in
    let way = c.args.way in
    let keys = c.unsure_keys.result.now in
    let all = λ (r b : ℕ). MayGrantInWay known way r b s.who.now s.attrs.now in
    let by_name = λ (r b : ℕ). MayGrantNamed known (λ x. Matches x s.who.now) way r b s.who.now s.attrs.now in
    let by_none = λ (r b : ℕ). MayGrantNameless known way b s.attrs.now in
    let by_keys = λ (r b : ℕ). Any (λ (key : ObjectKey). MayGrantByListed known way r b s.who.now s.attrs.now key) keys in
    let same = c.in_range-high.ensures in
    let fits = c.in_range-high.type_inv in
    let bound : s.high ≤ last_place = omega arith in
    let nameless = FirstFor-one all s.low s.high by_none c.nameless_pair-nameless.result (λ r b create. by_create create) c.nameless_pair-nameless.ensures in
    let unsure = FirstFor-one all s.low s.high by_keys c.keys_pair-unsure.result
    (λ r b any. way_from_known known way r b s.who.now s.attrs.now (any.1, c.unsure_keys.ensures.known any.1 (any.0, any.2, any.3), any.4)) c.keys_pair-unsure.ensures in
    rw (c.earlier_pair-2.ensures, c.earlier_pair.ensures) (IsFirstPair-from all s.low s.high (λ r b. by_name r b ⊎ (by_none r b ⊎ by_keys r b)) _
    (λ r b upto may. ⊎_elim
    (λ named. inl named)
    (λ other. ⊎_elim
    (λ create. inr (inl create))
    (λ of. inr (inr (Any-contains (λ (key : ObjectKey). MayGrantByListed known way r b s.who.now s.attrs.now key) keys of.0 (c.unsure_keys.ensures.full b of.0 (omega arith) of.2.0 of.2.1 of.1) of.2)))
    other)
    (may_parts known way b s.who.now s.attrs.now r may))
    (FirstFor-earlier all s.low s.high by_name (λ r b. by_none r b ⊎ by_keys r b) (λ r b. by_name r b ⊎ (by_none r b ⊎ by_keys r b)) _ _ (λ r b either. either) c.named_pair-named.ensures.found
    (FirstFor-earlier all s.low s.high by_none by_keys (λ r b. by_none r b ⊎ by_keys r b) _ _ (λ r b either. either) nameless unsure)))
