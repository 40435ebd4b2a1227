use Rattle.std.proofs.Common.{◌≡◌, ◌-◌, ◌<◌, ◌∙◌, Ok, ap, map, subst, sym, arith}
use Rattle.std.specs.List.{AllZip, range_with_len}
use Rattle.rayon.specs.Numbers.{nat_range}
use Rattle.rayon.proofs.ToStd.{nat_range-All}
use Rattle.base_types.specs.declared.foundation.memory.OutOfMemory.{OutOfMemory}
use Rattle.judge_pool.specs.Claims.{AreClaims}
use Rattle.judge_pool.proofs.Gathering.{AnswersEntered, all_entered, answers_kept, claims_gathered}
use Rattle.judge_pool.proofs.source.claims_all.Given.{Over}
use Rattle.judge_pool.proofs.source.claims_all.Goals as goal

-- each number of the range is an event
pub collect-requires-clause-ready : goal.collect-requires-clause-ready
collect-requires-clause-ready g c κs within =
    let count = g.S.ClaimSource.events c.args.source.now in
    let ends = c.into_par_iter.ensures in
    let events = nat_range-All (λ event. event < count) 0 count (λ event _ high. high) in
    rw (c.map.ensures.base, c.map.ensures.f, c.with_min_len.ensures.base, ends.0, ends.1, c.count.ensures) (λ k d below. ((events k d below, (record { shared = c.type_bounds.sync-S.shared }, record { shared = c.type_bounds.sync-G.shared })), λ y post. tt))

-- of each event there is a claim, and it has entered
answered : (g : Over) (c : goal.After-from_vec g)
    → AllZip (AnswersEntered {E = OutOfMemory} (g.S.ClaimSource.is_claim c.args.source.now) (g.G.Gate.is_entered c.args.gate.now)) (range_with_len 0 (g.S.ClaimSource.events c.args.source.now)) (map Ok c.in_ok-gathered-2.field-0.items)
answered g c =
    let count = g.S.ClaimSource.events c.args.source.now in
    let ends = c.into_par_iter.ensures in
    let chain = rw (c.map.ensures.base, c.map.ensures.f, c.with_min_len.ensures.base) at c.in_ok-gathered.ensures in
    let counted : c.count.result - 0 ≡ count = (let whole = c.count.ensures in omega arith) in
    let events = chain.1.1 ∙ (λ i. nat_range (ends.0 i) (ends.1 i)) ∙ ap (range_with_len 0) counted in
    let gave = rw c.in_ok-gathered-2.was at chain.2 in
    answers_kept (AnswersEntered {E = OutOfMemory} (g.S.ClaimSource.is_claim c.args.source.now) (g.G.Gate.is_entered c.args.gate.now)) chain.1.0 (range_with_len 0 count) chain.0 gave.0 c.in_ok-gathered-2.field-0.items chain.1.2 events gave.1 gave.2

pub returns-clause-claims : goal.returns-clause-claims
returns-clause-claims g c =
    let count = g.S.ClaimSource.events c.args.source.now in
    let is_claim = g.S.ClaimSource.is_claim c.args.source.now in
    let is_entered = g.G.Gate.is_entered c.args.gate.now in
    subst (AreClaims count is_claim) (sym c.from_vec.ensures) (claims_gathered OutOfMemory is_claim is_entered count c.in_ok-gathered-2.field-0.items (answered g c))

pub returns-clause-entered : goal.returns-clause-entered
returns-clause-entered g c =
    let count = g.S.ClaimSource.events c.args.source.now in
    let is_claim = g.S.ClaimSource.is_claim c.args.source.now in
    let is_entered = g.G.Gate.is_entered c.args.gate.now in
    all_entered OutOfMemory is_claim is_entered count c.in_ok-gathered-2.field-0.items (answered g c)
