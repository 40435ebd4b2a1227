use Rattle.std.proofs.Common.{◌≡◌, ◌-◌, ◌<◌, ◌∙◌, ap, subst, sym, arith}
use Rattle.std.specs.List.{AllZip, range_with_len}
use Rattle.rayon.specs.Numbers.{nat_range}
use Rattle.rayon.proofs.ToStd.{nat_range-All}
use Rattle.base_types.specs.declared.foundation.memory.OutOfMemory.{OutOfMemory}
use Rattle.judge_pool.specs.Lines.{AreLines}
use Rattle.judge_pool.proofs.Gathering.{AnswersEvent, lines_gathered}
use Rattle.judge_pool.proofs.lines.lines_all.Goals as goal

-- each number of the range is an event
pub collect-requires-clause-ready : goal.collect-requires-clause-ready
collect-requires-clause-ready g c κs within =
    let count = g.S.LineSource.events c.args.source.now in
    let ends = c.into_par_iter.ensures in
    let events = nat_range-All (λ event. event < count) 0 count (λ event _ high. high) in
    rw (c.map.ensures.base, c.map.ensures.f, c.with_min_len.ensures.base, ends.0, ends.1, c.count.ensures) (λ k d below. (events k d below, λ y post. tt))

pub returns : goal.returns
returns g c =
    let count = g.S.LineSource.events c.args.source.now in
    let is_line = g.S.LineSource.is_line c.args.source.now in
    let ends = c.into_par_iter.ensures in
    let chain = rw (c.map.ensures.base, c.map.ensures.f, c.with_min_len.ensures.base) at c.in_ok-gathered.ensures in
    let counted : c.count.result - 0 ≡ count = (let whole = c.count.ensures in omega arith) in
    let events = chain.1.1 ∙ (λ i. nat_range (ends.0 i) (ends.1 i)) ∙ ap (range_with_len 0) counted in
    let gave = rw c.in_ok-gathered-2.was at chain.2 in
    let answers = subst (λ rs. AllZip (AnswersEvent {E = OutOfMemory} is_line) (range_with_len 0 count) rs) gave.1 (subst (λ events. AllZip (AnswersEvent {E = OutOfMemory} is_line) events chain.0) events chain.1.2) in
    subst (AreLines count is_line) (sym gave.2) (lines_gathered OutOfMemory is_line count gave.0 answers)
