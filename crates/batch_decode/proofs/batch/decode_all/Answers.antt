use Rattle.std.proofs.Common.{◌≡◌, ◌-◌, ◌<◌, ◌∙◌, Ok, sym, ap, map, subst, length, arith}
use Rattle.std.specs.List.{AllZip, range_with_len}
use Rattle.rayon.specs.Numbers.{nat_range}
use Rattle.rayon.proofs.ToStd.{nat_range-All}
use Rattle.base_types.specs.declared.foundation.memory.OutOfMemory.{OutOfMemory}
use Rattle.judge_pool.proofs.Gathering.{answers_kept}
use Rattle.batch_decode.specs.Batches.{IsDecodedLine}
use Rattle.batch_decode.proofs.Gathering.{AnswersEntered, all_entered, answered, each_pair}
use Rattle.batch_decode.proofs.batch.decode_all.Given.{Over}
use Rattle.batch_decode.proofs.batch.decode_all.Goals as goal

-- each number of the range is a line's
pub collect-requires-clause-ready : goal.collect-requires-clause-ready
collect-requires-clause-ready g c κs within =
    let lines = c.args.lines.now in
    let ends = c.into_par_iter.ensures in
    let places = nat_range-All (λ place. place < length lines) 0 (length lines) (λ place _ high. high) in
    rw (c.map_init.ensures.base, c.map_init.ensures.f, c.with_min_len.ensures.base, ends.0, ends.1) (tt, λ k d below. ((λ p. (places k d below, record { shared = c.type_bounds.sync-G.shared })), λ p q y post. tt))

-- each place was answered, and has entered
answers : (g : Over) (c : goal.After-from_vec g)
    → AllZip (AnswersEntered {E = OutOfMemory} IsDecodedLine (g.G.Gate.is_entered c.args.gate.now) c.args.lines.now) (range_with_len 0 (length c.args.lines.now)) (map Ok c.in_ok-gathered-2.field-0.items)
answers g c =
    let lines = c.args.lines.now in
    let ends = c.into_par_iter.ensures in
    let chain = rw (c.map_init.ensures.base, c.map_init.ensures.f, c.with_min_len.ensures.base) at c.in_ok-gathered.ensures in
    let counted : length lines - 0 ≡ length lines = omega arith in
    let places = chain.1.1 ∙ (λ i. nat_range (ends.0 i) (ends.1 i)) ∙ ap (range_with_len 0) counted in
    let gave = rw c.in_ok-gathered-2.was at chain.2 in
    let each : AllZip (AnswersEntered {E = OutOfMemory} IsDecodedLine (g.G.Gate.is_entered c.args.gate.now) lines) chain.1.0 chain.0 = each_pair chain.1.0 chain.0 chain.1.2 (λ x y answer. answer.2) in
    answers_kept (AnswersEntered {E = OutOfMemory} IsDecodedLine (g.G.Gate.is_entered c.args.gate.now) lines) chain.1.0 (range_with_len 0 (length lines)) chain.0 gave.0 c.in_ok-gathered-2.field-0.items each places gave.1 gave.2

pub returns-clause-decoded : goal.returns-clause-decoded
returns-clause-decoded g c =
    let lines = c.args.lines.now in
    subst (AllZip IsDecodedLine lines) (sym c.from_vec.ensures) (answered OutOfMemory IsDecodedLine (g.G.Gate.is_entered c.args.gate.now) lines c.in_ok-gathered-2.field-0.items (answers g c))

pub returns-clause-entered : goal.returns-clause-entered
returns-clause-entered g c =
    all_entered OutOfMemory IsDecodedLine (g.G.Gate.is_entered c.args.gate.now) c.args.lines.now c.in_ok-gathered-2.field-0.items (answers g c)
