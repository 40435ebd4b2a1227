use Rattle.std.proofs.Common.{ℕ, List, get_or, take, drop, suc, slice_range, subst, sym}
use Rattle.std.specs.List.{flat_map}
use Rattle.log_sift.specs.declared.answer.Stretch.{Stretch}
use Rattle.edge_io.specs.Endings.{AppendsPart}
use Rattle.log_sift.proofs.WritingFacts.{on_err, part_between, spread}
use Rattle.log_sift.proofs.named.write_stretches.Goals as goal

pub returns-in_err-write_whole-clause-part : goal.returns-in_err-write_whole-clause-part
returns-in_err-write_whole-clause-part g c =
    let cut : Stretch → List ℕ = λ stretch. slice_range c.args.log.now stretch.start stretch.end in
    let other : Stretch = record { start = 0; end = 0 } in
    let before = g.K.Sink.written c.args.out.now in
    let between = g.K.Sink.written c.loop-stretch.out in
    let now = g.K.Sink.written c.write_whole.new.out in
    let at = c.loop-stretch.stretch-index in
    let around = spread cut c.args.stays.now at other c.loop-stretch-test.true in
    let part = part_between before between now (flat_map cut (take at c.args.stays.now)) (cut (get_or c.args.stays.now at other)) (flat_map cut (drop (suc at) c.args.stays.now)) c.loop-stretch.invariant.written c.in_err-write_whole.ensures.part in
    on_err c.from_residual.result _ (subst (AppendsPart before now) (sym around) part)
