use Rattle.std.proofs.Common.{◌∙◌, refl, arith}
use Rattle.std.proofs.lemmas.Result.{IfErr-weaker}
use Rattle.log_intake.proofs.AheadFacts.{decoded_behind, decoded_few, decoded_first, decoded_next, decoded_on, decoded_open, decoded_stops, decoded_within, fewer_left, rest_ended, rest_refused, rest_stopped, some_within}
use Rattle.log_intake.proofs.AnswerFacts.{reads_nothing, reads_some, stop_passed}
use Rattle.log_intake.proofs.EventFacts.{on_ok}
use Rattle.log_intake.proofs.LogFacts.{nothing_read_from}
use Rattle.log_intake.proofs.log.read_batches.Goals as goal

pub returns-in_err-reader-clause-stopped : goal.returns-in_err-reader-clause-stopped
returns-in_err-reader-clause-stopped g c = stop_passed c.from_residual.result _ _ c.from_residual.ensures.1 (reads_nothing _ _)

pub returns-in_err-next-clause-stopped : goal.returns-in_err-next-clause-stopped
returns-in_err-next-clause-stopped g c =
    stop_passed c.from_residual-in_err-next.result _ _ c.from_residual-in_err-next.ensures.1 (reads_some _ _ _ _ _ c.in_ok-reader.reader c.args.seen.now record { line = 0; extra = 0 } 0 (nothing_read_from _ c.in_ok-reader.reader c.args.seen.now record { line = 0; extra = 0 } c.in_ok-reader.ensures c.requires.none refl refl)
    (some_within _ _ 0 1376256 4259840 (omega arith) c.in_err-next.ensures.memory) c.in_err-next.ensures.counted)

pub batches-init : goal.batches-init
batches-init g c = record {
  read = decoded_first (g.D.Desk.left c.args.desk.now) (g.D.Desk.left c.gather.new.desk) c.args.name.now _ _ c.in_ok-reader.reader c.gather.new.reader c.args.seen.now record { line = 0; extra = 0 } record { lines = c.new-2.result; decoded = c.new-3.result } c.in_ok-next.next
      (nothing_read_from _ c.in_ok-reader.reader c.args.seen.now record { line = 0; extra = 0 } c.in_ok-reader.ensures c.requires.none refl refl) c.in_ok-next.ensures c.new-2.ensures.items c.new-3.ensures;
  others = c.in_ok-next.ensures.others;
}

pub advance-kept-requires-clause-few : goal.advance-kept-requires-clause-few
advance-kept-requires-clause-few g c κs _ = decoded_few _ _ _ _ c.batches.reader c.batches.seen c.batches.place c.batches.front c.batches.next c.batches.next.lines.items c.batches.invariant.read refl

pub advance-kept-requires-clause-decoded : goal.advance-kept-requires-clause-decoded
advance-kept-requires-clause-decoded g c κs _ = c.batches.invariant.read.decodes

pub advance-kept-requires-clause-ready : goal.advance-kept-requires-clause-ready
advance-kept-requires-clause-ready g c κs _ = decoded_next _ _ _ _ c.batches.reader c.batches.seen c.batches.place c.batches.front c.batches.next c.batches.invariant.read

pub advance-kept-requires-clause-may_gather : goal.advance-kept-requires-clause-may_gather
advance-kept-requires-clause-may_gather g c κs _ =
    let long = c.batches.auto.buffer in
    let some = c.requires.some in
    let piece = c.requires.piece in
    record {
      some = omega (arith, long, some);
      piece = omega (arith, long, piece);
      within = decoded_within _ _ _ _ c.batches.reader c.batches.seen c.batches.place c.batches.front c.batches.next c.batches.invariant.read;
      going = decoded_open _ _ _ _ c.batches.reader c.batches.seen c.batches.place c.batches.front c.batches.next c.batches.invariant.read (c.goes_on.ensures.0 c.batches-test.true);
    }

pub returns-in_err-after-clause-stopped : goal.returns-in_err-after-clause-stopped
returns-in_err-after-clause-stopped g c =
    stop_passed c.from_residual-in_err-after.result _ _ c.from_residual-in_err-after.ensures.1 (decoded_stops _ (g.D.Desk.left c.batches.desk) (g.D.Desk.left c.advance-kept.new.desk) c.args.name.now _ _ _ c.batches.reader c.advance-kept.new.reader c.batches.seen c.advance-kept.new.seen c.batches.place c.batches.front c.batches.next c.batches.next.lines.items _ _ _ c.in_err-after.field-0.0
    (c.goes_on.ensures.0 c.batches-test.true) c.batches.invariant.read c.advance-kept.ensures.keeps c.advance-kept.ensures.gathers c.in_err-after.ensures.err)

pub batches-smaller : goal.batches-smaller
batches-smaller g c =
    fewer_left (g.D.Desk.left c.batches.desk) (g.D.Desk.left c.advance-kept.new.desk) c.args.name.now _ _ c.batches.reader c.advance-kept.new.reader c.batches.next c.in_ok-after.after.gathered _ (c.goes_on.ensures.0 c.batches-test.true) c.advance-kept.ensures.gathers c.in_ok-after.ensures.ok.2

pub batches-preserved : goal.batches-preserved
batches-preserved g c = record {
  read = decoded_on _ (g.D.Desk.left c.batches.desk) (g.D.Desk.left c.advance-kept.new.desk) c.args.name.now _ _ _ c.batches.reader c.advance-kept.new.reader c.batches.seen c.advance-kept.new.seen c.batches.place c.in_ok-after.after.place c.batches.front record { lines = c.batches.next.lines; decoded = c.in_ok-after.after.decoded } c.batches.next c.in_ok-after.after.gathered c.in_ok-after.after.decoded _ _ _
      (c.goes_on.ensures.0 c.batches-test.true) c.batches.invariant.read c.advance-kept.ensures.keeps c.advance-kept.ensures.gathers refl refl c.in_ok-after.ensures.ok;
  others = λ other differs. c.advance-kept.ensures.gathers.others other differs ∙ c.batches.invariant.others other differs;
}

pub keep_rest-requires-clause-few : goal.keep_rest-requires-clause-few
keep_rest-requires-clause-few g c κs _ = decoded_few _ _ _ _ c.batches.reader c.batches.seen c.batches.place c.batches.front c.batches.next c.as_slice-last.result.now c.batches.invariant.read c.as_slice-last.ensures.value

pub keep_rest-requires-clause-decoded : goal.keep_rest-requires-clause-decoded
keep_rest-requires-clause-decoded g c κs _ = c.batches.invariant.read.decodes

pub keep_rest-requires-clause-ready : goal.keep_rest-requires-clause-ready
keep_rest-requires-clause-ready g c κs _ = decoded_next _ _ _ _ c.batches.reader c.batches.seen c.batches.place c.batches.front c.batches.next c.batches.invariant.read

pub keep_rest-requires-clause-behind : goal.keep_rest-requires-clause-behind
keep_rest-requires-clause-behind g c κs _ = decoded_behind _ _ _ _ c.batches.reader c.batches.seen c.batches.place c.batches.front c.batches.next c.as_slice-last.result.now c.batches.invariant.read c.as_slice-last.ensures.value

pub returns-clause-whole : goal.returns-clause-whole
returns-clause-whole g c =
    on_ok c.answer.result _ _ (λ ended are. rest_ended _ _ _ _ c.batches.reader c.batches.seen c.keep_rest.new.seen c.batches.place c.in_ok-keep_rest.field-0 c.batches.front c.batches.next c.as_slice-last.result.now c.batches.invariant.read c.as_slice-last.ensures.value c.in_ok-keep_rest.ensures ended are) c.answer.ensures.whole

pub returns-clause-stopped : goal.returns-clause-stopped
returns-clause-stopped g c =
    IfErr-weaker c.answer.result _ _ (λ why at. rest_stopped _ _ _ _ c.batches.reader c.batches.seen c.keep_rest.new.seen c.batches.place c.in_ok-keep_rest.field-0 c.batches.front c.batches.next c.as_slice-last.result.now why c.batches.invariant.read c.as_slice-last.ensures.value c.in_ok-keep_rest.ensures at) c.answer.ensures.stopped

pub returns-in_err-keep_rest-clause-stopped : goal.returns-in_err-keep_rest-clause-stopped
returns-in_err-keep_rest-clause-stopped g c =
    stop_passed c.from_residual-in_err-keep_rest.result _ _ c.from_residual-in_err-keep_rest.ensures.1 (rest_refused _ _ _ _ c.batches.reader c.batches.seen c.keep_rest.new.seen c.batches.place c.batches.front c.batches.next c.as_slice-last.result.now c.in_err-keep_rest.field-0.0 c.batches.invariant.read c.as_slice-last.ensures.value c.in_err-keep_rest.ensures)
