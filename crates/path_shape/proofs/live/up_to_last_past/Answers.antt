use Rattle.std.proofs.Common.{◌≡◌, ◌+◌, ◌-◌, false, take, sym, ap, ◌∙◌, arith}
use Rattle.path_shape.specs.declared.shape.ShapeEntry.{ShapeEntry}
use Rattle.path_shape.specs.Passing.{behind, is_past, entries_past}
use Rattle.path_shape.proofs.PassLemmas.{without_last}
use Rattle.path_shape.proofs.live.up_to_last_past.Goals as goal

pub last-preserved : goal.last-preserved
last-preserved c =
    let way = c.args.way.now in
    let es = c.args.entries.now in
    let e = c.index-entries-end.result in
    let i = c.last.end - 1 in
    let some = c.last-test.true in
    let bound = c.last.invariant.within in
    let gone : is_past (behind way e.path) ≡ false =
    ap (λ (x : ShapeEntry). is_past (behind way x.path)) c.index-entries-end.is ∙ ap (λ p. is_past (behind way p)) (sym c.as_slice.ensures) ∙ ap is_past (sym c.behind.ensures) ∙ sym c.is_past.ensures ∙ c.if-is_past.false in
    let count : i + 1 ≡ c.last.end = omega arith in record {
      within = omega arith;
      same = λ nothing. without_last way nothing es e i (omega arith) c.index-entries-end.is gone ∙ ap (λ n. entries_past way nothing (take n es)) count ∙ c.last.invariant.same nothing;
    }
