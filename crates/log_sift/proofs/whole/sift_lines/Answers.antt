use Rattle.std.proofs.Common.{◌+◌, slice_range, subst, sym}
use Rattle.log_sift.specs.declared.answer.Sifting.{Sifting}
use Rattle.log_sift.specs.Sifted.{stays_from}
use Rattle.log_sift.proofs.LoopFacts.{HasSifted, all_sifted, has_sifted}
use Rattle.log_sift.proofs.whole.sift_lines.Goals as goal

pub lines-preserved : goal.lines-preserved
lines-preserved c =
    let log = c.args.log.now in
    let l = c.lines in
    let cut = c.cut_line-cut.result in
    let next = c.cut_line-cut.ensures.next in
    let fate = c.in_ok-fate.fate in
    let after = c.sift_line.new.kept.entries in
    let has = has_sifted log (slice_range log l.start cut.end) l.events.entries after l.sifting l.number l.from l.start cut.next fate l.invariant next.0 next.1 c.cut_line-cut.ensures.begins c.in_ok-fate.ensures in
    subst (λ from. HasSifted log after c.note.new.sifting (l.number + 1) from cut.next) (sym c.stays_from-from.ensures)
    (subst (λ (sifting : Sifting). HasSifted log after sifting (l.number + 1) (stays_from l.from cut.next fate) cut.next) (sym c.in_ok-note.ensures) has)

pub returns : goal.returns
returns c =
    let l = c.lines in
    let told : Sifting = record { stays = c.add_stretch.new.stays; left = l.sifting.left; kept = l.sifting.kept } in
    all_sifted c.args.log.now l.events.entries l.sifting told l.number l.from l.start l.invariant c.lines-test.false
    (λ i. record { stays = c.in_ok-add_stretch.ensures i; left = l.sifting.left; kept = l.sifting.kept })
