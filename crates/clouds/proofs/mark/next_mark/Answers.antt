use Rattle.std.proofs.Common.{◌≡◌, ◌≤◌, max, subst}
use Rattle.clouds.specs.declared.mark.Mark.{Mark}
use Rattle.clouds.proofs.Searching.{AreMarks-more}
use Rattle.clouds.proofs.mark.next_mark.Goals as goal

pub returns-clause-order : goal.returns-clause-order
returns-clause-order c =
    let item = c.in-Some.ensures.item.3 in
    let is = item.1 c.in-Some.last.now in
    AreMarks-more c.args.marks.now _ c.in-Some.last.now c.requires item.0
    (subst (λ (mark : Mark). mark.low ≤ c.args.low) is c.if-low-last.false)
    (subst (λ (mark : Mark). c.max.result ≡ max c.args.high mark.reach) is c.max.ensures)
