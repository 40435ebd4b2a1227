use Rattle.std.proofs.Common.{⊎_elim, inr, arith}
use Rattle.std.proofs.lemmas.Bool.{both_ways}
use Rattle.object_past.proofs.Absent.{absent_from, absent_to, in_history, somewhere_in_history, somewhere_of_history}
use Rattle.object_past.proofs.Cut.{recorded_of}
use Rattle.object_past.proofs.past.Past.is_absent_within.Goals as goal

pub returns-then-is_absent_at : goal.returns-then-is_absent_at
returns-then-is_absent_at c =
    let past = recorded_of c.self.inside.versions c.self.inside.removals in
    let at = rw (← c.self.view_is) at c.is_absent_at.ensures in
    rw (← c.self.view_is) (λ h has. (
      (λ holds. (c.args.low, omega arith, c.if-low-high.false, in_history past h c.args.key.now c.args.low has (at.0 c.if-is_absent_at.true))),
      (λ some. c.if-is_absent_at.true),
    ))

pub returns-else-is_absent_at : goal.returns-else-is_absent_at
returns-else-is_absent_at c =
    let past = recorded_of c.self.inside.versions c.self.inside.removals in
    let at = rw (← c.self.view_is) at c.is_absent_at.ensures in
    let gone = rw (← c.self.view_is) at c.gone_of.ensures in
    rw (← c.self.view_is) (λ h has. (
      (λ holds. somewhere_in_history past h c.args.key.now c.args.low c.args.high has
          (absent_from past c.args.key.now c.gone_of.result.now c.args.low c.args.high c.self.invariant.rising c.self.invariant.ends gone c.if-low-high.false (inr (c.has_within.ensures.0 holds)))),
      (λ some. ⊎_elim
          (λ absent. absurd (both_ways _ c.if-is_absent_at.false (at.1 absent)))
          (λ any. c.has_within.ensures.1 any)
          (absent_to past c.args.key.now c.gone_of.result.now c.args.low c.args.high c.self.invariant.rising c.self.invariant.ends gone
          (somewhere_of_history past h c.args.key.now c.args.low c.args.high has some))),
    ))
