use Rattle.std.proofs.Common.{refl, sym, true≢false}
use Rattle.std.proofs.lemmas.Bool.{both_ways}
use Rattle.local_bounds.proofs.Refused.{refused_by_uid, refused_by_revision, refused_by_uid_alone}
use Rattle.local_bounds.proofs.seen.is_refused_within.Goals as goal

pub returns-then-has_other_uid : goal.returns-then-has_other_uid
returns-then-has_other_uid c = λ h p. ((λ e. refused_by_uid c.args.past.now h p c.args.key.now c.args.window.low c.args.window.high c.args.asked.now c.args.uid.now c.requires.uid (c.has_other_uid.ensures.0 c.if-has_other_uid.true)), λ s. refl)

pub returns-in-Some : goal.returns-in-Some
returns-in-Some c = λ h p. refused_by_revision c.args.past.now h p c.args.key.now c.args.window.low c.args.window.high c.args.asked.now c.args.uid.now c.requires.uid
    (λ s. both_ways _ c.if-has_other_uid.false (c.has_other_uid.ensures.1 s)) c.in-Some.revision c.in-Some.is c.has_other_revision.result (c.has_other_revision.ensures h p)

pub returns-in-None : goal.returns-in-None
returns-in-None c = λ h p. (
  (λ e. absurd (true≢false (sym e))),
  λ s. absurd (refused_by_uid_alone c.args.past.now h p c.args.key.now c.args.window.low c.args.window.high c.args.asked.now c.args.uid.now c.requires.uid
      (λ s. both_ways _ c.if-has_other_uid.false (c.has_other_uid.ensures.1 s)) c.in-None.is s),
)
