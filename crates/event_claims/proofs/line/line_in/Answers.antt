use Rattle.std.proofs.Common.{refl, subst}
use Rattle.write_groups.specs.Modelled.{event_of}
use Rattle.event_claims.specs.Lines.{IsAnswered}
use Rattle.event_claims.proofs.Lining.{not_fixed, not_answered, line_is}
use Rattle.event_claims.proofs.line.line_in.Goals as goal

pub returns-then-not-is_fixed_right : goal.returns-then-not-is_fixed_right
returns-then-not-is_fixed_right g c = λ h v known chosen.
    not_fixed h c.args.choice.now c.args.case.number (event_of c.args.case.event.now) c.is_fixed_right.result
    (c.is_fixed_right.ensures h v known (c.word_of-word.ensures h v.start v.past)) c.if-not-is_fixed_right.true

pub returns-in_default : goal.returns-in_default
returns-in_default g c = λ h v known chosen.
    not_answered h c.args.choice.now c.args.case.number (event_of c.args.case.event.now)
    (subst (IsAnswered h c.args.choice.now c.args.case.number (event_of c.args.case.event.now)) c.in_default.is
    (c.in_ok-placed.ensures h v known (record { from = c.window_of-window.ensures.low h v.times; to = c.window_of-window.ensures.high h v.times }) (c.word_of-word.ensures h v.start v.past) chosen))

pub returns : goal.returns
returns g c = λ h v known chosen.
    let e = event_of c.args.case.event.now in
    let said = c.word_of-word.ensures h v.start v.past in
    line_is h c.args.choice.now c.args.case.number e c.args.case.event.now.line c.in-Some.answer c.line_with.result refl
    ((c.is_fixed_right.ensures h v known said).0 c.if-not-is_fixed_right.false)
    (subst (IsAnswered h c.args.choice.now c.args.case.number e) c.in-Some.is
    (c.in_ok-placed.ensures h v known (record { from = c.window_of-window.ensures.low h v.times; to = c.window_of-window.ensures.high h v.times }) said chosen))
    (c.line_with.ensures h c.args.case.number e (c.decided_of-decided.ensures h v known.here))
