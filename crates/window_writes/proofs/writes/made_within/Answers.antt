use Rattle.std.proofs.Common.{◌≡◌, ◌+◌, Some, length, slice_get, refl, sym, ap, subst, ◌∙◌, arith}
use Rattle.std.proofs.lemmas.Option.{slice_get_read}
use Rattle.setup_file.specs.declared.setup.Setup.{Setup}
use Rattle.window_writes.proofs.TurnGathering.{turns_none, turns_more, turns_skip}
use Rattle.window_writes.proofs.TurnShowing.{version_made}
use Rattle.window_writes.specs.Turns.{AreMadeTurns, IsMadeTurn, IsMadeWithin}
use Rattle.window_writes.proofs.writes.made_within.Goals as goal
use Rattle.window_writes.proofs.writes.made_within.Goals.{then-is_made_within+in_ok-push, else-is_made_within}

pub made_turn-requires-clause-made : goal.made_turn-requires-clause-made
made_turn-requires-clause-made c =
    let known = c.args.context.now in
    let version = c.index-versions-position.result in
    let at : slice_get known.versions c.loop-position.position ≡ Some version =
    ap (λ l. slice_get l c.loop-position.position) (sym c.versions-versions.ensures.versions) ∙ slice_get_read c.versions-versions.result.now (length c.versions-versions.result.now) c.loop-position.position version refl c.loop-position-test.true c.index-versions-position.is in
    let start : c.get-start.result ≡ known.setup.start = c.get-start.ensures.value ∙ ap (λ (s : Setup). s.start) c.setup.ensures.setup in
    let counts : IsMadeWithin known.setup.start c.args.window.low c.args.window.high version =
    subst (λ s. IsMadeWithin s c.args.window.low c.args.window.high version) start (c.is_made_within.ensures.0 c.if-is_made_within.true) in
    version_made known c.loop-position.position version c.requires at counts.0

pub loop-position-init : goal.loop-position-init
loop-position-init c = rw c.new-turns.ensures.items (turns_none (IsMadeWithin c.args.context.now.setup.start c.args.window.low c.args.window.high) (IsMadeTurn c.args.context.now) c.args.context.now.versions)

pub loop-position-preserved : goal.loop-position-preserved
loop-position-preserved c =
    let known = c.args.context.now in
    let low = c.args.window.low in
    let high = c.args.window.high in
    let version = c.index-versions-position.result in
    let i = c.loop-position.position in
    let at : slice_get known.versions i ≡ Some version =
    ap (λ l. slice_get l i) (sym c.versions-versions.ensures.versions) ∙ slice_get_read c.versions-versions.result.now (length c.versions-versions.result.now) i version refl c.loop-position-test.true c.index-versions-position.is in
    let start : c.get-start.result ≡ known.setup.start = c.get-start.ensures.value ∙ ap (λ (s : Setup). s.start) c.setup.ensures.setup in
    elim c.if-is_made_within.branch [
      | then-is_made_within+in_ok-push w ↦
          subst (AreMadeTurns known low high (i + 1)) (sym (ap (λ v. v.items) w.turns-is ∙ w.in_ok-push.ensures.items))
          (turns_more (IsMadeWithin known.setup.start low high) (IsMadeTurn known) known.versions i c.loop-position.turns.items w.made_turn.result version c.loop-position.invariant at
          (subst (λ s. IsMadeWithin s low high version) start (c.is_made_within.ensures.0 w.if-is_made_within.true)) w.made_turn.ensures.position w.made_turn.ensures.turn)
      | else-is_made_within w ↦
          subst (AreMadeTurns known low high (i + 1)) (sym (ap (λ v. v.items) w.turns-is))
          (turns_skip (IsMadeWithin known.setup.start low high) (IsMadeTurn known) known.versions i c.loop-position.turns.items version c.loop-position.invariant at
          (λ counts. absurd (let there = c.is_made_within.ensures.1 (subst (λ s. IsMadeWithin s low high version) (sym start) counts) in cc (there, w.if-is_made_within.false))))
    ]

pub returns : goal.returns
returns c =
    let known = c.args.context.now in
    let whole : c.loop-position.position ≡ length known.versions = omega (arith, c.loop-position-test.false, c.loop-position.auto.position-end, ap length c.versions-versions.ensures.versions) in
    subst (λ n. AreMadeTurns known c.args.window.low c.args.window.high n c.loop-position.turns.items) whole c.loop-position.invariant
