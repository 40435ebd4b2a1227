use Rattle.std.proofs.Common.{◌≡◌, map, filter_map, subst, ◌∙◌}
use Rattle.std.proofs.lemmas.List.{take_all}
use Rattle.window_writes.proofs.TurnLines.{lines_more}
use Rattle.window_writes.specs.Lines.{write_line}
use Rattle.window_writes.specs.Turns.{write_of_turn}
use Rattle.window_writes.proofs.writes.lines_of.Goals as goal

pub line_of-requires : goal.line_of-requires
line_of-requires c = c.requires c.loop-turn.turn-index _ c.loop-turn-test.true

pub loop-turn-preserved : goal.loop-turn-preserved
loop-turn-preserved c = c.in_ok-push.ensures.ok
    ∙ lines_more (write_of_turn c.args.context.now) write_line c.args.turns.now c.loop-turn.turn-index _ _ c.loop-turn.lines c.loop-turn-test.true c.in_ok-line_of.ensures c.loop-turn.invariant

pub returns : goal.returns
returns c = subst (λ turns. c.loop-turn.lines ≡ map write_line (filter_map (write_of_turn c.args.context.now) turns)) (take_all c.loop-turn.turn-index c.args.turns.now c.loop-turn-test.false) c.loop-turn.invariant
