use Rattle.std.proofs.Common.{IsSome, All, map, filter_map, sym, subst, ◌∙◌, ap}
use Rattle.std.proofs.lemmas.Result.{IfOk-weaker}
use Rattle.window_writes.proofs.TurnSorting.{lines_are, turns_written}
use Rattle.window_writes.specs.Lines.{AreWriteLines}
use Rattle.window_writes.specs.Lines.{write_line}
use Rattle.window_writes.specs.Turns.{write_of_turn}
use Rattle.window_writes.specs.declared.writes.WriteTurn.{WriteTurn}
use Rattle.window_writes.proofs.writes.writes_within.Goals as goal

pub lines_of-requires : goal.lines_of-requires
lines_of-requires c =
    subst (All (λ (turn : WriteTurn). IsSome (write_of_turn c.args.context.now turn))) (sym c.deref.ensures.value)
    (turns_written c.args.context.now c.requires c.args.window.low c.args.window.high c.in_ok-turns.turns.items c.in_ok-turns.ensures.all)

pub returns : goal.returns
returns c = IfOk-weaker c.lines_of.result _ _
    (λ lines is. subst (AreWriteLines c.args.context.now c.args.window.low c.args.window.high) (sym (is ∙ ap (λ turns. map write_line (filter_map (write_of_turn c.args.context.now) turns)) c.deref.ensures.value))
    (lines_are c.args.context.now c.requires c.args.window.low c.args.window.high c.in_ok-turns.turns.items c.in_ok-turns.ensures.all c.in_ok-turns.ensures.sorted)) c.lines_of.ensures
