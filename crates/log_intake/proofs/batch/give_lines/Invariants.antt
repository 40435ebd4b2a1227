use Rattle.std.proofs.Common.{◌≡◌, length}
use Rattle.line_reader.specs.Lines.{lines_from}
use Rattle.log_intake.specs.Batches.{GivesLines, line_values}
use Rattle.log_intake.proofs.batch.give_lines.Given as goal

abbrev pub invariant-lines : goal.invariant-lines
invariant-lines l = record {
  gives : GivesLines l.initial.reader l.reader (line_values l.initial.lines.items) (line_values l.lines.items);
  ended : l.reader.ended ≡ l.initial.reader.ended;
}

abbrev pub decreases-lines : goal.decreases-lines
decreases-lines l = length (lines_from l.reader.number l.reader.pending)
