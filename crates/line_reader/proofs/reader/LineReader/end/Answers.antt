use Rattle.std.proofs.Common.{refl}
use Rattle.line_reader.proofs.HeldFacts.{held_ended, lines_ended}
use Rattle.line_reader.proofs.reader.LineReader.end.Goals as goal

pub invariant_of-self : goal.invariant_of-self
invariant_of-self c = held_ended c.self.inside _ c.self.invariant refl refl refl c.close_line.ensures

pub returns-clause-lines : goal.returns-clause-lines
returns-clause-lines c = lines_ended c.self.inside c.args.self.now c.close_line.new.bytes.items c.self.invariant c.self.view_is c.close_line.ensures
