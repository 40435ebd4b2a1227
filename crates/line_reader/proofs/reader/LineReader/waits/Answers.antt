use Rattle.line_reader.proofs.ReaderFacts.{waits_is}
use Rattle.line_reader.proofs.reader.LineReader.waits.Goals as goal

pub returns : goal.returns
returns c = rw c.is_some.ensures (waits_is c.args.self.now c.next_place.result.start c.next_place.result.number c.next_place.result.len c.next_place.ensures.skipped c.next_place.ensures.some c.next_place.ensures.none)
