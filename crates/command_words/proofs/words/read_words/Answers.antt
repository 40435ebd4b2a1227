use Rattle.std.proofs.Common.{map, string_bytes, Global}
use Rattle.command_words.proofs.QuestionFacts.{read_of_asked}
use Rattle.command_words.proofs.words.read_words.Goals as goal

pub returns-in-None-clause-read : goal.returns-in-None-clause-read
returns-in-None-clause-read c = read_of_asked (map (string_bytes {Z = Global}) c.args.words.now) c.read_asked.result c.in-None.ensures c.read_asked.ensures.read
