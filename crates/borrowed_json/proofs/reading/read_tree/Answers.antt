use Rattle.std.proofs.Common.{◌≡◌, ◌<◌, length, arith, rules}
use Rattle.json.specs.Lex.{tokens}
use Rattle.borrowed_json.proofs.Texts.{text_behind, text_opened}
use Rattle.borrowed_json.proofs.reading.read_tree.Goals as goal

pub returns-in-Err-OutOfMemory-clause-memory : goal.returns-in-Err-OutOfMemory-clause-memory
returns-in-Err-OutOfMemory-clause-memory c same = text_opened c.args.text.now (rw c.in-Ok.ensures.ok at (c.read.ensures.memory (search rules)))

pub returns-clause-some : goal.returns-clause-some
returns-clause-some c =
    let is : c.in-Ok.reader ≡ tokens c.args.text.now = c.in-Ok.ensures.ok in
    let read : length c.read.new.reader < length c.in-Ok.reader = c.in-Ok-read.ensures.shorter in
    text_behind c.args.text.now (omega (arith, rw is at read))
