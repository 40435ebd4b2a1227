use Rattle.std.proofs.Common.{map, string_bytes, Global}
use Rattle.code_guide.proofs.CodeFacts.{explained_begins, explained_limit, explained_some, explained_whole}
use Rattle.code_guide.proofs.explaining.explain.Goals as goal

pub returns-clause-some : goal.returns-clause-some
returns-clause-some c = explained_some (λ text. text.now) (map (string_bytes {Z = Global}) c.args.words.now) c.find_text.result c.find_text.ensures

pub returns-clause-begins : goal.returns-clause-begins
returns-clause-begins c = explained_begins (λ text. text.now) (map (string_bytes {Z = Global}) c.args.words.now) c.find_text.result c.find_text.ensures

pub returns-clause-whole : goal.returns-clause-whole
returns-clause-whole c = explained_whole (λ text. text.now) (map (string_bytes {Z = Global}) c.args.words.now) c.find_text.result c.find_text.ensures

pub returns-clause-limit : goal.returns-clause-limit
returns-clause-limit c = explained_limit (λ text. text.now) (map (string_bytes {Z = Global}) c.args.words.now) c.find_text.result c.find_text.ensures
