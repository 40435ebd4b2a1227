use Rattle.std.proofs.Common.{refl, sym, ap, ◌∙◌, codes}
use Rattle.cluster_setup.specs.Files.{is_whole_name, word}
use Rattle.cluster_setup.proofs.SourceFacts.{entry_put, entry_skipped}
use Rattle.cluster_setup.proofs.sources.add_entry.Goals as goal

pub returns-then-not-is_whole_name : goal.returns-then-not-is_whole_name
returns-then-not-is_whole_name c = λ later behind held.
    entry_skipped c.args.entries.now c.args.document.now c.args.entry.now later behind
    (sym (ap is_whole_name c.word.ensures) ∙ sym c.is_whole_name.ensures ∙ c.if-not-is_whole_name.true) held

pub returns : goal.returns
returns c = λ later behind held.
    entry_put c.args.entries.now c.insert.new.self (c.word-2.result, c.word-3.result) _ c.args.document.now c.args.entry.now later behind
    (c.word-2.ensures ∙ ap (word (codes "groupVersion")) c.tree.ensures) c.word-3.ensures refl
    (sym (ap is_whole_name c.word.ensures) ∙ sym c.is_whole_name.ensures ∙ c.if-not-is_whole_name.false) c.in_ok-insert.ensures.updates held
