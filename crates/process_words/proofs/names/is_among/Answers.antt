use Rattle.std.proofs.Common.{bytes_eq, string_bytes, Global, String, sym, ◌∙◌, rules, tests}
use Rattle.std.proofs.lemmas.Iterator.{YieldsList-from_slice}
use Rattle.std.proofs.lemmas.Iterator.Search.{any_from_yields_List}
use Rattle.process_words.proofs.NameFacts.{list_any-map}
use Rattle.process_words.proofs.names.is_among.Goals as goal

pub returns : goal.returns
returns c =
    any_from_yields_List (λ (other : String Global). bytes_eq c.args.name.now (string_bytes other)) _ _ _ c.any.ensures.ran (YieldsList-from_slice c.args.names.now cc) (λ x b q k. search (rules, tests))
    ∙ sym (list_any-map (bytes_eq c.args.name.now) (string_bytes {Z = Global}) c.args.names.now)
