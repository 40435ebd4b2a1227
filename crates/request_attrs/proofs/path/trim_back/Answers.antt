use Rattle.std.proofs.Common.{sym, ◌∙◌, lit<}
use Rattle.std.proofs.lemmas.Str.Pattern.{strip_suffix_char}
use Rattle.request_attrs.proofs.PathLemmas.{without_trailing_kept}
use Rattle.request_attrs.proofs.path.trim_back.Goals as goal

pub returns : goal.returns
returns c =
    let none = rw c.in_default.is at (strip_suffix_char 47 c.loop-shorter.rest.now c.strip_suffix.result c.strip_suffix.ensures.cases (lit< tt)) in
    sym (without_trailing_kept c.loop-shorter.rest.now none) ∙ c.loop-shorter.invariant.1
