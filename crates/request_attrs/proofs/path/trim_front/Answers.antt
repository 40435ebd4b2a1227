use Rattle.std.proofs.Common.{sym, ◌∙◌, lit<}
use Rattle.std.proofs.lemmas.Str.Pattern.{strip_prefix_char}
use Rattle.request_attrs.proofs.PathLemmas.{without_leading_kept}
use Rattle.request_attrs.proofs.path.trim_front.Goals as goal

pub returns : goal.returns
returns c =
    let none = rw c.in_default.is at (strip_prefix_char 47 c.loop-shorter.rest.now c.strip_prefix.result c.strip_prefix.ensures.cases (lit< tt)) in
    sym (without_leading_kept c.loop-shorter.rest.now none) ∙ c.loop-shorter.invariant.1
