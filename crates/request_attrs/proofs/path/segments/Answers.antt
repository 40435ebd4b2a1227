use Rattle.std.proofs.Common.{◌<◌, length, sym, ap, ◌∙◌, lit<, arith}
use Rattle.std.proofs.lemmas.Grind.{common_steps}
use Rattle.std.proofs.lemmas.Iterator.Consumers.{map_from_collect}
use Rattle.std.proofs.lemmas.Iterator.Splits.{YieldsList-from_str_split}
use Rattle.request_attrs.specs.Paths.{split_at_slashes, without_trailing}
use Rattle.request_attrs.proofs.PathLemmas.{split_some}
use Rattle.request_attrs.proofs.path.segments.Goals as goal

pub returns : goal.returns
returns c =
    let inner = c.trim_back-inner.result.now in
    let some : 0 < length inner = grind (arith, common_steps) in
    let pieces = map_from_collect _ c.collect.ensures.ran (YieldsList-from_str_split 47 inner (lit< tt) c.split.ensures.text c.split.ensures.has_more c.split.ensures.pattern) in
    let trimmed = c.trim_back-inner.ensures ∙ ap without_trailing c.trim_front.ensures in
    (rw c.in_ok-collect.was at pieces) ∙ sym (split_some inner some) ∙ ap split_at_slashes trimmed
