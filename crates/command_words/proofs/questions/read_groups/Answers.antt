use Rattle.std.proofs.Common.{◌∙◌, ap, lit<, if◌then◌else◌, Bool, List, [], ℕ}
use Rattle.std.specs.List.{slice_split}
use Rattle.std.proofs.lemmas.Iterator.Splits.{YieldsList-from_str_split}
use Rattle.std.proofs.lemmas.Iterator.Consumers.{YieldsList-at, YieldsList-end}
use Rattle.command_words.specs.Asking.{is_comma}
use Rattle.command_words.proofs.questions.read_groups.Goals as goal

pub returns : goal.returns
returns c =
    let road = YieldsList-at c.into_iter-group-iterator.ensures.into_iter_gives
    (YieldsList-from_str_split 44 c.args.word.now (lit< tt) c.split-group-items.ensures.text c.split-group-items.ensures.has_more c.split-group-items.ensures.pattern) in
    let whole = YieldsList-end road c.loop-group.yielded _ c.loop-group.yielded_by _ _ c.in-None.is c.next.ensures.steps in
    let choose : Bool → List (List ℕ) = λ none. if none then [] else slice_split is_comma c.args.word.now in
    c.loop-group.invariant ∙ whole.0 ∙ ap choose c.if-eq.ensures
