use Rattle.std.proofs.Common.{◌≡◌, Some, lit<, ◌∙◌, sym, ap}
use Rattle.std.specs.List.{filter_map}
use Rattle.std.proofs.lemmas.Iterator.Splits.{YieldsList-from_str_split}
use Rattle.std.proofs.lemmas.Iterator.Consumers.{YieldsList-at, YieldsList-so_far, YieldsList-turn, YieldsList-end}
use Rattle.request_attrs.specs.Queries.{term_name, first_of}
use Rattle.request_attrs.proofs.QueryLemmas.{none_more, first_found}
use Rattle.request_attrs.proofs.query.name_in.Goals as goal

pub returns-in-Some-term_name : goal.returns-in-Some-term_name
returns-in-Some-term_name c =
    let road = YieldsList-at c.into_iter-term-iterator.ensures.into_iter_gives
    (YieldsList-from_str_split 44 c.args.selector.now (lit< tt) c.split-term-items.ensures.text c.split-term-items.ensures.has_more c.split-term-items.ensures.pattern) in
    let so_far = YieldsList-so_far road c.loop-term.yielded _ c.loop-term.yielded_by in
    let turn = YieldsList-turn road c.loop-term.yielded _ c.loop-term.yielded_by _ _ c.in-Some.term c.in-Some.is c.next.ensures.steps in
    let named : term_name c.in-Some.term.now ≡ Some c.in-Some-term_name.name.now = sym c.in-Some-term_name.ensures in
    sym (first_found _ _ c.in-Some.term.now c.in-Some-term_name.name.now (ap (filter_map term_name) (sym so_far) ∙ c.loop-term.invariant) turn.0 turn.1 named)

pub loop-term-preserved : goal.loop-term-preserved
loop-term-preserved c = none_more c.loop-term.yielded c.in-Some.term c.loop-term.invariant (sym c.in_default.ensures)

pub returns : goal.returns
returns c =
    let road = YieldsList-at c.into_iter-term-iterator.ensures.into_iter_gives
    (YieldsList-from_str_split 44 c.args.selector.now (lit< tt) c.split-term-items.ensures.text c.split-term-items.ensures.has_more c.split-term-items.ensures.pattern) in
    let whole = YieldsList-end road c.loop-term.yielded _ c.loop-term.yielded_by _ _ c.in-None.is c.next.ensures.steps in
    sym (ap (λ l. first_of (filter_map term_name l)) (sym whole.0) ∙ ap first_of c.loop-term.invariant)
