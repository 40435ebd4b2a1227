use Rattle.std.proofs.Common.{◌≡◌, filter, take}
use Rattle.std.specs.Prelude.{option_map}
use Rattle.answer_class.specs.Requests.{is_filled}
use Rattle.answer_class.proofs.Filled.{some_list}
use Rattle.answer_class.proofs.lists.one_at_most.Given as goal

abbrev pub invariant-loop-pair : goal.invariant-loop-pair
invariant-loop-pair l = filter (is_filled l.name) (take l.pair-index l.pairs) ≡ some_list (option_map (λ pair. pair.now) l.found)
