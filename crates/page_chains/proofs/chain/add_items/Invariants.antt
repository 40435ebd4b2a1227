use Rattle.std.proofs.Common.{◌≡◌, ◌++◌, take}
use Rattle.page_chains.proofs.chain.add_items.Given as goal

abbrev pub invariant-loop-object : goal.invariant-loop-object
invariant-loop-object l = l.items ≡ l.initial.items ++ take l.object-index l.page.items
