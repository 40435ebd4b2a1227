use Rattle.std.proofs.Common.{◌≡◌, ◌∙◌, map, rules}
use Rattle.std.specs.BTreeMap.{keys}
use Rattle.std.specs.Map.Iter.{deref}
use Rattle.std.proofs.lemmas.Map.Iter.{iter_end}
use Rattle.object_past.proofs.Kept.{AreInOrder-keys, Contains-listed}
use Rattle.object_past.proofs.filing.keys_of.Goals as goal

pub returns-clause-order : goal.returns-clause-order
returns-clause-order c =
    let all : map deref c.loop-key.yielded ≡ keys c.args.by_key.now = search (rules, iter_end) in
    AreInOrder-keys c.args.by_key.now c.loop-key.keys.items (c.loop-key.invariant ∙ all) c.keys-key-items.ensures.ordered

pub returns-clause-exact : goal.returns-clause-exact
returns-clause-exact c =
    let all : map deref c.loop-key.yielded ≡ keys c.args.by_key.now = search (rules, iter_end) in
    Contains-listed c.args.by_key.now c.loop-key.keys.items (c.loop-key.invariant ∙ all)
