use Rattle.object_past.proofs.Kept.{AreKeys-found}
use Rattle.object_past.proofs.past.Past.build.Goals as goal

pub invariant_of-result : goal.invariant_of-result
invariant_of-result c =
    let ranges = rw c.as_slice.ensures at c.in_ok-ranges.ensures in
    let endings = rw c.as_slice-2.ensures at c.in_ok-endings.ensures in
    let all = rw (c.as_slice-3.ensures, c.deref.ensures.value) at c.in_ok-by_key.ensures in
    let found = all c.args.removals endings c.requires.ends in
    record {
      rising = c.requires.rising;
      ends = c.requires.ends;
      ranges_of = ranges;
      few_removals = c.requires.few_removals;
      endings_of = endings;
      keys_of = AreKeys-found c.args.versions c.args.removals c.in_ok-by_key.by_key c.in_ok-keys.keys.items c.in_ok-keys.ensures.order c.in_ok-keys.ensures.exact found;
      found = found;
    }
