use Rattle.std.proofs.Common.{◌≡◌, drop, length}
use Rattle.json_patch.specs.Reading.{ops_of}
use Rattle.json_patch.proofs.Listing.{and_these}
use Rattle.json_patch.proofs.reading.read_patch.Given as goal

abbrev pub invariant-loop-index : goal.invariant-loop-index
invariant-loop-index l = record {
  read : ops_of 0 l.list-inside.all.items ≡ and_these l.ops.items (ops_of l.index (drop l.index l.list-inside.all.items));
  count : length l.ops.items ≡ l.index;
}
