use Rattle.std.proofs.Common.{◌≡◌, drop}
use Rattle.std.specs.Option.{ForSome}
use Rattle.json_patch.specs.Changes.{IsWithin}
use Rattle.json_patch.specs.Patches.{applied}
use Rattle.json_patch.proofs.applying.apply_all.Given as goal

abbrev pub invariant-loop-index : goal.invariant-loop-index
invariant-loop-index l = record {
  applied : applied 0 l.ops l.initial.made ≡ applied l.index (drop l.index l.ops) l.made;
  known : ForSome l.known (IsWithin l.made);
}
