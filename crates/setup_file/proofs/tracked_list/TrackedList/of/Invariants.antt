use Rattle.setup_file.specs.Indexed.{AreIndexedFrom}
use Rattle.setup_file.proofs.tracked_list.TrackedList.of.Given as goal

abbrev pub invariant-loop-place : goal.invariant-loop-place
invariant-loop-place l = AreIndexedFrom l.place l.groups l.all.items
