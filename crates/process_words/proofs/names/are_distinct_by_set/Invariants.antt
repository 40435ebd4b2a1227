use Rattle.std.proofs.Common.{map, string_bytes, drop, Global}
use Rattle.process_words.proofs.NameFacts.{AreHeld}
use Rattle.process_words.proofs.names.are_distinct_by_set.Given as goal

abbrev pub invariant-loop-at : goal.invariant-loop-at
invariant-loop-at l = AreHeld l.behind (map (string_bytes {Z = Global}) (drop l.at l.names))
