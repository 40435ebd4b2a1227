use Rattle.std.proofs.Common.{◌≡◌, map, string_bytes, drop, Global}
use Rattle.process_words.specs.Names.{are_distinct}
use Rattle.process_words.proofs.names.are_distinct_by_name.Given as goal

-- no name so far is equal to one behind it
abbrev pub invariant-loop-at : goal.invariant-loop-at
invariant-loop-at l = are_distinct (map (string_bytes {Z = Global}) (drop l.at l.names)) ≡ are_distinct (map (string_bytes {Z = Global}) l.names)
