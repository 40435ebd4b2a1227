use Rattle.std.proofs.Common.{◌-◌, ◌≤◌, length, drop, take}
use Rattle.line_reader.specs.Search.{Skips, HasNoNewline}
use Rattle.line_reader.proofs.search.find_line.Given as goal

abbrev pub invariant-lines : goal.invariant-lines
invariant-lines l = Skips l.bytes l.fn.number l.start l.number × (l.start ≤ l.from) × (l.from ≤ length l.bytes) × HasNoNewline (take (l.from - l.start) (drop l.start l.bytes))

abbrev pub decreases-lines : goal.decreases-lines
decreases-lines l = length l.bytes - l.start
