use Rattle.std.proofs.Common.{◌≡◌, ◌++◌, List, length, ℕ}
use Rattle.verdict_text.specs.Reading.{BeginsBy}
use Rattle.verdict_text.proofs.reading.read_placement.Given as goal

abbrev pub invariant-loop-line : goal.invariant-loop-line
invariant-loop-line l = record {
  before : List ℕ;
  parts : l.bytes ≡ before ++ l.rest;
  begun : BeginsBy before l.count l.placement;
}

abbrev pub decreases-loop-line : goal.decreases-loop-line
decreases-loop-line l = length l.rest
