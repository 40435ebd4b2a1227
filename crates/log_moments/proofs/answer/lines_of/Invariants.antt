use Rattle.std.proofs.Common.{◌≡◌, length, take}
use Rattle.log_moments.specs.Answers.{lines_of}
use Rattle.log_moments.proofs.answer.lines_of.Given as goal

-- the lines so far
abbrev pub invariant-loop-thing : goal.invariant-loop-thing
invariant-loop-thing l = l.lines ≡ lines_of (take (length l.yielded) l.things) (take (length l.yielded) l.moments)
