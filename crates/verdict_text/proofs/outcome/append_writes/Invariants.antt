use Rattle.std.proofs.Common.{◌≡◌, ◌++◌, take, string_bytes}
use Rattle.verdict_text.specs.Outcome.{writes_text}
use Rattle.verdict_text.proofs.outcome.append_writes.Given as goal

abbrev pub invariant-loop-write : goal.invariant-loop-write
invariant-loop-write l = string_bytes l.text ≡ string_bytes l.initial.text ++ writes_text (take l.write-index l.writes)
