use Rattle.std.proofs.Common.{◌≡◌, ℕ, ◌+◌, ◌<◌, slice_index}
use Rattle.std.specs.Char.{IsAsciiHexdigit}
use Rattle.request_attrs.proofs.escapes.are_escapes_whole.Given as goal

abbrev pub invariant-loop-i : goal.invariant-loop-i
invariant-loop-i l = (k : ℕ) → k < l.i → slice_index l.path k ≡ 37 → IsAsciiHexdigit (slice_index l.path (k + 1)) × IsAsciiHexdigit (slice_index l.path (k + 2))
