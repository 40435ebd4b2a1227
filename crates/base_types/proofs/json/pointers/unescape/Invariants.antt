use Rattle.std.proofs.Common.{◌≡◌, ◌++◌, length, string_bytes, option_map}
use Rattle.std.specs.Str.Iter.{chars_rest}
use Rattle.base_types.specs.Pointers.{unescaped}
use Rattle.base_types.proofs.json.pointers.unescape.Given as goal

abbrev pub invariant-loop-token : goal.invariant-loop-token
invariant-loop-token l = unescaped l.part ≡ option_map (λ rest. string_bytes l.token ++ rest) (unescaped (chars_rest l.rest))

abbrev pub decreases-loop-token : goal.decreases-loop-token
decreases-loop-token l = length (chars_rest l.rest)
