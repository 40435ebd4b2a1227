use Rattle.std.proofs.Common.{◌≡◌, ◌++◌, length, option_map}
use denote.Text.{Utf8}
use denote.Shadow.{shadow}
use Rattle.std.specs.List.{slice_split}
use Rattle.base_types.specs.Pointers.{is_slash, all_unescaped}
use Rattle.base_types.proofs.json.pointers.read_tokens.Given as goal

abbrev pub invariant-loop-part : goal.invariant-loop-part
invariant-loop-part l = shadow (Utf8 l.rest) × (all_unescaped (slice_split is_slash l.text) ≡ option_map (λ more. l.tokens.items ++ more) (all_unescaped (slice_split is_slash l.rest)))

abbrev pub decreases-loop-part : goal.decreases-loop-part
decreases-loop-part l = length l.rest
