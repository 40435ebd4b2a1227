use Rattle.std.proofs.Common.{◌≡◌, drop}
use Rattle.std.specs.Prelude.{map}
use Rattle.setup_file.specs.Distinct.{are_distinct, key_eq}
use Rattle.setup_file.proofs.Seen.{are_new, seen_in}
use Rattle.setup_file.proofs.distinct.are_keys_distinct.Given as goal

abbrev pub invariant-loop-key : goal.invariant-loop-key
invariant-loop-key l = are_distinct key_eq (map (λ key. key.now) l.keys) ≡ are_new key_eq (seen_in key_eq (λ key. key.now) l.seen.keys) (map (λ key. key.now) (drop l.key-index l.keys))
