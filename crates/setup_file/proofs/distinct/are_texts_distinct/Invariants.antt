use Rattle.std.proofs.Common.{◌≡◌, drop}
use Rattle.std.specs.Prelude.{map, bytes_eq}
use Rattle.setup_file.specs.Distinct.{are_distinct}
use Rattle.setup_file.proofs.Seen.{are_new, seen_in}
use Rattle.setup_file.proofs.distinct.are_texts_distinct.Given as goal

abbrev pub invariant-loop-text : goal.invariant-loop-text
invariant-loop-text l = are_distinct bytes_eq (map (λ text. text.now) l.texts)
    ≡ are_new bytes_eq (seen_in bytes_eq (λ text. text.now) l.seen.keys) (map (λ text. text.now) (drop l.text-index l.texts))
