use Rattle.std.proofs.Common.{◌≡◌, drop, bytes_eq}
use Rattle.std.specs.List.{list_any}
use Rattle.setup_file.proofs.form.is_one_of.Given as goal

abbrev pub invariant-loop-known_name : goal.invariant-loop-known_name
invariant-loop-known_name l = list_any (λ known. bytes_eq l.name known.now) l.known ≡ list_any (λ known. bytes_eq l.name known.now) (drop l.known_name-index l.known)
