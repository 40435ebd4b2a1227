use Rattle.std.proofs.Common.{◌≡◌, rules}
use Rattle.std.proofs.lemmas.Fn.{always_returns_same}
use Rattle.serial_machine.specs.declared.rows.Row.{Row}
use Rattle.serial_machine.proofs.rows.sorted.Goals as goal

pub returns-clause-sorted : goal.returns-clause-sorted
returns-clause-sorted c = c.in_ok-sort_by_key.ensures.sorted (λ (row : Row). row.turn) (always_returns_same _ (λ a r. r ≡ a.0.now.turn) _ (λ a r q k. search rules))
