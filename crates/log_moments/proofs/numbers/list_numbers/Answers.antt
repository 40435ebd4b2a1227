use Rattle.std.proofs.Common.{◌≤◌, ap, ◌∙◌, subst, sym, arith}
use Rattle.write_groups.specs.Modelled.{reading_of}
use Rattle.log_moments.proofs.Counting.{greatest_behind}
use Rattle.log_moments.specs.Things.{greatest_for}
use Rattle.log_moments.proofs.numbers.list_numbers.Goals as goal

pub returns-clause-shown : goal.returns-clause-shown
returns-clause-shown c = record {
  least = c.gap_number-gap.ensures.gap;
  greatest = c.greatest_for.ensures ∙ ap (greatest_for (reading_of c.args.event.now.reading)) c.gap_number-gap.ensures.gap;
}

pub returns-clause-order : goal.returns-clause-order
returns-clause-order c =
    subst (λ n. c.gap_number-gap.result ≤ n) (sym c.greatest_for.ensures)
    (greatest_behind (reading_of c.args.event.now.reading) c.gap_number-gap.result c.gap_number-gap.result (omega arith) c.gap_number-gap.ensures.before_end)
