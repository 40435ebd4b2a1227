use Rattle.std.proofs.Common.{◌<◌, refl}
use Rattle.log_context.specs.Histories.{history_of}
use Rattle.write_groups.proofs.Lists.{pairs_unmap}
use Rattle.write_groups.specs.Modelled.{event_of}
use Rattle.serial_machine.proofs.Entering.{event_there, line_of, no_line, no_words}
use Rattle.serial_machine.proofs.Telling.{untold}
use Rattle.serial_machine.proofs.entry.event_of_line.Goals as goal

pub number_at-requires-clause-rising : goal.number_at-requires-clause-rising
number_at-requires-clause-rising c = rw c.log.ensures.log (pairs_unmap event_of (λ a b. a.line < b.line) c.args.context.now.log c.log.ensures.readable.lines)

pub number_at-requires-clause-few : goal.number_at-requires-clause-few
number_at-requires-clause-few c = rw c.log.ensures.log c.log.ensures.few

pub returns-in_default-clause-none : goal.returns-in_default-clause-none
returns-in_default-clause-none c = λ number event line.
    let none = rw c.in_default.is at c.number_at.ensures.none in
    no_line (history_of c.args.context.now) c.args.context.now.log c.args.placed.now refl (rw c.log.ensures.log at none) number event line

pub returns-then-not-has_words-clause-none : goal.returns-then-not-has_words-clause-none
returns-then-not-has_words-clause-none c = λ other found line.
    let log = c.args.context.now.log in
    let within = rw c.in-Some.is at c.number_at.ensures.within in
    let some = rw c.in-Some.is at c.number_at.ensures.some in
    let there = event_there log c.in-Some.number (rw c.log.ensures.log at within) in
    let of = line_of log c.in-Some.number c.args.placed.now.line (rw c.log.ensures.log at some) there.0 there.1 in
    no_words (history_of c.args.context.now) c.args.placed.now c.in-Some.number there.0 c.log.ensures.readable there.1 of (untold c.has_words.result (c.has_words.ensures there.0 there.1) c.if-not-has_words.true) other found line

pub returns-clause-some : goal.returns-clause-some
returns-clause-some c = λ event known.
    let some = rw c.in-Some.is at c.number_at.ensures.some in
    record {
      known = known;
      of_line = line_of c.args.context.now.log c.in-Some.number c.args.placed.now.line (rw c.log.ensures.log at some) event known;
      words = (c.has_words.ensures event known).0 c.if-not-has_words.false;
    }
