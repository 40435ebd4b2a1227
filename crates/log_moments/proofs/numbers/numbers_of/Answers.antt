use Rattle.std.proofs.Common.{arith, subst}
use Rattle.history_model.specs.Words.{word}
use Rattle.log_moments.proofs.Counting.{numbers_by}
use Rattle.log_moments.specs.Things.{HasNumbers, ShowsVersion}
use Rattle.log_moments.specs.Views.{IsRevisionStanding}
use Rattle.write_groups.specs.Modelled.{event_of, item_of}
use Rattle.log_moments.proofs.numbers.numbers_of.Goals as goal

pub returns-in-Writes : goal.returns-in-Writes
returns-in-Writes c = λ h v.
    let e = event_of c.args.event.now in
    let standing = subst (IsRevisionStanding h e e.answer (word h c.args.number e)) c.in-Writes.is (c.standing_of.ensures h v.start v.past) in
    ((standing c.write_numbers.result).1 (c.write_numbers.ensures.least, c.write_numbers.ensures.greatest), omega (arith, c.write_numbers.ensures.least, c.write_numbers.ensures.greatest))

pub returns-in-Shows : goal.returns-in-Shows
returns-in-Shows c = λ h v.
    let e = event_of c.args.event.now in
    let standing = subst (IsRevisionStanding h e e.answer (word h c.args.number e)) c.in-Shows.is (c.standing_of.ensures h v.start v.past) in
    numbers_by (HasNumbers h e e.answer (word h c.args.number e)) (ShowsVersion h e (item_of c.in-Shows.item.now)) c.shown_numbers.result standing (c.shown_numbers.ensures h v)

pub returns-in-Lists : goal.returns-in-Lists
returns-in-Lists c = λ h v.
    let e = event_of c.args.event.now in
    let standing = subst (IsRevisionStanding h e e.answer (word h c.args.number e)) c.in-Lists.is (c.standing_of.ensures h v.start v.past) in
    ((standing c.list_numbers.result).1 c.list_numbers.ensures.shown, c.list_numbers.ensures.order)

pub returns-in-Nowhere : goal.returns-in-Nowhere
returns-in-Nowhere c = λ h v.
    let e = event_of c.args.event.now in
    subst (IsRevisionStanding h e e.answer (word h c.args.number e)) c.in-Nowhere.is (c.standing_of.ensures h v.start v.past)
