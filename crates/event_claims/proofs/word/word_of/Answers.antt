use Rattle.std.proofs.Common.{sym, subst}
use Rattle.history_model.specs.Words.{answer_word}
use Rattle.write_groups.specs.Modelled.{event_of, answer_of}
use Rattle.event_claims.specs.Words.{IsSaid}
use Rattle.event_claims.proofs.word.word_of.Goals as goal

pub returns-in-Made : goal.returns-in-Made
returns-in-Made c = λ h s p. subst (λ a. IsSaid h (answer_word h c.args.number (event_of c.args.event.now) (answer_of a)) c.write_word.result) (sym c.in-Made.is)
    (c.write_word.ensures h (event_of c.args.event.now) c.in-Made.created s p)

pub returns-in-Removed : goal.returns-in-Removed
returns-in-Removed c = λ h s p. subst (λ a. IsSaid h (answer_word h c.args.number (event_of c.args.event.now) (answer_of a)) c.removal_word.result) (sym c.in-Removed.is)
    (c.removal_word.ensures h p)
