use Rattle.event_claims.proofs.Wording.{no_removal, removal_at}
use Rattle.event_claims.proofs.word.removal_word.Goals as goal

pub returns-in-Some : goal.returns-in-Some
returns-in-Some c = λ h p. removal_at c.args.past.now h p c.args.number c.in-Some.position c.in-Some.ensures.removal c.in-Some.ensures.within

pub returns-in-None : goal.returns-in-None
returns-in-None c = λ h p. no_removal c.args.past.now h p c.args.number c.in-None.ensures.removal
