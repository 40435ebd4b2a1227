use Rattle.event_claims.proofs.decided.decided_of.Goals as goal

pub returns-in-Some-places_of : goal.returns-in-Some-places_of
returns-in-Some-places_of g c = λ h v known. (c.in-Some.is, c.in-Some-places_of.ensures.some h v known)

pub returns-in-None : goal.returns-in-None
returns-in-None g c = λ h v known. (c.in-Some.decision, c.in-Some.is, c.in-None.ensures.none h v known)
