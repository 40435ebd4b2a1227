use Rattle.std.proofs.Common.{refl}
use Rattle.history_model.proofs.OutcomeLaw.{fits_is, breaks_is}
use Rattle.history_model.proofs.explaining.outcome_law.Goals as goal

pub returns-clause-explained : goal.returns-clause-explained
returns-clause-explained c = λ h claims choice lines r exact l p. record { choice = choice; least = fits_is h claims r exact choice l; placed = p }

pub returns-clause-unexplained : goal.returns-clause-unexplained
returns-clause-unexplained c = λ h claims number event reason writes r exact known b w. record { event = event; earliest = breaks_is h claims r exact number event reason known b; from = refl; to = refl; written = w }
