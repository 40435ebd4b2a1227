-- What the status of a refusal tells.
use Rattle.std.proofs.Common.{ℕ, inl, inr, List, Option, arith}
use Rattle.std.specs.Io.KnownBytes.{IsAtEnd}
use Rattle.context_intake.specs.Taking.{IsReadBefore}
use Rattle.context_intake.specs.declared.refusal.Refusal.{Refusal}
use Rattle.context_intake.specs.declared.refusal.Refusal.TheVariants.{BrokenSetup, MalformedLog, PastLimit}
use Rattle.log_verdict.specs.Answers.{refusal_answer}
use Rattle.log_verdict.specs.Endings.{IsBrokenStatus, IsVerdictStatus}

-- a refusal has another status than a verdict
pub refused_apart : (refusal : Refusal) → IsVerdictStatus (refusal_answer refusal).status → ⊥
refused_apart (BrokenSetup rule) (inl is) = omega (arith, is)
refused_apart (BrokenSetup rule) (inr is) = omega (arith, is)
refused_apart (MalformedLog line code) (inl is) = omega (arith, is)
refused_apart (MalformedLog line code) (inr is) = omega (arith, is)
refused_apart (PastLimit limit) (inl is) = omega (arith, is)
refused_apart (PastLimit limit) (inr is) = omega (arith, is)

-- a rule is said to be broken behind the end of the setup
pub refused_read : (refusal : Refusal) (setup log : Option (List ℕ)) → IsReadBefore refusal setup log → IsBrokenStatus (refusal_answer refusal).status → IsAtEnd setup
refused_read (BrokenSetup rule) setup log read is = read
refused_read (MalformedLog line code) setup log read is = read
refused_read (PastLimit limit) setup log read (inl is) = absurd (omega (arith, is))
refused_read (PastLimit limit) setup log read (inr is) = absurd (omega (arith, is))
