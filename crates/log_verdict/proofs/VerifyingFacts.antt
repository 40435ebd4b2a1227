-- What a placement comes to, of what a setup and a log tell.
use Rattle.std.proofs.Common.{◌≡◌, ◌≢◌, ℕ, inl, inr, List, Option, Result, Ok, IfOk, refl, sym, subst}
use Rattle.std.proofs.lemmas.Result.{IfOk-weaker}
use Rattle.std.specs.Io.KnownBytes.{IsAtEnd}
use Rattle.edge_io.specs.Whole.{TakesWhole}
use Rattle.context_intake.specs.Contexts.{IsOfContext, IsRefused, IsToldBy, RefusesNothing}
use Rattle.context_intake.specs.Taking.{IsReadFor, ReadsSetupAndLog}
use Rattle.context_intake.specs.declared.stop.Stop.{Stop}
use Rattle.context_intake.specs.declared.refusal.Refusal.{Refusal}
use Rattle.context_intake.specs.declared.told.Intake.{Intake}
use Rattle.context_intake.specs.declared.told.Intake.TheVariants as told
use Rattle.context_intake.proofs.OneContextFacts.{one_way}
use Rattle.context_intake.proofs.ReadingFacts.{whole_untouched}
use Rattle.log_context.specs.Known.{Known}
use Rattle.log_verdict.specs.Taking.{IsReadToVerify, IsTextRead, ReadsSetupLogAndPlacement}
use Rattle.log_verdict.specs.Verifying.{IsOfText, IsReadLast, IsVerified, IsVerifiedFrom, most_placement}
use Rattle.log_verdict.specs.declared.verified.Verified.{Verified}
use Rattle.log_verdict.specs.declared.verified.Verified.TheVariants.{Refused, TooLong, Misspelt, Judged}

pub verified_told : (setup log placement : List ℕ) (found : Intake) (verified : Verified) → IsToldBy setup log found → IsVerifiedFrom found placement verified → IsVerified setup log placement verified
verified_told setup log placement (told.Refused refusal) verified is from = subst (IsVerified setup log placement) (sym from) is
verified_told setup log placement (told.Context known) (Refused refusal) is from = absurd from
verified_told setup log placement (told.Context known) TooLong is from = (known, is, from)
verified_told setup log placement (told.Context known) (Misspelt line) is from = (known, is, from)
verified_told setup log placement (told.Context known) (Judged checked) is from = (known, is, from)

-- where something is refused there is no context
pub refused_told : (setup log : List ℕ) (refusal : Refusal) (found : Intake) → IsRefused setup log refusal → IsToldBy setup log found → IsOfContext found → ⊥
refused_told setup log refusal (told.Refused other) refused is context = context
refused_told setup log refusal (told.Context known) refused is context = one_way setup log refusal known refused is

-- a text that was read to its end
pub text_read : (verified : Verified) (placement : Option (List ℕ)) → IsOfText verified → IsAtEnd placement → IsTextRead verified placement
text_read (Refused refusal) placement of_text ended = of_text
text_read TooLong placement of_text ended = tt
text_read (Misspelt line) placement of_text ended = ended
text_read (Judged checked) placement of_text ended = ended

-- what was read to its end before a placement is checked: setup and log, and then the placement
behind_context : (verified : Verified) (known : Known) (setup log old now : Option (List ℕ)) → IsTextRead verified now → IsReadFor (told.Context known) setup log → IsReadToVerify verified setup log old now
behind_context (Refused refusal) known setup log old now text read = absurd text
behind_context TooLong known setup log old now text read = read
behind_context (Misspelt line) known setup log old now text read = (read.0, read.1, text)
behind_context (Judged checked) known setup log old now text read = (read.0, read.1, text)

pub placement_read : (result : Result Verified Stop) (known : Known) (old now : Option (List ℕ)) → IfOk result (λ verified. IsTextRead verified now)
    → IfOk result (λ verified. (setup log : Option (List ℕ)) → IsReadFor (told.Context known) setup log → IsReadToVerify verified setup log old now)
placement_read result known old now text =
    IfOk-weaker result (λ verified. IsTextRead verified now) (λ verified. (setup log : Option (List ℕ)) → IsReadFor (told.Context known) setup log → IsReadToVerify verified setup log old now)
    (λ verified is setup log. behind_context verified known setup log old now is) text

-- the names as they were when the call ended
pub read_to_verify : (verified : Verified) (setup log old now of_setup of_log of_placement : Option (List ℕ)) → of_setup ≡ setup → of_log ≡ log → old ≡ of_placement → IsReadToVerify verified setup log old now → IsReadToVerify verified of_setup of_log of_placement now
read_to_verify verified setup log old now of_setup of_log of_placement same_setup same_log same_placement read =
    subst (λ s. IsReadToVerify verified s of_log of_placement now) (sym same_setup) (subst (λ l. IsReadToVerify verified setup l of_placement now) (sym same_log)
    (subst (λ p. IsReadToVerify verified setup log p now) same_placement read))

-- a placement is read behind a context alone
pub read_last : (found : Intake) (setup log old now : Option (List ℕ)) → ((IsOfContext found → ⊥) → now ≡ old) → ((known : Known) → found ≡ told.Context known → IsAtEnd setup × IsAtEnd log) → IsReadLast setup log old now
read_last (told.Refused refusal) setup log old now left ends = inl (left (λ none. none))
read_last (told.Context known) setup log old now left ends = inr (ends known refl)

-- what was taken of a name, by all reads
pub whole_from : (most : ℕ) (old middle now : Option (List ℕ)) (fine fine' : Type 0) → middle ≡ old → (fine' → fine) → TakesWhole most middle now fine → TakesWhole most old now fine'
whole_from most old middle now fine fine' same weaker t = subst (λ o. TakesWhole most o now fine') same (record {
  front = t.front;
  piece = t.piece;
  taken = t.taken;
  within = t.within;
  short = t.short;
  blameless = λ is. t.blameless (weaker is);
})

-- a context refuses nothing
pub context_nothing : (result : Result Intake Stop) (found : Intake) → result ≡ Ok found → IsOfContext found → RefusesNothing result
context_nothing result (told.Refused refusal) same context = absurd context
context_nothing result (told.Context known) same context = subst RefusesNothing (sym same) tt

-- the placement wasn't read
pub placement_unread : {setup log : List ℕ} {old now : List ℕ → Option (List ℕ)} {faults_before faults_now : ℕ} {read_fault : Type 0} (placement : List ℕ) → placement ≢ setup → placement ≢ log
    → ReadsSetupAndLog setup log old now faults_before faults_now read_fault read_fault → ReadsSetupLogAndPlacement setup log placement old now faults_before faults_now read_fault
placement_unread {old = old} {now = now} {read_fault = read_fault} placement not_setup not_log reads =
    let untouched : now placement ≡ old placement = reads.others placement not_setup not_log in
    record {
      fault = reads.fault;
      counted = reads.counted;
      taken = reads.taken;
      placement_taken = whole_untouched most_placement (old placement) (now placement) read_fault untouched;
      placement_left = λ of_setup of_log refusal told_setup told_log refused. untouched;
      placement_after = inl untouched;
      others = λ other other_setup other_log other_placement. reads.others other other_setup other_log;
    }
