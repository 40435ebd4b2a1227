-- A command's report, of what was judged or checked.
use Rattle.std.proofs.Common.{◌≡◌, ◌<◌, ◌⊎◌, ℕ, List, Option, Some, Result, Ok, Err, IfOk, IsErrOf, inl, inr, refl, sym, ◌∙◌, ap, subst, arith}
use Rattle.std.specs.Io.KnownBytes.{IsAtEnd}
use Rattle.context_intake.specs.Taking.{IsReadBefore, ReadsSetupAndLog}
use Rattle.context_intake.specs.declared.refusal.Refusal.{Refusal}
use Rattle.context_intake.specs.declared.refusal.Refusal.TheVariants.{BrokenSetup, MalformedLog, PastLimit}
use Rattle.context_intake.specs.declared.stop.Stop.{Stop}
use Rattle.context_intake.specs.declared.stop.Stop.TheVariants.{OutOfMemory, ReadFault}
use Rattle.context_intake.proofs.ReadingFacts.{taken_upto}
use Rattle.history_query.specs.declared.question.Question.{Question}
use Rattle.log_verdict.specs.Answering.{IsHistory}
use Rattle.command_words.specs.Command.{Ask, Judge, Make, Strict, Tells, Verify}
use Rattle.log_verdict.specs.Answers.{Answer, history_answer, judged_answer, refusal_answer, report_answer, status_number, strictly_answer, verified_answer}
use Rattle.log_verdict.specs.Endings.{IsBrokenStatus, IsVerdictStatus}
use Rattle.log_verdict.specs.Judging.{IsJudged}
use Rattle.kubepast.specs.Program.{IsAnswerTo, IsRefusalStatus}
use Rattle.kubepast.specs.Reported.{HasBrokenStatus, HasVerdictStatus, IsReported, PrintsPlacement}
use Rattle.log_verdict.specs.Strictly.{IsStrictlyJudged}
use Rattle.log_verdict.specs.Taking.{IsReadToAnswer, IsReadToJudge, IsReadToSettle, IsReadToVerify, ReadsSetupLogAndPlacement}
use Rattle.log_verdict.specs.Verifying.{IsVerified, most_placement}
use Rattle.log_verdict.specs.declared.asking.Answered.{Answered}
use Rattle.log_verdict.specs.declared.asking.Answered.TheVariants as answered
use Rattle.log_verdict.specs.declared.judged.JudgedLog.{JudgedLog}
use Rattle.log_verdict.specs.declared.judged.JudgedLog.TheVariants.{Refused, Verdict}
use Rattle.log_verdict.specs.declared.report.Report.{Report}
use Rattle.log_verdict.specs.declared.report.Status.{Status}
use Rattle.log_verdict.specs.declared.report.Status.TheVariants.{Explained, Unexplained, SetupRefused, LogRefused, LimitPassed}
use Rattle.log_verdict.specs.declared.strictly.StrictlyJudged.{StrictlyJudged}
use Rattle.log_verdict.specs.declared.strictly.StrictlyJudged.TheVariants.{Plain, Settled}
use Rattle.log_verdict.specs.declared.verified.Verified.{Verified}
use Rattle.log_verdict.specs.declared.verified.Verified.TheVariants as verified
use Rattle.log_verdict.proofs.RefusedFacts.{refused_apart, refused_read}
use Rattle.log_verdict.proofs.VerifyingFacts.{whole_from}

-- what is found is passed on as its answer, or memory wants
abbrev pub IsPassed : {X : Type 0} → (X → Answer) → Result X Stop → Result Report Stop → Type 0
IsPassed answer_of (Ok found) (Ok report) = report_answer report ≡ answer_of found
IsPassed answer_of (Ok found) (Err stop) = stop ≡ OutOfMemory
IsPassed answer_of (Err stop) result = result ≡ Err stop

pub passed_stop : {X : Type 0} (answer_of : X → Answer) (inner : Result X Stop) (stop : Stop) (result : Result Report Stop) → inner ≡ Err stop → result ≡ Err stop → IsPassed answer_of inner result
passed_stop answer_of inner stop result was is = subst (λ r. IsPassed answer_of r result) (sym was) is

pub passed_want : {X : Type 0} (answer_of : X → Answer) (inner : Result X Stop) (found : X) (result : Result Report Stop) → inner ≡ Ok found → result ≡ Err OutOfMemory → IsPassed answer_of inner result
passed_want answer_of inner found result was is = subst (λ r. IsPassed answer_of r result) (sym was) (subst (IsPassed answer_of (Ok found)) (sym is) refl)

pub passed_report : {X : Type 0} (answer_of : X → Answer) (inner : Result X Stop) (found : X) (report : Report) → inner ≡ Ok found → report_answer report ≡ answer_of found → IsPassed answer_of inner (Ok report)
passed_report answer_of inner found report was is = subst (λ r. IsPassed answer_of r (Ok report)) (sym was) is

-- what is made of it keeps its promise
pub of_made : {E : Type 0} (P : Report → Type 0) (made : Result Report E) (report : Report) → made ≡ Ok report → IfOk made P → P report
of_made P made report is holds = subst (λ r. IfOk r P) is holds

abbrev err : Stop → Result Report Stop
err stop = Err stop

pub failed_read : {X : Type 0} (answer_of : X → Answer) (inner : Result X Stop) (result : Result Report Stop) → IsPassed answer_of inner result → IsErrOf result ReadFault → IsErrOf inner ReadFault
failed_read answer_of (Ok found) (Ok report) passed is = absurd (let fault : Ok report ≡ Err ReadFault = is in cc)
failed_read answer_of (Ok found) (Err stop) passed is =
    let same : err stop ≡ err ReadFault = is in
    let fault : stop ≡ ReadFault = cc in
    let apart : OutOfMemory ≡ ReadFault = sym passed ∙ fault in
    absurd cc
failed_read answer_of (Err stop) result passed is =
    let same : err stop ≡ err ReadFault = sym passed ∙ is in
    let fault : stop ≡ ReadFault = cc in
    ap Err fault

-- what holds of all that is found holds of its report
pub of_report : {X : Type 0} (answer_of : X → Answer) (inner : Result X Stop) (result : Result Report Stop) (P : X → Type 0) (Q : Report → Type 0) → IsPassed answer_of inner result → IfOk inner P
    → ((found : X) (report : Report) → report_answer report ≡ answer_of found → P found → Q report) → IfOk result Q
of_report answer_of (Ok found) (Ok report) P Q passed holds gives = gives found report passed holds
of_report answer_of (Ok found) (Err stop) P Q passed holds gives = tt
of_report answer_of (Err stop) result P Q passed holds gives = subst (λ r. IfOk r Q) (sym passed) tt

-- a refusal has another status than a verdict, and where a rule is broken the setup was read to its end
no_verdict : (refusal : Refusal) (report : Report) → report_answer report ≡ refusal_answer refusal → HasVerdictStatus report → ⊥
no_verdict refusal report told verdict = refused_apart refusal (subst (λ (a : Answer). IsVerdictStatus a.status) told verdict)

broken_setup : (refusal : Refusal) (report : Report) (setup log : Option (List ℕ)) → report_answer report ≡ refusal_answer refusal → IsReadBefore refusal setup log → HasBrokenStatus report → IsAtEnd setup
broken_setup refusal report setup log told read broken = refused_read refusal setup log read (subst (λ (a : Answer). IsBrokenStatus a.status) told broken)

-- a placement that is too long is no verdict
another_status : (status : ℕ) → 1 < status → IsVerdictStatus status → ⊥
another_status status more (inl is) = omega (arith, more, is)
another_status status more (inr is) = omega (arith, more, is)

-- what was read to its end before a report
module _ (setup log : Option (List ℕ)) where
  judged_whole : (judged : JudgedLog) (report : Report) → report_answer report ≡ judged_answer judged → IsReadToJudge judged setup log → HasVerdictStatus report → IsAtEnd setup × IsAtEnd log
  judged_whole (Refused refusal) report told read verdict = absurd (no_verdict refusal report told verdict)
  judged_whole (Verdict outcome) report told read verdict = read

  judged_setup : (judged : JudgedLog) (report : Report) → report_answer report ≡ judged_answer judged → IsReadToJudge judged setup log → HasBrokenStatus report → IsAtEnd setup
  judged_setup (Refused refusal) report told read broken = broken_setup refusal report setup log told read broken
  judged_setup (Verdict outcome) report told read broken = read.0

  strictly_whole : (found : StrictlyJudged) (report : Report) → report_answer report ≡ strictly_answer found → IsReadToSettle found setup log → HasVerdictStatus report → IsAtEnd setup × IsAtEnd log
  strictly_whole (Plain judged) report told read verdict = judged_whole judged report told read verdict
  strictly_whole (Settled outcome answer) report told read verdict = read

  strictly_setup : (found : StrictlyJudged) (report : Report) → report_answer report ≡ strictly_answer found → IsReadToSettle found setup log → HasBrokenStatus report → IsAtEnd setup
  strictly_setup (Plain judged) report told read broken = judged_setup judged report told read broken
  strictly_setup (Settled outcome answer) report told read broken = read.0

  history_whole : (found : Answered) (report : Report) → report_answer report ≡ history_answer found → IsReadToAnswer found setup log → HasVerdictStatus report → IsAtEnd setup × IsAtEnd log
  history_whole (answered.Refused refusal) report told read verdict = absurd (no_verdict refusal report told verdict)
  history_whole (answered.History text) report told read verdict = read

  history_setup : (found : Answered) (report : Report) → report_answer report ≡ history_answer found → IsReadToAnswer found setup log → HasBrokenStatus report → IsAtEnd setup
  history_setup (answered.Refused refusal) report told read broken = broken_setup refusal report setup log told read broken
  history_setup (answered.History text) report told read broken = read.0

  verified_whole : (old now : Option (List ℕ)) (found : Verified) (report : Report) → report_answer report ≡ verified_answer found → IsReadToVerify found setup log old now → HasVerdictStatus report
      → IsAtEnd setup × IsAtEnd log × IsAtEnd now
  verified_whole old now (verified.Refused refusal) report told read verdict = absurd (no_verdict refusal report told verdict)
  verified_whole old now verified.TooLong report told read verdict = absurd (another_status 7 (omega arith) (subst (λ (a : Answer). IsVerdictStatus a.status) told verdict))
  verified_whole old now (verified.Misspelt line) report told read verdict = read
  verified_whole old now (verified.Judged checked) report told read verdict = read

  verified_setup : (old now : Option (List ℕ)) (found : Verified) (report : Report) → report_answer report ≡ verified_answer found → IsReadToVerify found setup log old now → HasBrokenStatus report → IsAtEnd setup
  verified_setup old now (verified.Refused refusal) report told read broken = broken_setup refusal report setup log told read.0 broken
  verified_setup old now verified.TooLong report told read broken = read.0
  verified_setup old now (verified.Misspelt line) report told read broken = read.0
  verified_setup old now (verified.Judged checked) report told read broken = read.0

  verified_text : (old now : Option (List ℕ)) (found : Verified) (report : Report) → report_answer report ≡ verified_answer found → IsReadToVerify found setup log old now → status_number report.status ≡ 4
      → (now ≡ old) ⊎ IsAtEnd now
  verified_text old now (verified.Refused refusal) report told read is = inl read.1
  verified_text old now verified.TooLong report told read is = absurd (let seven = ap (λ (a : Answer). a.status) told in omega (arith, seven, is))
  verified_text old now (verified.Misspelt line) report told read is = inr read.2
  verified_text old now (verified.Judged checked) report told read is = inr read.2

-- the status of a report is one of its command
verdict_or_refusal : (status : Status) → IsVerdictStatus (status_number status) ⊎ IsRefusalStatus (status_number status)
verdict_or_refusal Explained = inl (inl refl)
verdict_or_refusal Unexplained = inl (inr refl)
verdict_or_refusal SetupRefused = inr (inl (inl refl))
verdict_or_refusal LogRefused = inr (inl (inr refl))
verdict_or_refusal LimitPassed = inr (inr refl)

has_status : (result : Result Report Stop) → IfOk result (λ report. IsVerdictStatus (status_number report.status) ⊎ IsRefusalStatus (status_number report.status))
has_status (Ok report) = verdict_or_refusal report.status
has_status (Err stop) = tt

abbrev IsAskStatus : ℕ → Type 0
IsAskStatus status = (status ≡ 0) ⊎ IsRefusalStatus status

refusal_status : (refusal : Refusal) (report : Report) → report_answer report ≡ refusal_answer refusal → IsRefusalStatus (status_number report.status)
refusal_status (BrokenSetup rule) report told = inl (inl (ap (λ (a : Answer). a.status) told))
refusal_status (MalformedLog line code) report told = inl (inr (ap (λ (a : Answer). a.status) told))
refusal_status (PastLimit limit) report told = inr (ap (λ (a : Answer). a.status) told)

history_status : (found : Answered) (report : Report) → report_answer report ≡ history_answer found → IsAskStatus (status_number report.status)
history_status (answered.Refused refusal) report told = inr (refusal_status refusal report told)
history_status (answered.History text) report told = inl (ap (λ (a : Answer). a.status) told)

-- of another command nothing is said here
unprinted : (result : Result Report Stop) → IfOk result (λ report. Unit {0})
unprinted (Ok report) = tt
unprinted (Err stop) = tt

module _ (old now : List ℕ → Option (List ℕ)) (untouched : Type 0) (before after : ℕ) (setup log : List ℕ) (result : Result Report Stop) where
  pub judge_reported : (inner : Result JudgedLog Stop) → IsPassed judged_answer inner result
      → IfOk inner (λ judged. (s l : List ℕ) → old setup ≡ Some s → old log ≡ Some l → IsJudged s l judged)
      → IfOk inner (λ judged. IsReadToJudge judged (now setup) (now log))
      → ReadsSetupAndLog setup log old now before after (IsErrOf inner ReadFault) (IsErrOf inner ReadFault) → IfOk result (PrintsPlacement (Judge setup log))
      → IsReported (Judge setup log) old now untouched before after result
  judge_reported inner passed is ends reads printed = record {
    answered = of_report judged_answer inner result _ (λ report. (files : List ℕ → List ℕ) → Tells (Judge setup log) old files → IsAnswerTo (Some (Judge setup log)) files (report_answer report)) passed is
        (λ judged report told judges files tells. (judged, judges (files setup) (files log) (tells setup (inl refl)) (tells log (inr refl)), told));
    status = has_status result;
    fault = λ failed. reads.fault (failed_read judged_answer inner result passed failed);
    taken = record {
      whole = of_report judged_answer inner result _ (λ report. HasVerdictStatus report → IsAtEnd (now setup) × IsAtEnd (now log)) passed ends
          (judged_whole (now setup) (now log));
      setup_whole = of_report judged_answer inner result _ (λ report. HasBrokenStatus report → IsAtEnd (now setup)) passed ends (judged_setup (now setup) (now log));
      taken = taken_upto setup log old now now (IsErrOf inner ReadFault) (IsErrOf result ReadFault) refl refl (failed_read judged_answer inner result passed) reads.taken;
    };
    others = λ name unread. reads.others name (λ e. unread (inl e)) (λ e. unread (inr e));
    printed = printed;
  }

  pub strictly_reported : (inner : Result StrictlyJudged Stop) → IsPassed strictly_answer inner result
      → IfOk inner (λ found. (s l : List ℕ) → old setup ≡ Some s → old log ≡ Some l → IsStrictlyJudged s l found)
      → IfOk inner (λ found. IsReadToSettle found (now setup) (now log))
      → ReadsSetupAndLog setup log old now before after (IsErrOf inner ReadFault) (IsErrOf inner ReadFault)
      → IsReported (Strict setup log) old now untouched before after result
  strictly_reported inner passed is ends reads = record {
    answered = of_report strictly_answer inner result _ (λ report. (files : List ℕ → List ℕ) → Tells (Strict setup log) old files → IsAnswerTo (Some (Strict setup log)) files (report_answer report)) passed is
        (λ found report told judges files tells. (found, judges (files setup) (files log) (tells setup (inl refl)) (tells log (inr refl)), told));
    status = has_status result;
    fault = λ failed. reads.fault (failed_read strictly_answer inner result passed failed);
    taken = record {
      whole = of_report strictly_answer inner result _ (λ report. HasVerdictStatus report → IsAtEnd (now setup) × IsAtEnd (now log)) passed ends
          (strictly_whole (now setup) (now log));
      setup_whole = of_report strictly_answer inner result _ (λ report. HasBrokenStatus report → IsAtEnd (now setup)) passed ends (strictly_setup (now setup) (now log));
      taken = taken_upto setup log old now now (IsErrOf inner ReadFault) (IsErrOf result ReadFault) refl refl (failed_read strictly_answer inner result passed) reads.taken;
    };
    others = λ name unread. reads.others name (λ e. unread (inl e)) (λ e. unread (inr e));
    printed = unprinted result;
  }

  pub verify_reported : (placement : List ℕ) (inner : Result Verified Stop) → IsPassed verified_answer inner result
      → IfOk inner (λ found. (s l p : List ℕ) → old setup ≡ Some s → old log ≡ Some l → old placement ≡ Some p → IsVerified s l p found)
      → IfOk inner (λ found. IsReadToVerify found (now setup) (now log) (old placement) (now placement))
      → ReadsSetupLogAndPlacement setup log placement old now before after (IsErrOf inner ReadFault)
      → IsReported (Verify setup log placement) old now untouched before after result
  verify_reported placement inner passed is ends reads = record {
    answered = of_report verified_answer inner result _ (λ report. (files : List ℕ → List ℕ) → Tells (Verify setup log placement) old files → IsAnswerTo (Some (Verify setup log placement)) files (report_answer report)) passed is
        (λ found report told judges files tells. (found, judges (files setup) (files log) (files placement) (tells setup (inl refl)) (tells log (inr (inl refl))) (tells placement (inr (inr refl))), told));
    status = has_status result;
    fault = λ failed. reads.fault (failed_read verified_answer inner result passed failed);
    taken = (
      record {
        whole = of_report verified_answer inner result _ (λ report. HasVerdictStatus report → IsAtEnd (now setup) × IsAtEnd (now log)) passed ends
            (λ found report told read verdict. let all = verified_whole (now setup) (now log) (old placement) (now placement) found report told read verdict in (all.0, all.1));
        setup_whole = of_report verified_answer inner result _ (λ report. HasBrokenStatus report → IsAtEnd (now setup)) passed ends (verified_setup (now setup) (now log) (old placement) (now placement));
        taken = taken_upto setup log old now now (IsErrOf inner ReadFault) (IsErrOf result ReadFault) refl refl (failed_read verified_answer inner result passed) reads.taken;
      },
      record {
        whole = of_report verified_answer inner result _ (λ report. HasVerdictStatus report → IsAtEnd (now placement)) passed ends
            (λ found report told read verdict. let all = verified_whole (now setup) (now log) (old placement) (now placement) found report told read verdict in all.2);
        misspelt = of_report verified_answer inner result _ (λ report. status_number report.status ≡ 4 → (now placement ≡ old placement) ⊎ IsAtEnd (now placement)) passed ends
            (verified_text (now setup) (now log) (old placement) (now placement));
        taken = whole_from most_placement (old placement) (old placement) (now placement) (IsErrOf inner ReadFault) (IsErrOf result ReadFault) refl (failed_read verified_answer inner result passed) reads.placement_taken;
        left = reads.placement_left;
        after = reads.placement_after;
      },
    );
    others = λ name unread. reads.others name (λ e. unread (inl e)) (λ e. unread (inr (inl e))) (λ e. unread (inr (inr e)));
    printed = unprinted result;
  }

  pub ask_reported : (question : Question) (inner : Result Answered Stop) → IsPassed history_answer inner result
      → IfOk inner (λ found. (s l : List ℕ) → old setup ≡ Some s → old log ≡ Some l → IsHistory s l question found)
      → IfOk inner (λ found. IsReadToAnswer found (now setup) (now log))
      → ReadsSetupAndLog setup log old now before after (IsErrOf inner ReadFault) (IsErrOf inner ReadFault)
      → IsReported (Ask setup log question) old now untouched before after result
  ask_reported question inner passed is ends reads = record {
    answered = of_report history_answer inner result _ (λ report. (files : List ℕ → List ℕ) → Tells (Ask setup log question) old files → IsAnswerTo (Some (Ask setup log question)) files (report_answer report)) passed is
        (λ found report told answers files tells. (found, answers (files setup) (files log) (tells setup (inl refl)) (tells log (inr refl)), told));
    status = of_report history_answer inner result _ (λ report. IsAskStatus (status_number report.status)) passed ends (λ found report told read. history_status found report told);
    fault = λ failed. reads.fault (failed_read history_answer inner result passed failed);
    taken = record {
      whole = of_report history_answer inner result _ (λ report. HasVerdictStatus report → IsAtEnd (now setup) × IsAtEnd (now log)) passed ends
          (history_whole (now setup) (now log));
      setup_whole = of_report history_answer inner result _ (λ report. HasBrokenStatus report → IsAtEnd (now setup)) passed ends (history_setup (now setup) (now log));
      taken = taken_upto setup log old now now (IsErrOf inner ReadFault) (IsErrOf result ReadFault) refl refl (failed_read history_answer inner result passed) reads.taken;
    };
    others = λ name unread. reads.others name (λ e. unread (inl e)) (λ e. unread (inr e));
    printed = unprinted result;
  }

pub make_reported : (old now : List ℕ → Option (List ℕ)) (untouched : Type 0) (before after number events : ℕ) (result : Result Report Stop) → untouched → ((name : List ℕ) → now name ≡ old name)
    → IfOk result (λ report. (files : List ℕ → List ℕ) → IsAnswerTo (Some (Make number events)) files (report_answer report)) → (IsErrOf result ReadFault → ⊥)
    → IsReported (Make number events) old now untouched before after result
make_reported old now untouched before after number events (Ok report) same left answered no_fault = record {
  answered = λ files tells. answered files;
  status = verdict_or_refusal report.status;
  fault = λ is. absurd (no_fault is);
  taken = same;
  others = λ name unread. left name;
  printed = tt;
}
make_reported old now untouched before after number events (Err stop) same left answered no_fault = record {
  answered = tt;
  status = tt;
  fault = λ is. absurd (no_fault is);
  taken = same;
  others = λ name unread. left name;
  printed = tt;
}
