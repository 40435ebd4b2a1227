-- What a command comes to, of what was found for it.
use Rattle.std.proofs.Common.{◌≡◌, ◌≢◌, ℕ, zero, ◌∷◌, Bool, Contains, map, List, Option, Some, Result, Ok, Err, IfOk, IsErrOf, ◌⊎◌, codes, inl, inr, refl, sym, ap, subst, arith}
use Rattle.std.specs.Io.KnownBytes.{IsAtEnd}
use Rattle.cluster_setup.specs.Answering.{AnswersMade}
use Rattle.cluster_setup.proofs.TakingFacts.{files_where}
use Rattle.cluster_setup.specs.Gathering.{AreAtEnd, TakesFiles, TellsAll}
use Rattle.cluster_setup.specs.declared.answering.MadeText.{MadeText}
use Rattle.cluster_setup.specs.declared.answering.MadeText.TheVariants as made
use Rattle.context_intake.proofs.ReadingFacts.{taken_upto}
use Rattle.context_intake.specs.Taking.{ReadsSetupAndLog}
use Rattle.context_intake.specs.declared.stop.Stop.{Stop}
use Rattle.context_intake.specs.declared.stop.Stop.TheVariants.{OutOfMemory, ReadFault}
use Rattle.edge_io.specs.Faults.{Rose}
use Rattle.edge_io.specs.Whole.{TakesWhole}
use Rattle.edge_io.specs.declared.whole.WholeStop.{WholeStop}
use Rattle.edge_io.specs.declared.whole.WholeStop.TheVariants as whole
use Rattle.log_sift.proofs.NamedFacts.{taken_where}
use Rattle.log_sift.specs.Named.{AnswersSift, most_log, shown_text}
use Rattle.log_sift.specs.declared.named.SiftText.{SiftText}
use Rattle.log_verdict.specs.Answers.{Answer, answer, report_answer as verdict_answer}
use Rattle.log_verdict.specs.Endings.{IsBrokenStatus, IsVerdictStatus}
use Rattle.log_verdict.specs.declared.report.Report.{Report as Verdict}
use Rattle.verdict_text.specs.Words.{ended}
use Rattle.companion.specs.Picturing.{HasBrokenRule, HasPage, IsPictured}
use Rattle.companion_words.specs.Command.{Asked, Picture, Reads, Setup, Sift, Tells}
use Rattle.companion.specs.Making.{IsSetupAnswer}
use Rattle.companion.specs.Program.{IsAnswerTo, IsStatusOf}
use Rattle.companion.specs.Reported.{HasStretchesWithin, IsReported, Takes, TellsStop, made_answer, report_answer, status_number}
use Rattle.companion.specs.Running.{ReadsAll}
use Rattle.companion.specs.Sifted.{IsSiftAnswer}
use Rattle.companion.specs.declared.report.CommandReport.{CommandReport}
use Rattle.companion.specs.declared.report.ExitStatus.{ExitStatus}
use Rattle.companion.specs.declared.report.ExitStatus.TheVariants.{Done, Unexplained, SetupRefused, LogRefused, LimitPassed}

-- want of memory is no fault
never_fault : (found : Result CommandReport Stop) → found ≡ Err OutOfMemory → IsErrOf found ReadFault → ⊥
never_fault found is faulty = let apart : found ≡ Err ReadFault = faulty in cc

never_both : (report : CommandReport) → ◌≡◌ {A = Result CommandReport Stop} (Ok report) (Err ReadFault) → ⊥
never_both report same = cc

abbrev ok : CommandReport → Result CommandReport Stop
ok report = Ok report

abbrev err : Stop → Result CommandReport Stop
err stop = Err stop

never_memory : (report : CommandReport) → ◌≡◌ {A = Result CommandReport Stop} (Ok report) (Err OutOfMemory) → ⊥
never_memory report same = cc

told_status : (report : CommandReport) (status : ℕ) (text : List ℕ) → report_answer report ≡ answer status text → status_number report.status ≡ status
told_status report status text told = ap (λ (a : Answer). a.status) told

-- a read fault is told where there was one
fault_told : (limit : List ℕ) (stop : WholeStop) (shown : Result CommandReport Stop) → TellsStop stop limit shown → IsErrOf shown ReadFault → stop ≡ whole.ReadFault
fault_told limit whole.TooLong (Ok report) tells is = absurd (never_both report is)
fault_told limit whole.TooLong (Err other) tells is = absurd tells
fault_told limit whole.ReadFault shown tells is = refl
fault_told limit whole.OutOfMemory shown tells is = absurd (never_fault shown tells is)

stop_told : {A : Type 0} (limit : List ℕ) (stop : WholeStop) (shown : Result CommandReport Stop) → TellsStop stop limit shown → IsErrOf shown ReadFault
    → ◌≡◌ {A = Result A WholeStop} (Err stop) (Err whole.ReadFault)
stop_told limit stop shown tells is = ap (λ (s : WholeStop). Err s) (fault_told limit stop shown tells is)

-- the status of a page, or of a refusal
picture_status : (status : ExitStatus) → IsVerdictStatus (status_number status) ⊎ IsBrokenStatus (status_number status) ⊎ (status_number status ≡ 7)
picture_status Done = inl (inl refl)
picture_status Unexplained = inl (inr refl)
picture_status SetupRefused = inr (inl (inl refl))
picture_status LogRefused = inr (inl (inr refl))
picture_status LimitPassed = inr (inr refl)

-- a limit is told by another status than what was read as a whole
no_sifting : (status : ℕ) → status ≡ 7 → status ≡ 0 → ⊥
no_sifting status limited done = omega (arith, limited, done)

no_making : (status : ℕ) → status ≡ 7 → (status ≡ 0) ⊎ (status ≡ 3) → ⊥
no_making status limited (inl done) = omega (arith, limited, done)
no_making status limited (inr done) = omega (arith, limited, done)

-- each of two names that were read to their ends
one_of_two : (now : List ℕ → Option (List ℕ)) (setup log name : List ℕ) → IsAtEnd (now setup) × IsAtEnd (now log) → (name ≡ setup) ⊎ (name ≡ log) → IsAtEnd (now name)
one_of_two now setup log name ends (inl is) = subst (λ n. IsAtEnd (now n)) (sym is) ends.0
one_of_two now setup log name ends (inr is) = subst (λ n. IsAtEnd (now n)) (sym is) ends.1

-- a name that wasn't read to its end
module _ (old now : List ℕ → Option (List ℕ)) (untouched : Type 0) (faults_before faults_now : ℕ) (asked : Asked) (limit : List ℕ) where
  stop_shown : (stop : WholeStop) (shown : Result CommandReport Stop) → TellsStop stop limit shown
      → (stop ≡ whole.TooLong → (files : List ℕ → List ℕ) → Tells asked old files → IsAnswerTo (Some asked) files (answer 7 limit)) → ((status : ℕ) → status ≡ 7 → IsStatusOf asked status)
      → ((status : ℕ) → status ≡ 7 → ReadsAll asked status → ⊥)
      → (stop ≡ whole.ReadFault → Rose faults_before faults_now) → Takes asked old now shown → (((name : List ℕ) → Reads asked name → ⊥) → untouched)
      → ((name : List ℕ) → (Reads asked name → ⊥) → now name ≡ old name) → IsReported asked old now untouched faults_before faults_now shown
  stop_shown whole.TooLong (Ok report) tells long limited apart fault taken left others = record {
    answered = λ files told. subst (IsAnswerTo (Some asked) files) (sym tells.0) (long refl files told);
    status = limited (status_number report.status) (told_status report 7 limit tells.0);
    within = tells.1;
    fault = λ no. absurd (never_both report no);
    taken = taken;
    ends = λ all. absurd (apart (status_number report.status) (told_status report 7 limit tells.0) all);
    left = left;
    others = others;
  }
  stop_shown whole.TooLong (Err other) tells long limited apart fault taken left others = absurd tells
  stop_shown whole.ReadFault (Ok report) tells long limited apart fault taken left others = absurd (never_both report tells)
  stop_shown whole.ReadFault (Err other) tells long limited apart fault taken left others = record {
    answered = tt;
    status = tt;
    within = tt;
    fault = λ _. fault refl;
    taken = taken;
    ends = tt;
    left = left;
    others = others;
  }
  stop_shown whole.OutOfMemory (Ok report) tells long limited apart fault taken left others = absurd (never_memory report tells)
  stop_shown whole.OutOfMemory (Err other) tells long limited apart fault taken left others = record {
    answered = tt;
    status = tt;
    within = tt;
    fault = λ no. absurd (never_fault (Err other) tells no);
    taken = taken;
    ends = tt;
    left = left;
    others = others;
  }

-- what a log comes to, line by line
module _ (old now : List ℕ → Option (List ℕ)) (untouched : Type 0) (faults_before faults_now : ℕ) (left : Bool) (log : List ℕ) where
  sift_answer : (bytes : List ℕ) (text : SiftText) → AnswersSift left bytes (Ok text) → IsSiftAnswer left bytes (answer 0 (shown_text text))
  sift_answer bytes text is = inr (is.0, (is.1.0, is.1.1, is.1.2, ap (answer 0) is.1.3))

  pub sift_reported : (text : SiftText) (report : CommandReport) → report_answer report ≡ answer 0 (shown_text text) → HasStretchesWithin report.body
      → ((bytes : List ℕ) → old log ≡ Some bytes → AnswersSift left bytes (Ok text)) → IsAtEnd (now log)
      → TakesWhole most_log (old log) (now log) (◌≡◌ {A = Result SiftText WholeStop} (Ok text) (Err whole.ReadFault)) → ((other : List ℕ) → other ≢ log → now other ≡ old other)
      → IsReported (Sift left log) old now untouched faults_before faults_now (Ok report)
  sift_reported text report same within right end taken others = record {
    answered = λ files tells. subst (IsSiftAnswer left (files log)) (sym same) (sift_answer (files log) text (right (files log) (tells log refl)));
    status = inl (told_status report 0 (shown_text text) same);
    within = within;
    fault = λ no. absurd (never_both report no);
    taken = taken_where most_log (old log) (now log) _ (IsErrOf (ok report) ReadFault) (λ no. absurd (never_both report no)) taken;
    ends = λ _ name is. subst (λ n. IsAtEnd (now n)) (sym is) end;
    left = λ none. absurd (none log refl);
    others = others;
  }

  pub sift_stopped : (stop : WholeStop) (shown : Result CommandReport Stop) → TellsStop stop (ended (codes "limit input")) shown
      → ((bytes : List ℕ) → old log ≡ Some bytes → AnswersSift left bytes (Err stop)) → (stop ≡ whole.ReadFault → Rose faults_before faults_now)
      → TakesWhole most_log (old log) (now log) (◌≡◌ {A = Result SiftText WholeStop} (Err stop) (Err whole.ReadFault))
      → ((other : List ℕ) → other ≢ log → now other ≡ old other) → IsReported (Sift left log) old now untouched faults_before faults_now shown
  sift_stopped stop shown tells right fault taken others =
      stop_shown old now untouched faults_before faults_now (Sift left log) (ended (codes "limit input")) stop shown tells
      (λ is files told. inl (subst (λ (s : WholeStop). AnswersSift left (files log) (Err s)) is (right (files log) (told log refl)), refl))
      (λ status is. inr is) no_sifting fault (taken_where most_log (old log) (now log) _ (IsErrOf shown ReadFault) (stop_told (ended (codes "limit input")) stop shown tells) taken)
      (λ none. absurd (none log refl)) others

-- the setup of a policy and files
module _ (old now : List ℕ → Option (List ℕ)) (untouched : Type 0) (faults_before faults_now : ℕ) (authorize : Bool) (time policy : List ℕ) (names : List (List ℕ)) where
  setup_answer : (of_policy : List ℕ) (of_files : List (List ℕ)) (found : MadeText) → AnswersMade authorize time of_policy names of_files (Ok found)
      → IsSetupAnswer authorize time of_policy names of_files (made_answer found)
  setup_answer of_policy of_files (made.Setup line) is = inr (is.0, inl (line, is.1.0, is.1.1, refl))
  setup_answer of_policy of_files (made.Refused line) is = inr (is.0, inr (is.1.0, is.1.1, ap (answer 3) is.1.2))

  setup_status : (found : MadeText) (report : CommandReport) → report_answer report ≡ made_answer found → IsStatusOf (Setup authorize time policy names) (status_number report.status)
  setup_status (made.Setup line) report told = inl (told_status report 0 line told)
  setup_status (made.Refused line) report told = inr (inl (told_status report 3 line told))

  untold : ((name : List ℕ) → Contains (policy ∷ names) name → ⊥) → untouched
  untold none = absurd (none policy (zero, omega arith, refl))

  pub setup_reported : (found : MadeText) (report : CommandReport) → report_answer report ≡ made_answer found → HasStretchesWithin report.body
      → ((told : List ℕ → List ℕ) → TellsAll (policy ∷ names) old told → AnswersMade authorize time (told policy) names (map told names) (Ok found))
      → AreAtEnd (policy ∷ names) now → TakesFiles (policy ∷ names) old now (◌≡◌ {A = Result MadeText WholeStop} (Ok found) (Err whole.ReadFault)) → ((other : List ℕ) → (Contains (policy ∷ names) other → ⊥) → now other ≡ old other)
      → IsReported (Setup authorize time policy names) old now untouched faults_before faults_now (Ok report)
  setup_reported found report same within right end taken others = record {
    answered = λ files tells.
        subst (IsSetupAnswer authorize time (files policy) names (map files names)) (sym same) (setup_answer (files policy) (map files names) found (right files tells));
    status = setup_status found report same;
    within = within;
    fault = λ no. absurd (never_both report no);
    taken = files_where (policy ∷ names) old now _ (IsErrOf (ok report) ReadFault) (λ no. absurd (never_both report no)) taken;
    ends = λ _. end;
    left = untold;
    others = others;
  }

  pub setup_stopped : (stop : WholeStop) (shown : Result CommandReport Stop) → TellsStop stop (ended (codes "limit file")) shown
      → ((told : List ℕ → List ℕ) → TellsAll (policy ∷ names) old told → AnswersMade authorize time (told policy) names (map told names) (Err stop))
      → (stop ≡ whole.ReadFault → Rose faults_before faults_now) → TakesFiles (policy ∷ names) old now (◌≡◌ {A = Result MadeText WholeStop} (Err stop) (Err whole.ReadFault))
      → ((other : List ℕ) → (Contains (policy ∷ names) other → ⊥) → now other ≡ old other)
      → IsReported (Setup authorize time policy names) old now untouched faults_before faults_now shown
  setup_stopped stop shown tells right fault taken others =
      stop_shown old now untouched faults_before faults_now (Setup authorize time policy names) (ended (codes "limit file")) stop shown tells
      (λ is files told. inl (subst (λ (s : WholeStop). AnswersMade authorize time (files policy) names (map files names) (Err s)) is (right files told), refl))
      (λ status is. inr (inr is)) no_making fault (files_where (policy ∷ names) old now _ (IsErrOf shown ReadFault) (stop_told (ended (codes "limit file")) stop shown tells) taken) untold others

-- the page of a verdict, or why there is none
module _ (old now : List ℕ → Option (List ℕ)) (untouched : Type 0) (faults_before faults_now : ℕ) (setup log : List ℕ) where
  abbrev pub IsShown : Verdict → Type 0
  IsShown verdict = (of_setup of_log : List ℕ) → old setup ≡ Some of_setup → old log ≡ Some of_log → IsPictured of_setup of_log (verdict_answer verdict)

  of_page : (P : Verdict → Type 0) (found : Result Verdict Stop) (page : Verdict) → found ≡ Ok page → IfOk found P → P page
  of_page P found page is right = subst (λ (f : Result Verdict Stop). IfOk f P) is right

  page_whole : (found : Result Verdict Stop) (page : Verdict) (report : CommandReport) → found ≡ Ok page → report_answer report ≡ verdict_answer page
      → IfOk found (λ verdict. HasPage (verdict_answer verdict) → IsAtEnd (now setup) × IsAtEnd (now log)) → HasPage (report_answer report) → IsAtEnd (now setup) × IsAtEnd (now log)
  page_whole found page report is same whole shows =
      of_page (λ verdict. HasPage (verdict_answer verdict) → IsAtEnd (now setup) × IsAtEnd (now log)) found page is whole (subst HasPage same shows)

  pub page_reported : (found : Result Verdict Stop) (page : Verdict) (report : CommandReport) → found ≡ Ok page → report_answer report ≡ verdict_answer page → HasStretchesWithin report.body
      → IfOk found IsShown → IfOk found (λ verdict. HasPage (verdict_answer verdict) → IsAtEnd (now setup) × IsAtEnd (now log))
      → IfOk found (λ verdict. HasBrokenRule (verdict_answer verdict) → IsAtEnd (now setup))
      → ReadsSetupAndLog setup log old now faults_before faults_now (IsErrOf found ReadFault) (IsErrOf found ReadFault)
      → IsReported (Picture setup log) old now untouched faults_before faults_now (Ok report)
  page_reported found page report is same within right whole setup_whole reads = record {
    answered = λ files tells.
        subst (IsPictured (files setup) (files log)) (sym same) (of_page IsShown found page is right (files setup) (files log) (tells setup (inl refl)) (tells log (inr refl)));
    status = picture_status report.status;
    within = within;
    fault = λ no. absurd (never_both report no);
    taken = record {
      whole = page_whole found page report is same whole;
      setup_whole = λ broken. of_page (λ verdict. HasBrokenRule (verdict_answer verdict) → IsAtEnd (now setup)) found page is setup_whole (subst HasBrokenRule same broken);
      taken = taken_upto setup log old now now (IsErrOf found ReadFault) (IsErrOf (ok report) ReadFault) refl refl (λ no. absurd (never_both report no)) reads.taken;
    };
    ends = λ shows name reads. one_of_two now setup log name (page_whole found page report is same whole shows) reads;
    left = λ none. absurd (none setup (inl refl));
    others = λ name none. reads.others name (λ is. none (inl is)) (λ is. none (inr is));
  }

  pub stop_reported : (found : Result Verdict Stop) (stop : Stop) → found ≡ Err stop → ReadsSetupAndLog setup log old now faults_before faults_now (IsErrOf found ReadFault) (IsErrOf found ReadFault)
      → IsReported (Picture setup log) old now untouched faults_before faults_now (Err stop)
  stop_reported found ReadFault is reads = record {
    answered = tt;
    status = tt;
    within = tt;
    fault = λ _. reads.fault is;
    taken = record {
      whole = tt;
      setup_whole = tt;
      taken = taken_upto setup log old now now (IsErrOf found ReadFault) (IsErrOf (err ReadFault) ReadFault) refl refl (λ _. is) reads.taken;
    };
    ends = tt;
    left = λ none. absurd (none setup (inl refl));
    others = λ name none. reads.others name (λ is. none (inl is)) (λ is. none (inr is));
  }
  stop_reported found OutOfMemory is reads = record {
    answered = tt;
    status = tt;
    within = tt;
    fault = λ no. absurd (never_fault (Err OutOfMemory) refl no);
    taken = record {
      whole = tt;
      setup_whole = tt;
      taken = taken_upto setup log old now now (IsErrOf found ReadFault) (IsErrOf (err OutOfMemory) ReadFault) refl refl (λ no. absurd (never_fault (Err OutOfMemory) refl no)) reads.taken;
    };
    ends = tt;
    left = λ none. absurd (none setup (inl refl));
    others = λ name none. reads.others name (λ is. none (inl is)) (λ is. none (inr is));
  }
