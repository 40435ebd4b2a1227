-- Answers that are passed on.
use Rattle.std.proofs.Common.{◌≡◌, ◌<◌, ℕ, Bool, List, ◌∷◌, Option, Some, None, Result, Ok, Err, IfOk, IsErrOf, inl, inr, refl, sym, ◌∙◌, subst, arith}
use Rattle.std.specs.Io.KnownBytes.{IsAtEnd, Keeps}
use Rattle.cluster_setup.proofs.TakingFacts.{files_where}
use Rattle.cluster_setup.specs.Gathering.{TakesFiles}
use Rattle.context_intake.proofs.ReadingFacts.{taken_upto}
use Rattle.context_intake.specs.declared.stop.Stop.{Stop}
use Rattle.context_intake.specs.declared.stop.Stop.TheVariants.{OutOfMemory, ReadFault}
use Rattle.edge_io.specs.Endings.{Ends}
use Rattle.edge_io.specs.Faults.{Rose}
use Rattle.edge_io.specs.Whole.{TakesWhole}
use Rattle.log_sift.proofs.NamedFacts.{taken_where}
use Rattle.log_sift.specs.Named.{most_log}
use Rattle.log_verdict.specs.Answers.{Answer}
use Rattle.log_verdict.specs.Endings.{IsAnswered, IsBrokenStatus, IsVerdictStatus, ReadsNames}
use Rattle.companion_words.specs.Command.{Asked, Explain, IsAsked, Picture, Reads, Setup, Sift, Spells, Tells, TellsWords}
use Rattle.companion.specs.Program.{IsAnswer, IsAnswerTo, IsOfTable, IsStatusOf, usage_answer}
use Rattle.companion.specs.Reported.{Concludes, IsReported, Takes, TakesNames, report_answer, status_number}
use Rattle.companion.specs.Running.{ReadsAll, ReadsDesk, StatusTells}
use Rattle.companion.specs.declared.report.CommandReport.{CommandReport}
use Rattle.companion.proofs.AskedFacts.{one_command}
use Rattle.companion.specs.declared.report.ExitStatus.{ExitStatus}
use Rattle.companion.specs.declared.report.ExitStatus.TheVariants.{Done, Unexplained, SetupRefused, LogRefused, LimitPassed}

-- a report has other statuses than these
apart_two : (status : ExitStatus) → status_number status ≡ 2 → ⊥
apart_two Done is = omega (arith, is)
apart_two Unexplained is = omega (arith, is)
apart_two SetupRefused is = omega (arith, is)
apart_two LogRefused is = omega (arith, is)
apart_two LimitPassed is = omega (arith, is)

apart_five : (status : ExitStatus) → status_number status ≡ 5 → ⊥
apart_five Done is = omega (arith, is)
apart_five Unexplained is = omega (arith, is)
apart_five SetupRefused is = omega (arith, is)
apart_five LogRefused is = omega (arith, is)
apart_five LimitPassed is = omega (arith, is)

apart_six : (status : ExitStatus) → status_number status ≡ 6 → ⊥
apart_six Done is = omega (arith, is)
apart_six Unexplained is = omega (arith, is)
apart_six SetupRefused is = omega (arith, is)
apart_six LogRefused is = omega (arith, is)
apart_six LimitPassed is = omega (arith, is)

apart_eight : (status : ExitStatus) → status_number status ≡ 8 → ⊥
apart_eight Done is = omega (arith, is)
apart_eight Unexplained is = omega (arith, is)
apart_eight SetupRefused is = omega (arith, is)
apart_eight LogRefused is = omega (arith, is)
apart_eight LimitPassed is = omega (arith, is)

-- a verdict, and that a rule is broken, are told by other statuses than faults and want of memory
above_verdict : (status : ℕ) → 1 < status → IsVerdictStatus status → ⊥
above_verdict status more (inl is) = omega (arith, more, is)
above_verdict status more (inr is) = omega (arith, more, is)

above_broken : (status : ℕ) → 4 < status → IsBrokenStatus status → ⊥
above_broken status more (inl is) = omega (arith, more, is)
above_broken status more (inr is) = omega (arith, more, is)

above_all : (asked : Asked) (status : ℕ) → 4 < status → ReadsAll asked status → ⊥
above_all (Explain text) status more all = all
above_all (Sift left log) status more all = omega (arith, more, all)
above_all (Setup authorize time policy files) status more (inl is) = omega (arith, more, is)
above_all (Setup authorize time policy files) status more (inr is) = omega (arith, more, is)
above_all (Picture setup log) status more all = above_verdict status (omega (arith, more)) all

-- a report is an answer of the table
of_table : (words : List (List ℕ)) (asked : Asked) (found : Result CommandReport Stop) → Spells asked words → IfOk found (λ report. IsStatusOf asked (status_number report.status)) → IfOk found (λ report. IsOfTable words (report_answer report))
of_table words asked (Ok report) spelled is = inr (asked, spelled, is)
of_table words asked (Err stop) spelled is = tt

module _ (faults_before faults_now : ℕ) (before now : Option (List ℕ)) (result : ℕ) where
  pub concluded_answer : (found : Result CommandReport Stop) (IsRight : Answer → Type 0) (desk_before desk_now : ℕ) → IfOk found (λ report. IsRight (report_answer report)) → (IsErrOf found ReadFault → Rose desk_before desk_now)
      → Concludes found faults_before faults_now before now result → IsAnswered IsRight desk_before desk_now faults_before faults_now before now result
  concluded_answer (Ok report) IsRight desk_before desk_now right rose ends = inl (report_answer report, right, ends)
  concluded_answer (Err ReadFault) IsRight desk_before desk_now right rose ends = inr (inl (rose refl, ends))
  concluded_answer (Err OutOfMemory) IsRight desk_before desk_now right rose ends = inr (inr ends)

  pub concluded_two : (found : Result CommandReport Stop) → Concludes found faults_before faults_now before now result → result ≡ 2 → ⊥
  concluded_two (Ok report) (inl (whole, rest)) is = apart_two report.status (sym whole ∙ is)
  concluded_two (Ok report) (inr (part, rose, rest)) is = omega (arith, part, is)
  concluded_two (Err ReadFault) (inl (whole, rest)) is = omega (arith, whole, is)
  concluded_two (Err ReadFault) (inr (part, rose, rest)) is = omega (arith, part, is)
  concluded_two (Err OutOfMemory) ends is = let memory = ends.0 in omega (arith, memory, is)

  pub concluded_five : (found : Result CommandReport Stop) → Concludes found faults_before faults_now before now result → result ≡ 5 → IsErrOf found ReadFault
  concluded_five (Ok report) (inl (whole, rest)) is = absurd (apart_five report.status (sym whole ∙ is))
  concluded_five (Ok report) (inr (part, rose, rest)) is = absurd (omega (arith, part, is))
  concluded_five (Err ReadFault) ends is = refl
  concluded_five (Err OutOfMemory) ends is = absurd (let memory = ends.0 in omega (arith, memory, is))

  pub concluded_six : (found : Result CommandReport Stop) → Concludes found faults_before faults_now before now result → result ≡ 6 → Rose faults_before faults_now
  concluded_six (Ok report) (inl (whole, rest)) is = absurd (apart_six report.status (sym whole ∙ is))
  concluded_six (Ok report) (inr (part, rose, rest)) is = rose
  concluded_six (Err ReadFault) (inl (whole, rest)) is = absurd (omega (arith, whole, is))
  concluded_six (Err ReadFault) (inr (part, rose, rest)) is = rose
  concluded_six (Err OutOfMemory) ends is = absurd (let memory = ends.0 in omega (arith, memory, is))

  pub concluded_eight : (found : Result CommandReport Stop) → Concludes found faults_before faults_now before now result → result ≡ 8 → Keeps before now
  concluded_eight (Ok report) (inl (whole, rest)) is = absurd (apart_eight report.status (sym whole ∙ is))
  concluded_eight (Ok report) (inr (part, rose, rest)) is = absurd (omega (arith, part, is))
  concluded_eight (Err ReadFault) (inl (whole, rest)) is = absurd (omega (arith, whole, is))
  concluded_eight (Err ReadFault) (inr (part, rose, rest)) is = absurd (omega (arith, part, is))
  concluded_eight (Err OutOfMemory) ends is = ends.1

  concluded_status : (found : Result CommandReport Stop) (IsOf : ℕ → Type 0) (Told : Type 0) → (IsOf 5 → ⊥) → (IsOf 6 → ⊥) → (IsOf 8 → ⊥) → IfOk found (λ report. IsOf (status_number report.status) → Told)
      → Concludes found faults_before faults_now before now result → IsOf result → Told
  concluded_status (Ok report) IsOf Told not_five not_six not_eight told (inl (whole, rest)) is = told (subst IsOf whole is)
  concluded_status (Ok report) IsOf Told not_five not_six not_eight told (inr (part, rose, rest)) is = absurd (not_six (subst IsOf part is))
  concluded_status (Err ReadFault) IsOf Told not_five not_six not_eight told (inl (whole, rest)) is = absurd (not_five (subst IsOf whole is))
  concluded_status (Err ReadFault) IsOf Told not_five not_six not_eight told (inr (part, rose, rest)) is = absurd (not_six (subst IsOf part is))
  concluded_status (Err OutOfMemory) IsOf Told not_five not_six not_eight told ends is = absurd (not_eight (subst IsOf ends.0 is))

  -- what was taken of a setup and a log, by how the call ended
  concluded_names : (found : Result CommandReport Stop) (setup log : List ℕ) (old left : List ℕ → Option (List ℕ)) → TakesNames setup log old left found
      → Concludes found faults_before faults_now before now result → ReadsNames old left result setup log
  concluded_names found setup log old left takes ends = record {
    whole = concluded_status found IsVerdictStatus (IsAtEnd (left setup) × IsAtEnd (left log)) (above_verdict 5 (omega arith)) (above_verdict 6 (omega arith)) (above_verdict 8 (omega arith)) takes.whole ends;
    setup_whole = concluded_status found IsBrokenStatus (IsAtEnd (left setup)) (above_broken 5 (omega arith)) (above_broken 6 (omega arith)) (above_broken 8 (omega arith)) takes.setup_whole ends;
    taken = taken_upto setup log old left left (IsErrOf found ReadFault) (result ≡ 5) refl refl (λ is. concluded_five found ends is) takes.taken;
  }

-- the names of a command, of whose report it is known with which status all were read to their ends
abbrev EndsNames : Asked → (List ℕ → Option (List ℕ)) → Result CommandReport Stop → Type 0
EndsNames asked left found = IfOk found (λ report. ReadsAll asked (status_number report.status) → (name : List ℕ) → Reads asked name → IsAtEnd (left name))

right_answer : (words : List (List ℕ)) (asked : Asked) (old : List ℕ → Option (List ℕ)) (files : List ℕ → List ℕ) (found : Result CommandReport Stop) → Spells asked words → TellsWords words old files
    → IfOk found (λ report. (files : List ℕ → List ℕ) → Tells asked old files → IsAnswerTo (Some asked) files (report_answer report)) → IfOk found (λ report. IsAnswer words files (report_answer report))
right_answer words asked old files (Ok report) spelled tells right = (Some asked, spelled, right files (tells asked spelled))
right_answer words asked old files (Err stop) spelled tells right = tt

-- a call whose words are a command: the words, what was found, and how the call ended
pub record HasRun (words : List (List ℕ)) (asked : Asked) (old now : List ℕ → Option (List ℕ)) (untouched : Type 0) (desk_before desk_now sink_before sink_now : ℕ) (before written : Option (List ℕ)) (result : ℕ) (found : Result CommandReport Stop) : Type 0 where
  pub spelled : Spells asked words
  pub reported : IsReported asked old now untouched desk_before desk_now found
  pub concluded : Concludes found sink_before sink_now before written result

-- what such a call comes to
module _ {words : List (List ℕ)} {asked : Asked} {old now : List ℕ → Option (List ℕ)} {untouched : Type 0} {desk_before desk_now sink_before sink_now : ℕ} {before written : Option (List ℕ)} {result : ℕ} {found : Result CommandReport Stop}
    (r : HasRun words asked old now untouched desk_before desk_now sink_before sink_now before written result found) where
  pub run_answer : (files : List ℕ → List ℕ) → TellsWords words old files → IsAnswered (IsAnswer words files) desk_before desk_now sink_before sink_now before written result
  run_answer files tells =
      concluded_answer sink_before sink_now before written result found (IsAnswer words files) desk_before desk_now (right_answer words asked old files found r.spelled tells r.reported.answered) r.reported.fault r.concluded

  pub run_table : IsAnswered (IsOfTable words) desk_before desk_now sink_before sink_now before written result
  run_table =
      concluded_answer sink_before sink_now before written result found (IsOfTable words) desk_before desk_now (of_table words asked found r.spelled r.reported.status) r.reported.fault r.concluded

  pub run_status : StatusTells words desk_before desk_now sink_before sink_now before written result
  run_status = record {
    usage = λ none. absurd (none asked r.spelled);
    usage_only = λ is. absurd (concluded_two sink_before sink_now before written result found r.concluded is);
    read_fault = λ is. r.reported.fault (concluded_five sink_before sink_now before written result found r.concluded is);
    write_fault = λ is. concluded_six sink_before sink_now before written result found r.concluded is;
    memory = λ is. concluded_eight sink_before sink_now before written result found r.concluded is;
  }

  takes_of : (other : Asked) → IsAsked words (Some other) → Takes other old now found
  takes_of other asks = subst (λ a. Takes a old now found) (one_command words asked other r.spelled asks) r.reported.taken

  read_failed : result ≡ 5 → IsErrOf found ReadFault
  read_failed is = concluded_five sink_before sink_now before written result found r.concluded is

  takes_log : (left : Bool) (log : List ℕ) → IsAsked words (Some (Sift left log)) → TakesWhole most_log (old log) (now log) (result ≡ 5)
  takes_log left log asks = taken_where most_log (old log) (now log) (IsErrOf found ReadFault) (result ≡ 5) read_failed (takes_of (Sift left log) asks)

  takes_given : (authorize : Bool) (time policy : List ℕ) (files : List (List ℕ)) → IsAsked words (Some (Setup authorize time policy files)) → TakesFiles (policy ∷ files) old now (result ≡ 5)
  takes_given authorize time policy files asks =
      files_where (policy ∷ files) old now (IsErrOf found ReadFault) (result ≡ 5) read_failed (takes_of (Setup authorize time policy files) asks)

  takes_names : (setup log : List ℕ) → IsAsked words (Some (Picture setup log)) → TakesNames setup log old now found
  takes_names setup log asks = takes_of (Picture setup log) asks

  ends_names : (other : Asked) → IsAsked words (Some other) → EndsNames other now found
  ends_names other asks = subst (λ a. EndsNames a now found) (one_command words asked other r.spelled asks) r.reported.ends

  names_end : (other : Asked) → IsAsked words (Some other) → ReadsAll other result → (name : List ℕ) → Reads other name → IsAtEnd (now name)
  names_end other asks all =
      concluded_status sink_before sink_now before written result found (ReadsAll other) ((name : List ℕ) → Reads other name → IsAtEnd (now name))
      (above_all other 5 (omega arith)) (above_all other 6 (omega arith)) (above_all other 8 (omega arith)) (ends_names other asks) r.concluded all

  pub run_read : ReadsDesk words old now untouched result
  run_read = record {
    names = λ setup log asks. concluded_names sink_before sink_now before written result found setup log old now (takes_names setup log asks) r.concluded;
    sifted = takes_log;
    given = takes_given;
    ends = λ other name asks reads all. names_end other asks all name reads;
    desk_left = λ none. r.reported.left (λ name reads. none name (asked, r.spelled, reads));
    others_left = λ name none. r.reported.others name (λ reads. none (asked, r.spelled, reads));
  }

-- how a call ends whose words are no command
module _ (faults_before faults_now : ℕ) (before now : Option (List ℕ)) (result : ℕ) (text : List ℕ) where
  two_no_five : Ends 2 text faults_before faults_now before now result → result ≡ 5 → ⊥
  two_no_five (inl (whole, rest)) is = omega (arith, whole, is)
  two_no_five (inr (part, rose, rest)) is = omega (arith, part, is)

  two_no_eight : Ends 2 text faults_before faults_now before now result → result ≡ 8 → ⊥
  two_no_eight (inl (whole, rest)) is = omega (arith, whole, is)
  two_no_eight (inr (part, rose, rest)) is = omega (arith, part, is)

  two_rose : Ends 2 text faults_before faults_now before now result → result ≡ 6 → Rose faults_before faults_now
  two_rose (inl (whole, rest)) is = absurd (omega (arith, whole, is))
  two_rose (inr (part, rose, rest)) is = rose

-- a call whose words are no command
module _ {words : List (List ℕ)} {desk_before desk_now sink_before sink_now : ℕ} {before now : Option (List ℕ)} {status : ℕ}
    (none : IsAsked words None) (ends : Ends 2 usage_answer.text sink_before sink_now before now status) where
  pub usage_status : StatusTells words desk_before desk_now sink_before sink_now before now status
  usage_status = record {
    usage = λ _. ends;
    usage_only = λ _. none;
    read_fault = λ is. absurd (two_no_five sink_before sink_now before now status usage_answer.text ends is);
    write_fault = λ is. two_rose sink_before sink_now before now status usage_answer.text ends is;
    memory = λ is. absurd (two_no_eight sink_before sink_now before now status usage_answer.text ends is);
  }

module _ {words : List (List ℕ)} {left : List ℕ → Option (List ℕ)} {untouched : Type 0} {status : ℕ} (same : untouched) (none : IsAsked words None) where
  pub usage_read : ReadsDesk words left left untouched status
  usage_read = record {
    names = λ setup log asks. absurd (none (Picture setup log) asks);
    sifted = λ left log asks. absurd (none (Sift left log) asks);
    given = λ authorize time policy files asks. absurd (none (Setup authorize time policy files) asks);
    ends = λ asked name asks reads all. absurd (none asked asks);
    desk_left = λ unasked. same;
    others_left = λ name unread. refl;
  }
