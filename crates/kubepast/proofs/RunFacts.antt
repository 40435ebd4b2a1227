-- Answers that are passed on.
use Rattle.std.proofs.Common.{◌≡◌, ◌<◌, ◌⊎◌, ℕ, List, Option, Some, None, Result, Ok, Err, IfOk, IsErrOf, inl, inr, refl, sym, ◌∙◌, subst, arith}
use Rattle.std.specs.Io.KnownBytes.{Appends, IsAtEnd, Keeps}
use Rattle.context_intake.proofs.ReadingFacts.{taken_none, taken_upto, whole_untouched}
use Rattle.edge_io.specs.Faults.{Rose}
use Rattle.command_words.specs.Command.{Ask, Asked, AsksOf, IsAsked, IsOfNames, Judge, Make, MayWantMemory, Reads, Spells, Strict, Tells, TellsWords, Verify}
use Rattle.log_verdict.specs.Endings.{IsAnswered, IsBrokenStatus, IsVerdictStatus, ReadsNames}
use Rattle.edge_io.specs.Endings.{Ends}
use Rattle.kubepast.specs.Program.{Concludes, IsAnswer, IsAnswerTo, IsOfTable, IsStatusOf, usage_answer}
use Rattle.log_verdict.specs.Answers.{Answer, IsPlacementText, report_answer, status_number}
use Rattle.kubepast.specs.Reported.{HasBrokenStatus, HasVerdictStatus, IsReported, PrintsPlacement, Takes, TakesNames, TakesPlacement}
use Rattle.kubepast.specs.Running.{ReadsDesk, ReadsPlacement, StatusTells}
use Rattle.log_verdict.specs.Verifying.{most_placement}
use Rattle.command_words.proofs.AskedFacts.{one_command}
use Rattle.log_verdict.proofs.VerifyingFacts.{whole_from}
use Rattle.log_verdict.specs.declared.report.Report.{Report}
use Rattle.log_verdict.specs.declared.report.Status.{Status}
use Rattle.log_verdict.specs.declared.report.Status.TheVariants.{Explained, Unexplained, SetupRefused, LogRefused, LimitPassed}
use Rattle.context_intake.specs.declared.stop.Stop.{Stop}
use Rattle.context_intake.specs.declared.stop.Stop.TheVariants.{OutOfMemory, ReadFault}

-- a report has other statuses than these
apart_two : (status : Status) → status_number status ≡ 2 → ⊥
apart_two Explained is = omega (arith, is)
apart_two Unexplained is = omega (arith, is)
apart_two SetupRefused is = omega (arith, is)
apart_two LogRefused is = omega (arith, is)
apart_two LimitPassed is = omega (arith, is)

apart_five : (status : Status) → status_number status ≡ 5 → ⊥
apart_five Explained is = omega (arith, is)
apart_five Unexplained is = omega (arith, is)
apart_five SetupRefused is = omega (arith, is)
apart_five LogRefused is = omega (arith, is)
apart_five LimitPassed is = omega (arith, is)

apart_six : (status : Status) → status_number status ≡ 6 → ⊥
apart_six Explained is = omega (arith, is)
apart_six Unexplained is = omega (arith, is)
apart_six SetupRefused is = omega (arith, is)
apart_six LogRefused is = omega (arith, is)
apart_six LimitPassed is = omega (arith, is)

apart_eight : (status : Status) → status_number status ≡ 8 → ⊥
apart_eight Explained is = omega (arith, is)
apart_eight Unexplained is = omega (arith, is)
apart_eight SetupRefused is = omega (arith, is)
apart_eight LogRefused is = omega (arith, is)
apart_eight LimitPassed is = omega (arith, is)

-- a report is an answer of the table
of_table : (words : List (List ℕ)) (asked : Asked) (found : Result Report Stop) → Spells asked words → IfOk found (λ report. IsStatusOf asked (status_number report.status)) → IfOk found (λ report. IsOfTable words (report_answer report))
of_table words asked (Ok report) spelled is = inr (asked, spelled, is)
of_table words asked (Err stop) spelled is = tt

-- a verdict, and that a rule is broken, are told by other statuses than faults and want of memory
above_verdict : (status : ℕ) → 1 < status → IsVerdictStatus status → ⊥
above_verdict status more (inl is) = omega (arith, more, is)
above_verdict status more (inr is) = omega (arith, more, is)

above_broken : (status : ℕ) → 4 < status → IsBrokenStatus status → ⊥
above_broken status more (inl is) = omega (arith, more, is)
above_broken status more (inr is) = omega (arith, more, is)

pub keeps_same : (known : Option (List ℕ)) → Keeps known known
keeps_same None = tt
keeps_same (Some bytes) = refl

module _ (faults_before faults_now : ℕ) (before now : Option (List ℕ)) (result : ℕ) where
  pub concluded_answer : (found : Result Report Stop) (IsRight : Answer → Type 0) (desk_before desk_now : ℕ) → IfOk found (λ report. IsRight (report_answer report)) → (found ≡ Err ReadFault → Rose desk_before desk_now)
      → Concludes found faults_before faults_now before now result → IsAnswered IsRight desk_before desk_now faults_before faults_now before now result
  concluded_answer (Ok report) IsRight desk_before desk_now right rose ends = inl (report_answer report, right, ends)
  concluded_answer (Err ReadFault) IsRight desk_before desk_now right rose ends = inr (inl (rose refl, ends))
  concluded_answer (Err OutOfMemory) IsRight desk_before desk_now right rose ends = inr (inr ends)

  pub concluded_fault : (found : Result Report Stop) → Concludes found faults_before faults_now before now result → result ≡ 5 → found ≡ Err ReadFault
  concluded_fault (Ok report) (inl (whole, rest)) is = absurd (apart_five report.status (sym whole ∙ is))
  concluded_fault (Ok report) (inr (part, rose, rest)) is = absurd (omega (arith, part, is))
  concluded_fault (Err ReadFault) ends is = refl
  concluded_fault (Err OutOfMemory) ends is = absurd (let memory = ends.0 in omega (arith, memory, is))

  concluded_two : (found : Result Report Stop) → Concludes found faults_before faults_now before now result → result ≡ 2 → ⊥
  concluded_two (Ok report) (inl (whole, rest)) is = apart_two report.status (sym whole ∙ is)
  concluded_two (Ok report) (inr (part, rose, rest)) is = omega (arith, part, is)
  concluded_two (Err ReadFault) (inl (whole, rest)) is = omega (arith, whole, is)
  concluded_two (Err ReadFault) (inr (part, rose, rest)) is = omega (arith, part, is)
  concluded_two (Err OutOfMemory) ends is = let memory = ends.0 in omega (arith, memory, is)

  concluded_six : (found : Result Report Stop) → Concludes found faults_before faults_now before now result → result ≡ 6 → Rose faults_before faults_now
  concluded_six (Ok report) (inl (whole, rest)) is = absurd (apart_six report.status (sym whole ∙ is))
  concluded_six (Ok report) (inr (part, rose, rest)) is = rose
  concluded_six (Err ReadFault) (inl (whole, rest)) is = absurd (omega (arith, whole, is))
  concluded_six (Err ReadFault) (inr (part, rose, rest)) is = rose
  concluded_six (Err OutOfMemory) ends is = absurd (let memory = ends.0 in omega (arith, memory, is))

  concluded_eight : (found : Result Report Stop) → Concludes found faults_before faults_now before now result → result ≡ 8 → Keeps before now
  concluded_eight (Ok report) (inl (whole, rest)) is = absurd (apart_eight report.status (sym whole ∙ is))
  concluded_eight (Ok report) (inr (part, rose, rest)) is = absurd (omega (arith, part, is))
  concluded_eight (Err ReadFault) (inl (whole, rest)) is = absurd (omega (arith, whole, is))
  concluded_eight (Err ReadFault) (inr (part, rose, rest)) is = absurd (omega (arith, part, is))
  concluded_eight (Err OutOfMemory) ends is = ends.1

  concluded_status : (found : Result Report Stop) (IsOf : ℕ → Type 0) (Told : Type 0) → (IsOf 5 → ⊥) → (IsOf 6 → ⊥) → (IsOf 8 → ⊥) → IfOk found (λ report. IsOf (status_number report.status) → Told)
      → Concludes found faults_before faults_now before now result → IsOf result → Told
  concluded_status (Ok report) IsOf Told not_five not_six not_eight told (inl (whole, rest)) is = told (subst IsOf whole is)
  concluded_status (Ok report) IsOf Told not_five not_six not_eight told (inr (part, rose, rest)) is = absurd (not_six (subst IsOf part is))
  concluded_status (Err ReadFault) IsOf Told not_five not_six not_eight told (inl (whole, rest)) is = absurd (not_five (subst IsOf whole is))
  concluded_status (Err ReadFault) IsOf Told not_five not_six not_eight told (inr (part, rose, rest)) is = absurd (not_six (subst IsOf part is))
  concluded_status (Err OutOfMemory) IsOf Told not_five not_six not_eight told ends is = absurd (not_eight (subst IsOf ends.0 is))

  concluded_verdict : (found : Result Report Stop) (Told : Type 0) → IfOk found (λ report. HasVerdictStatus report → Told)
      → Concludes found faults_before faults_now before now result → IsVerdictStatus result → Told
  concluded_verdict found Told told ends is = concluded_status found IsVerdictStatus Told (above_verdict 5 (omega arith)) (above_verdict 6 (omega arith)) (above_verdict 8 (omega arith)) told ends is

  concluded_broken : (found : Result Report Stop) (Told : Type 0) → IfOk found (λ report. HasBrokenStatus report → Told)
      → Concludes found faults_before faults_now before now result → IsBrokenStatus result → Told
  concluded_broken found Told told ends is = concluded_status found IsBrokenStatus Told (above_broken 5 (omega arith)) (above_broken 6 (omega arith)) (above_broken 8 (omega arith)) told ends is

  concluded_four : (found : Result Report Stop) (Told : Type 0) → IfOk found (λ report. status_number report.status ≡ 4 → Told)
      → Concludes found faults_before faults_now before now result → result ≡ 4 → Told
  concluded_four found Told told ends is =
      concluded_status found (λ status. status ≡ 4) Told (λ five. omega (arith, five)) (λ six. omega (arith, six)) (λ eight. omega (arith, eight)) told ends is

  pub concluded_printed : (found : Result Report Stop) → IfOk found (λ report. status_number report.status ≡ 0 → IsPlacementText report.text)
      → Concludes found faults_before faults_now before now result → result ≡ 0 → (text : List ℕ) × IsPlacementText text × Appends before now text
  concluded_printed (Ok report) printed (inl (whole, appends)) is = (report.text, printed (sym whole ∙ is), appends)
  concluded_printed (Ok report) printed (inr (part, rose, rest)) is = absurd (omega (arith, part, is))
  concluded_printed (Err ReadFault) printed (inl (whole, appends)) is = absurd (omega (arith, whole, is))
  concluded_printed (Err ReadFault) printed (inr (part, rose, rest)) is = absurd (omega (arith, part, is))
  concluded_printed (Err OutOfMemory) printed ends is = absurd (let memory = ends.0 in omega (arith, memory, is))

-- the names of a command that reads
named : (asked : Asked) (setup log : List ℕ) (old now : List ℕ → Option (List ℕ)) (untouched : Type 0) (found : Result Report Stop) → IsOfNames asked setup log → Takes asked old now untouched found → TakesNames setup log old now found
named (Judge s l) setup log old now untouched found same takes = subst (λ s. TakesNames s log old now found) same.0 (subst (λ l. TakesNames s l old now found) same.1 takes)
named (Strict s l) setup log old now untouched found same takes = subst (λ s. TakesNames s log old now found) same.0 (subst (λ l. TakesNames s l old now found) same.1 takes)
named (Verify s l p) setup log old now untouched found same takes = subst (λ s. TakesNames s log old now found) same.0 (subst (λ l. TakesNames s l old now found) same.1 takes.0)
named (Ask s l q) setup log old now untouched found same takes = subst (λ s. TakesNames s log old now found) same.0 (subst (λ l. TakesNames s l old now found) same.1 takes)
named (Make number events) setup log old now untouched found same takes = absurd same

nothing_named : (asked : Asked) (old now : List ℕ → Option (List ℕ)) (untouched : Type 0) (found : Result Report Stop) → ((setup log : List ℕ) → IsOfNames asked setup log → ⊥) → Takes asked old now untouched found → untouched
nothing_named (Judge s l) old now untouched found none takes = absurd (none s l (refl, refl))
nothing_named (Strict s l) old now untouched found none takes = absurd (none s l (refl, refl))
nothing_named (Verify s l p) old now untouched found none takes = absurd (none s l (refl, refl))
nothing_named (Ask s l q) old now untouched found none takes = absurd (none s l (refl, refl))
nothing_named (Make number events) old now untouched found none takes = takes

answer_to_words : (words : List (List ℕ)) (asked : Asked) (old : List ℕ → Option (List ℕ)) (files : List ℕ → List ℕ) (found : Result Report Stop) → Spells asked words → TellsWords words old files
    → IfOk found (λ report. (files : List ℕ → List ℕ) → Tells asked old files → IsAnswerTo (Some asked) files (report_answer report)) → IfOk found (λ report. IsAnswer words files (report_answer report))
answer_to_words words asked old files (Ok report) spelled tells right = (Some asked, spelled, right files (tells asked spelled))
answer_to_words words asked old files (Err stop) spelled tells right = tt

-- a call whose words are a command: the words, what was found, and how the call ended
pub record HasRun (words : List (List ℕ)) (asked : Asked) (old now : List ℕ → Option (List ℕ)) (untouched : Type 0) (desk_before desk_now sink_before sink_now : ℕ) (before written : Option (List ℕ)) (result : ℕ) (found : Result Report Stop) : Type 0 where
  pub spelled : Spells asked words
  pub reported : IsReported asked old now untouched desk_before desk_now found
  pub concluded : Concludes found sink_before sink_now before written result

-- what such a call comes to
module _ {words : List (List ℕ)} {asked : Asked} {old now : List ℕ → Option (List ℕ)} {untouched : Type 0} {desk_before desk_now sink_before sink_now : ℕ} {before written : Option (List ℕ)} {result : ℕ} {found : Result Report Stop}
    (r : HasRun words asked old now untouched desk_before desk_now sink_before sink_now before written result found) where
  failed : result ≡ 5 → IsErrOf found ReadFault
  failed is = concluded_fault sink_before sink_now before written result found r.concluded is

  takes_names : (setup log : List ℕ) → AsksOf words setup log → TakesNames setup log old now found
  takes_names setup log (other, spelled, of) = named asked setup log old now untouched found (subst (λ a. IsOfNames a setup log) (one_command words other asked spelled r.spelled) of) r.reported.taken

  takes_placement : (setup log placement : List ℕ) → IsAsked words (Some (Verify setup log placement)) → TakesPlacement setup log placement old now found
  takes_placement setup log placement asks =
      let takes : Takes (Verify setup log placement) old now untouched found = subst (λ a. Takes a old now untouched found) (one_command words asked (Verify setup log placement) r.spelled asks) r.reported.taken in
      takes.1

  pub run_answer : (files : List ℕ → List ℕ) → TellsWords words old files → IsAnswered (IsAnswer words files) desk_before desk_now sink_before sink_now before written result
  run_answer files tells =
      concluded_answer sink_before sink_now before written result found (IsAnswer words files) desk_before desk_now (answer_to_words words asked old files found r.spelled tells r.reported.answered) r.reported.fault r.concluded

  pub run_table : IsAnswered (IsOfTable words) desk_before desk_now sink_before sink_now before written result
  run_table =
      concluded_answer sink_before sink_now before written result found (IsOfTable words) desk_before desk_now (of_table words asked found r.spelled r.reported.status) r.reported.fault r.concluded

  pub run_status : StatusTells words desk_before desk_now sink_before sink_now before written result
  run_status = record {
    usage = λ none. absurd (none asked r.spelled);
    usage_only = λ is. absurd (concluded_two sink_before sink_now before written result found r.concluded is);
    read_fault = λ is. r.reported.fault (failed is);
    write_fault = λ is. concluded_six sink_before sink_now before written result found r.concluded is;
    memory = λ is. concluded_eight sink_before sink_now before written result found r.concluded is;
  }

  names_read : (setup log : List ℕ) → AsksOf words setup log → ReadsNames old now result setup log
  names_read setup log asks =
      let takes : TakesNames setup log old now found = takes_names setup log asks in
      record {
        whole = concluded_verdict sink_before sink_now before written result found (IsAtEnd (now setup) × IsAtEnd (now log)) takes.whole r.concluded;
        setup_whole = concluded_broken sink_before sink_now before written result found (IsAtEnd (now setup)) takes.setup_whole r.concluded;
        taken = taken_upto setup log old now now (IsErrOf found ReadFault) (result ≡ 5) refl refl failed takes.taken;
      }

  placement_read : (setup log placement : List ℕ) → IsAsked words (Some (Verify setup log placement)) → ReadsPlacement old now result setup log placement
  placement_read setup log placement asks =
      let takes : TakesPlacement setup log placement old now found = takes_placement setup log placement asks in
      record {
        whole = concluded_verdict sink_before sink_now before written result found (IsAtEnd (now placement)) takes.whole r.concluded;
        misspelt = concluded_four sink_before sink_now before written result found ((now placement ≡ old placement) ⊎ IsAtEnd (now placement)) takes.misspelt r.concluded;
        taken = whole_from most_placement (old placement) (old placement) (now placement) (IsErrOf found ReadFault) (result ≡ 5) refl failed takes.taken;
        left = takes.left;
        after = takes.after;
      }

  others_left : (other : Asked) (name : List ℕ) → IsAsked words (Some other) → (Reads other name → ⊥) → now name ≡ old name
  others_left other name asks unread = r.reported.others name (subst (λ a. Reads a name → ⊥) (one_command words other asked asks r.spelled) unread)

  pub run_read : ReadsDesk words old now untouched result
  run_read = record {
    names = names_read;
    placement = placement_read;
    others_left = others_left;
    desk_left = λ none. nothing_named asked old now untouched found (λ setup log of. none setup log (asked, r.spelled, of)) r.reported.taken;
  }

  pub run_printed : (setup log : List ℕ) → IsAsked words (Some (Judge setup log)) → result ≡ 0 → (text : List ℕ) × IsPlacementText text × Appends before written text
  run_printed setup log asks =
      let printed : IfOk found (PrintsPlacement (Judge setup log)) = subst (λ a. IfOk found (PrintsPlacement a)) (one_command words asked (Judge setup log) r.spelled asks) r.reported.printed in
      concluded_printed sink_before sink_now before written result found printed r.concluded

-- how a call ends whose words are no command
module _ (faults_before faults_now : ℕ) (before now : Option (List ℕ)) (result : ℕ) (text : List ℕ) where
  two_no_five : Ends 2 text faults_before faults_now before now result → result ≡ 5 → ⊥
  two_no_five (inl (whole, rest)) is = omega (arith, whole, is)
  two_no_five (inr (part, rose, rest)) is = omega (arith, part, is)

  two_no_eight : Ends 2 text faults_before faults_now before now result → result ≡ 8 → ⊥
  two_no_eight (inl (whole, rest)) is = omega (arith, whole, is)
  two_no_eight (inr (part, rose, rest)) is = omega (arith, part, is)

  two_rose : Ends 2 text faults_before faults_now before now result → result ≡ 6 → Rose faults_before faults_now
  two_rose (inl (whole, rest)) is = absurd (omega (arith, whole, is))
  two_rose (inr (part, rose, rest)) is = rose

-- a call whose words are no command
module _ {words : List (List ℕ)} {desk_before desk_now sink_before sink_now : ℕ} {before now : Option (List ℕ)} {status : ℕ}
    (none : IsAsked words None) (ends : Ends 2 usage_answer.text sink_before sink_now before now status) where
  pub usage_status : StatusTells words desk_before desk_now sink_before sink_now before now status
  usage_status = record {
    usage = λ _. inl ends;
    usage_only = λ _. none;
    read_fault = λ is. absurd (two_no_five sink_before sink_now before now status usage_answer.text ends is);
    write_fault = λ is. two_rose sink_before sink_now before now status usage_answer.text ends is;
    memory = λ is. absurd (two_no_eight sink_before sink_now before now status usage_answer.text ends is);
  }

module _ {words : List (List ℕ)} {left : List ℕ → Option (List ℕ)} {untouched : Type 0} {status : ℕ} (same : untouched) (none : IsAsked words None) where
  pub usage_read : ReadsDesk words left left untouched status
  usage_read = record {
    names = λ setup log asks. absurd (none asks.0 asks.1);
    placement = λ setup log placement asks. absurd (none (Verify setup log placement) asks);
    others_left = λ asked name asks unread. refl;
    desk_left = λ unasked. same;
  }

-- a call that lacked the memory to read its words
module _ {words : List (List ℕ)} {desk_now sink_now : ℕ} {written : Option (List ℕ)} (wants : MayWantMemory words) where
  pub unread_status : StatusTells words desk_now desk_now sink_now sink_now written written 8
  unread_status = record {
    usage = λ none. inr (wants, refl);
    usage_only = λ is. absurd (omega (arith, is));
    read_fault = λ is. absurd (omega (arith, is));
    write_fault = λ is. absurd (omega (arith, is));
    memory = λ is. keeps_same written;
  }

module _ {left : List ℕ → Option (List ℕ)} where
  names_unread : (setup log : List ℕ) → ReadsNames left left 8 setup log
  names_unread setup log = record {
    whole = λ is. absurd (above_verdict 8 (omega arith) is);
    setup_whole = λ is. absurd (above_broken 8 (omega arith) is);
    taken = taken_none setup log left _;
  }

  placement_unread : (setup log placement : List ℕ) → ReadsPlacement left left 8 setup log placement
  placement_unread setup log placement = record {
    whole = λ is. absurd (above_verdict 8 (omega arith) is);
    misspelt = λ is. inl refl;
    taken = whole_untouched most_placement (left placement) (left placement) _ refl;
    left = λ of_setup of_log refusal told_setup told_log refused. refl;
    after = inl refl;
  }

module _ {words : List (List ℕ)} {left : List ℕ → Option (List ℕ)} {untouched : Type 0} (same : untouched) where
  pub unread_read : ReadsDesk words left left untouched 8
  unread_read = record {
    names = λ setup log asks. names_unread setup log;
    placement = λ setup log placement asks. placement_unread setup log placement;
    others_left = λ asked name asks unread. refl;
    desk_left = λ unasked. same;
  }
