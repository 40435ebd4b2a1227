-- What a setup and a log tell, wherever their reading stops.
use Rattle.std.proofs.Common.{◌≡◌, ◌≢◌, ◌<◌, ◌≤◌, ℕ, List, [], Option, Some, Result, Ok, Err, IfOk, IsErrOf, length, refl, sym, ◌∙◌, ap, subst, arith}
use Rattle.std.proofs.lemmas.Result.{IfOk-weaker}
use Rattle.std.specs.Io.KnownBytes.{IsAtEnd}
use Rattle.audit_event.specs.declared.event.Event.{Event}
use Rattle.edge_io.specs.Faults.{Rose}
use Rattle.edge_io.specs.Whole.{TakesWhole}
use Rattle.edge_io.proofs.TakenFacts.{taken_nothing}
use Rattle.log_intake.specs.Log.{IsLogRead}
use Rattle.log_intake.specs.Setup.{AnswersSetup, IsSetupRead, IsWhole, ReadsSetup, StaysWithin, TakesSetup, most_setup}
use Rattle.log_intake.specs.Taking as taking
use Rattle.log_intake.specs.Taking.{AnswersLog, ReadsLog, TakesLog}
use Rattle.log_intake.specs.declared.stop.LogStop.{LogStop}
use Rattle.log_intake.specs.declared.stop.LogStop.TheVariants as log_stop
use Rattle.log_intake.specs.declared.stop.SetupStop.{SetupStop}
use Rattle.log_intake.specs.declared.stop.SetupStop.TheVariants as setup_stop
use Rattle.log_intake.proofs.LogFacts.{takes_nothing}
use Rattle.setup_file.specs.declared.setup.Setup.{Setup}
use Rattle.log_context.specs.Known.{Known}
use Rattle.log_context.specs.LogTrees.{pooled}
use Rattle.log_context.specs.Told.{IsTold}
use Rattle.log_context.specs.declared.log.fault.BuildFault.{BuildFault}
use Rattle.log_context.specs.declared.log.fault.BuildFault.TheVariants as build_fault
use Rattle.context_intake.specs.Built.{IsBuiltAs}
use Rattle.context_intake.specs.Contexts.{IsFoundIn, IsToldBy, RefusesNothing, most_nodes, of_log, of_pool, of_setup, with_chains}
use Rattle.context_intake.specs.Refusals.{IsSetupStopOf, IsStopOf}
use Rattle.context_intake.specs.Taking.{IsReadBefore, IsReadFor, ReadsSetupAndLog, TakesSetupAndLog}
use Rattle.context_intake.specs.declared.refusal.Refusal.{Refusal}
use Rattle.context_intake.specs.declared.stop.Stop.{Stop}
use Rattle.context_intake.specs.declared.stop.Stop.TheVariants.{OutOfMemory, ReadFault}
use Rattle.context_intake.specs.declared.told.Intake.{Intake}
use Rattle.context_intake.specs.declared.told.Intake.TheVariants.{Context, Refused}
use Rattle.context_intake.proofs.OneContextFacts.{setup_one_way}

-- the setup was refused for its bytes
setup_answered : (bytes : List ℕ) (stop : SetupStop) (refusal : Refusal) → AnswersSetup bytes (Err stop) → IsSetupStopOf stop refusal → IsSetupRead bytes (Err stop)
setup_answered bytes (setup_stop.Rule rule) refusal answered is = answered
setup_answered bytes setup_stop.TooLong refusal answered is = answered
setup_answered bytes setup_stop.ReadFault refusal answered is = absurd is
setup_answered bytes setup_stop.OutOfMemory refusal answered is = absurd is

-- the log was refused for its bytes
log_answered : (bytes : List ℕ) (stop : LogStop) (refusal : Refusal) → AnswersLog bytes (Err stop) → IsStopOf stop refusal → IsLogRead bytes (Err stop)
log_answered bytes (log_stop.Malformed line code) refusal answered is = answered tt
log_answered bytes log_stop.LineTooLong refusal answered is = answered tt
log_answered bytes log_stop.TooManyEvents refusal answered is = answered tt
log_answered bytes log_stop.TooLong refusal answered is = answered tt
log_answered bytes log_stop.ReadFault refusal answered is = absurd is
log_answered bytes log_stop.OutOfMemory refusal answered is = absurd is

-- setup and log were read
found_told : (setup log : List ℕ) (read : Setup) (events : List Event) (told : Intake) → IsSetupRead setup (Ok read) → IsLogRead log (Ok events) → IsFoundIn (with_chains read events) events told → IsToldBy setup log told
found_told setup log read events (Refused refusal) setup_is log_is found = of_pool read events setup_is log_is found.0 found.1
found_told setup log read events (Context known) setup_is log_is found = record {
  read = read;
  setup_is = setup_is;
  log_is = subst (λ e. IsLogRead log (Ok e)) (sym found.1) log_is;
  chained = found.0 ∙ ap (with_chains read) (sym found.1);
  few = subst (λ s. length (pooled s known.events) ≤ most_nodes) (sym found.0) (subst (λ e. length (pooled (with_chains read events) e) ≤ most_nodes) (sym found.1) found.2);
  told = found.3;
}

-- a context was built of them, or its pool was full
pub found_built : (setup : Setup) (events : List Event) (built : Result Known BuildFault) → IfOk built (λ known. known.setup ≡ setup) → IfOk built (λ known. known.events ≡ events) → IfOk built IsTold
    → (built ≡ Err build_fault.PoolFull → most_nodes < length (pooled setup events)) → IfOk built (λ known. length (pooled setup events) ≤ most_nodes)
    → (told : Intake) → IsBuiltAs built told → IsFoundIn setup events told
found_built setup events (Ok known) same_setup same_events is full fits told built_as = subst (IsFoundIn setup events) (sym built_as) (same_setup, same_events, fits, is)
found_built setup events (Err build_fault.PoolFull) same_setup same_events is full fits told built_as = subst (IsFoundIn setup events) (sym built_as) (full refl, refl)
found_built setup events (Err build_fault.OutOfMemory) same_setup same_events is full fits told built_as = absurd built_as

-- what was read to its end before a refusal
setup_read : (stop : SetupStop) (refusal : Refusal) (setup log : Option (List ℕ)) → (IsWhole (Err stop) → IsAtEnd setup) → IsSetupStopOf stop refusal → IsReadBefore refusal setup log
setup_read (setup_stop.Rule rule) refusal setup log whole is = subst (λ r. IsReadBefore r setup log) (sym is) (whole tt)
setup_read setup_stop.TooLong refusal setup log whole is = subst (λ r. IsReadBefore r setup log) (sym is) tt
setup_read setup_stop.ReadFault refusal setup log whole is = absurd is
setup_read setup_stop.OutOfMemory refusal setup log whole is = absurd is

log_read : (stop : LogStop) (refusal : Refusal) (setup log : Option (List ℕ)) → IsAtEnd setup → IsStopOf stop refusal → IsReadBefore refusal setup log
log_read (log_stop.Malformed line code) refusal setup log ended is = subst (λ r. IsReadBefore r setup log) (sym is) ended
log_read log_stop.LineTooLong refusal setup log ended is = subst (λ r. IsReadBefore r setup log) (sym is) ended
log_read log_stop.TooManyEvents refusal setup log ended is = subst (λ r. IsReadBefore r setup log) (sym is) ended
log_read log_stop.TooLong refusal setup log ended is = subst (λ r. IsReadBefore r setup log) (sym is) ended
log_read log_stop.ReadFault refusal setup log ended is = absurd is
log_read log_stop.OutOfMemory refusal setup log ended is = absurd is

found_read : (read : Setup) (events : List Event) (setup log : Option (List ℕ)) (told : Intake) → IsAtEnd setup → IsAtEnd log → IsFoundIn read events told → IsReadFor told setup log
found_read read events setup log (Refused refusal) setup_ended log_ended found = subst (λ r. IsReadBefore r setup log) (sym found.1) (setup_ended, log_ended)
found_read read events setup log (Context known) setup_ended log_ended found = (setup_ended, log_ended)

-- what was read to its end before what is told
module _ (setup log : Option (List ℕ)) (result : Result Intake Stop) where
  pub read_setup : (stop : SetupStop) → (IsWhole (Err stop) → IsAtEnd setup) → IfOk result (λ told. (refusal : Refusal) × IsSetupStopOf stop refusal × (told ≡ Refused refusal)) → IfOk result (λ told. IsReadFor told setup log)
  read_setup stop whole refused =
      IfOk-weaker result (λ told. (refusal : Refusal) × IsSetupStopOf stop refusal × (told ≡ Refused refusal)) (λ told. IsReadFor told setup log)
      (λ told r. subst (λ t. IsReadFor t setup log) (sym r.2) (setup_read stop r.0 setup log whole r.1))
      refused

  pub read_log : (stop : LogStop) (middle : Option (List ℕ)) → setup ≡ middle → IsAtEnd middle → IfOk result (λ told. (refusal : Refusal) × IsStopOf stop refusal × (told ≡ Refused refusal)) → IfOk result (λ told. IsReadFor told setup log)
  read_log stop middle same ended refused =
      IfOk-weaker result (λ told. (refusal : Refusal) × IsStopOf stop refusal × (told ≡ Refused refusal)) (λ told. IsReadFor told setup log)
      (λ told r. subst (λ t. IsReadFor t setup log) (sym r.2) (log_read stop r.0 setup log (subst IsAtEnd (sym same) ended) r.1))
      refused

  pub read_both : (read : Setup) (events : List Event) (middle : Option (List ℕ)) → setup ≡ middle → IsAtEnd middle → IsAtEnd log → IfOk result (IsFoundIn (with_chains read events) events) → IfOk result (λ told. IsReadFor told setup log)
  read_both read events middle same ended log_ended found =
      IfOk-weaker result (IsFoundIn (with_chains read events) events) (λ told. IsReadFor told setup log)
      (λ told f. found_read (with_chains read events) events setup log told (subst IsAtEnd (sym same) ended) log_ended f)
      found

module _ (left : List ℕ → Option (List ℕ)) (setup log : List ℕ) (result : Result Intake Stop) where
  -- what the names tell that were asked for
  abbrev pub TellsNames : Intake → Type 0
  TellsNames told = (of_setup of_log : List ℕ) → left setup ≡ Some of_setup → left log ≡ Some of_log → IsToldBy of_setup of_log told

  pub told_setup : (stop : SetupStop) → ((bytes : List ℕ) → left setup ≡ Some bytes → AnswersSetup bytes (Err stop)) → IfOk result (λ told. (refusal : Refusal) × IsSetupStopOf stop refusal × (told ≡ Refused refusal)) → IfOk result TellsNames
  told_setup stop answers refused =
      IfOk-weaker result (λ told. (refusal : Refusal) × IsSetupStopOf stop refusal × (told ≡ Refused refusal)) TellsNames
      (λ told r s l ts tl. subst (IsToldBy s l) (sym r.2) (of_setup (stop, setup_answered s stop r.0 (answers s ts) r.1, r.1)))
      refused

  -- the log follows a setup that was read
  pub told_log : (read : Setup) (now : Option (List ℕ)) (stop : LogStop) → ((bytes : List ℕ) → left setup ≡ Some bytes → AnswersSetup bytes (Ok read)) → now ≡ left log
      → ((bytes : List ℕ) → now ≡ Some bytes → AnswersLog bytes (Err stop)) → IfOk result (λ told. (refusal : Refusal) × IsStopOf stop refusal × (told ≡ Refused refusal)) → IfOk result TellsNames
  told_log read now stop reads same answers refused =
      IfOk-weaker result (λ told. (refusal : Refusal) × IsStopOf stop refusal × (told ≡ Refused refusal)) TellsNames
      (λ told r s l ts tl. subst (IsToldBy s l) (sym r.2) (of_log read (reads s ts) (stop, log_answered l stop r.0 (answers l (same ∙ tl)) r.1, r.1)))
      refused

  pub told_events : (read : Setup) (now : Option (List ℕ)) (events : List Event) → ((bytes : List ℕ) → left setup ≡ Some bytes → AnswersSetup bytes (Ok read)) → now ≡ left log
      → ((bytes : List ℕ) → now ≡ Some bytes → AnswersLog bytes (Ok events)) → IfOk result (IsFoundIn (with_chains read events) events) → IfOk result TellsNames
  told_events read now events reads same answers found =
      IfOk-weaker result (IsFoundIn (with_chains read events) events) TellsNames
      (λ told f s l ts tl. found_told s l read events told (reads s ts) (answers l (same ∙ tl)) f)
      found

-- of a name of which nothing was read
pub whole_untouched : (most : ℕ) (old now : Option (List ℕ)) (fine : Type 0) → now ≡ old → TakesWhole most old now fine
whole_untouched most old now fine same = subst (λ n. TakesWhole most old n fine) (sym same) (record {
  front = [];
  piece = [];
  taken = taken_nothing old;
  within = omega arith;
  short = omega arith;
  blameless = λ _. refl;
})

pub log_untouched : (old now : Option (List ℕ)) (fine : Type 0) → now ≡ old → TakesLog old now fine
log_untouched old now fine same = subst (λ n. TakesLog old n fine) (sym same) (takes_nothing old fine)

-- what was taken of a setup, by all reads
pub setup_as : (old middle now : Option (List ℕ)) (fine fine' : Type 0) → now ≡ middle → (fine' → fine) → TakesSetup old middle fine → TakesSetup old now fine'
setup_as old middle now fine fine' same weaker t = subst (λ n. TakesSetup old n fine') (sym same) (record {
  front = t.front;
  piece = t.piece;
  taken = t.taken;
  within = t.within;
  short = t.short;
  blameless = λ is. t.blameless (weaker is);
})

pub log_as : (old middle now : Option (List ℕ)) (fine fine' : Type 0) → middle ≡ old → (fine' → fine) → TakesLog middle now fine → TakesLog old now fine'
log_as old middle now fine fine' same weaker t = subst (λ o. TakesLog o now fine') same (record {
  front = t.front;
  batch = t.batch;
  taken = t.taken;
  kept = t.kept;
  short = t.short;
  within = t.within;
  blameless = λ is. t.blameless (weaker is);
})

log_upto : (old middle now : Option (List ℕ)) (fine fine' : Type 0) → now ≡ middle → (fine' → fine) → TakesLog old middle fine → TakesLog old now fine'
log_upto old middle now fine fine' same weaker t = subst (λ n. TakesLog old n fine') (sym same) (record {
  front = t.front;
  batch = t.batch;
  taken = t.taken;
  kept = t.kept;
  short = t.short;
  within = t.within;
  blameless = λ is. t.blameless (weaker is);
})

-- what was taken of both, where only other names were read since
pub taken_upto : (setup log : List ℕ) (old middle now : List ℕ → Option (List ℕ)) (fine fine' : Type 0) → now setup ≡ middle setup → now log ≡ middle log → (fine' → fine)
    → TakesSetupAndLog setup log old middle fine → TakesSetupAndLog setup log old now fine'
taken_upto setup log old middle now fine fine' same_setup same_log weaker t = record {
  setup_taken = setup_as (old setup) (middle setup) (now setup) fine fine' same_setup weaker t.setup_taken;
  log_taken = log_upto (old log) (middle log) (now log) fine fine' same_log weaker t.log_taken;
  log_left = λ of_setup refusal told refused. same_log ∙ t.log_left of_setup refusal told refused;
}

-- nothing of either
pub taken_none : (setup log : List ℕ) (left : List ℕ → Option (List ℕ)) (fine : Type 0) → TakesSetupAndLog setup log left left fine
taken_none setup log left fine = record {
  setup_taken = whole_untouched most_setup (left setup) (left setup) fine refl;
  log_taken = log_untouched (left log) (left log) fine refl;
  log_left = λ of_setup refusal told refused. refl;
}

pub rose_from : (old middle now : ℕ) → old ≤ middle → Rose middle now → Rose old now
rose_from old middle now counted rose = omega (arith, counted, rose)

-- a call that passes on what was read, and answers a read fault where the reading does
pub reads_on : {setup log : List ℕ} {old now : List ℕ → Option (List ℕ)} {faults_before faults_now : ℕ} (result : Result Intake Stop) (read_fault : Type 0) → (read_fault → IsErrOf result ReadFault)
    → ReadsSetupAndLog setup log old now faults_before faults_now (RefusesNothing result) (IsErrOf result ReadFault) → ReadsSetupAndLog setup log old now faults_before faults_now read_fault read_fault
reads_on {setup = setup} {log = log} {old = old} {now = now} result read_fault failed reads = record {
  fault = λ is. reads.fault (failed is);
  counted = reads.counted;
  taken = taken_upto setup log old now now (RefusesNothing result) read_fault refl refl (λ is. subst RefusesNothing (sym (failed is)) tt) reads.taken;
  others = reads.others;
}

-- the two names of a desk, by one call each
module _ (setup log : List ℕ) (differ : setup ≢ log) (fine read_fault : Type 0) where
  pub reads_none : (left : List ℕ → Option (List ℕ)) (faults : ℕ) → (read_fault → ⊥) → ReadsSetupAndLog setup log left left faults faults fine read_fault
  reads_none left faults never = record {
    fault = λ is. absurd (never is);
    counted = omega arith;
    taken = taken_none setup log left fine;
    others = λ other not_setup not_log. refl;
  }

  -- a setup that was read alone
  pub reads_setup : (old now : List ℕ → Option (List ℕ)) (faults_before faults_now : ℕ) (answer : Result Setup SetupStop) → ReadsSetup (old setup) (now setup) faults_before faults_now answer
      → ((other : List ℕ) → other ≢ setup → now other ≡ old other) → (fine → StaysWithin answer) → (read_fault → IsErrOf answer setup_stop.ReadFault)
      → ReadsSetupAndLog setup log old now faults_before faults_now fine read_fault
  reads_setup old now faults_before faults_now answer reads others within failed = record {
    fault = λ is. reads.fault (failed is);
    counted = reads.counted;
    taken = record {
      setup_taken = setup_as (old setup) (now setup) (now setup) (StaysWithin answer) fine refl within reads.taken;
      log_taken = log_untouched (old log) (now log) fine (others log (λ same. differ (sym same)));
      log_left = λ of_setup refusal told refused. others log (λ same. differ (sym same));
    };
    others = λ other not_setup not_log. others other not_setup;
  }

  -- a log behind a setup that was read
  pub reads_log : (old middle now : List ℕ → Option (List ℕ)) (faults_before faults_between faults_now : ℕ) (read : Setup) (answer : Result (List Event) LogStop)
      → ReadsSetup (old setup) (middle setup) faults_before faults_between (Ok read) → ((other : List ℕ) → other ≢ setup → middle other ≡ old other)
      → ReadsLog (middle log) (now log) faults_between faults_now answer → ((other : List ℕ) → other ≢ log → now other ≡ middle other)
      → (fine → taking.RefusesNothing answer) → (read_fault → IsErrOf answer log_stop.ReadFault)
      → ReadsSetupAndLog setup log old now faults_before faults_now fine read_fault
  reads_log old middle now faults_before faults_between faults_now read answer reads others log_reads log_others refuses failed = record {
    fault = λ is. rose_from faults_before faults_between faults_now reads.counted (log_reads.fault (failed is));
    counted = (let first = reads.counted in let second = log_reads.counted in omega (arith, first, second));
    taken = record {
      setup_taken = setup_as (old setup) (middle setup) (now setup) (StaysWithin (Ok read)) fine (log_others setup differ) (λ is. tt) reads.taken;
      log_taken = log_as (old log) (middle log) (now log) (taking.RefusesNothing answer) fine (others log (λ same. differ (sym same))) refuses log_reads.taken;
      log_left = λ of_setup refusal told refused. absurd (setup_one_way of_setup read refusal (reads.answers of_setup told) refused);
    };
    others = λ other not_setup not_log. log_others other not_log ∙ others other not_setup;
  }

-- a refusal isn't passed on where nothing is refused
refused_nothing : (result : Result Intake Stop) (IsOf : Refusal → Type 0) (Q : Type 0) → IfOk result (λ told. (refusal : Refusal) × IsOf refusal × (told ≡ Refused refusal)) → (IsErrOf result ReadFault → Q) → RefusesNothing result → Q
refused_nothing (Ok told) IsOf Q (refusal, is, same) failed nothing = absurd (subst (λ t. RefusesNothing (Ok t)) same nothing)
refused_nothing (Err ReadFault) IsOf Q refused failed nothing = failed refl
refused_nothing (Err OutOfMemory) IsOf Q refused failed nothing = absurd nothing

-- a failed read refuses nothing
pub failed_setup : (result : Result Intake Stop) (stop : SetupStop) → IfOk result (λ told. (refusal : Refusal) × IsSetupStopOf stop refusal × (told ≡ Refused refusal)) → (IsErrOf result ReadFault → stop ≡ setup_stop.ReadFault) → RefusesNothing result → StaysWithin (Err stop)
failed_setup result stop refused failed nothing = refused_nothing result (IsSetupStopOf stop) (StaysWithin (Err stop)) refused (λ is. subst (λ s. StaysWithin (Err s)) (sym (failed is)) tt) nothing

pub failed_log : (result : Result Intake Stop) (stop : LogStop) → IfOk result (λ told. (refusal : Refusal) × IsStopOf stop refusal × (told ≡ Refused refusal)) → (IsErrOf result ReadFault → stop ≡ log_stop.ReadFault) → RefusesNothing result → taking.RefusesNothing (Err stop)
failed_log result stop refused failed nothing = refused_nothing result (IsStopOf stop) (taking.RefusesNothing (Err stop)) refused (λ is. subst (λ s. taking.RefusesNothing (Err s)) (sym (failed is)) tt) nothing
