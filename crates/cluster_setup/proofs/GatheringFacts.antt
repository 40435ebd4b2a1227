-- Files that are read one after another.
use Rattle.std.proofs.Common.{◌≡◌, ◌≢◌, ℕ, ◌<◌, ◌≤◌, List, [], ◌∷◌, ◌++◌, length, map, true, Contains, Option, Some, Result, Ok, Err, OnOk, IsErrOf, ◌⊎◌, inl, inr, refl, sym, ◌∙◌, ap, subst, arith, append_assoc}
use Rattle.std.specs.Prelude.{⊤}
use Rattle.std.specs.Io.KnownBytes.{IsAtEnd}
use Rattle.std.proofs.lemmas.List.{append-nil}
use Rattle.edge_io.specs.Faults.{Rose}
use Rattle.edge_io.specs.Whole.{AnswersWhole, StaysWithin, TakesWhole}
use Rattle.edge_io.specs.declared.whole.WholeStop.{WholeStop}
use Rattle.edge_io.specs.declared.whole.WholeStop.TheVariants.{TooLong, ReadFault, OutOfMemory}
use Rattle.process_words.specs.Names.{are_distinct}
use Rattle.cluster_setup.specs.Gathering.{AreAtEnd, AreGathered, AreGiven, IsReadWhole, LeavesOthers, SomeLong, TakesFiles, TellsAll, most_file}
use Rattle.cluster_setup.specs.declared.gathering.GivenFiles.{GivenFiles}
use Rattle.cluster_setup.proofs.TakingFacts.{apart, distinct_rest, files_taken, files_where, first_of, first_or_later, first_taken, later_of, none_taken, stays_within, whole_where}

one_at_end : (name : List ℕ) (names : List (List ℕ)) (left : List ℕ → Option (List ℕ)) (other : List ℕ) → IsAtEnd (left name) → AreAtEnd names left → (other ≡ name) ⊎ Contains names other → IsAtEnd (left other)
one_at_end name names left other done behind (inl same) = subst (λ n. IsAtEnd (left n)) (sym same) done
one_at_end name names left other done behind (inr among) = behind other among

-- a name that was read to its end stays so while those behind it are read
all_at_end : (name : List ℕ) (names : List (List ℕ)) (mid left : List ℕ → Option (List ℕ)) → are_distinct (name ∷ names) ≡ true → LeavesOthers names mid left
    → IsAtEnd (mid name) → AreAtEnd names left → AreAtEnd (name ∷ names) left
all_at_end name names mid left differ others done behind other among =
    let same : left name ≡ mid name = others name (λ again. apart name names differ name again refl) in
    one_at_end name names left other (subst IsAtEnd (sym same) done) behind (first_or_later name names other among.0 among.1 among.2)

-- what a desk tells of the names behind the first, once that was read
tells_rest : (name : List ℕ) (names : List (List ℕ)) (old mid : List ℕ → Option (List ℕ)) (told : List ℕ → List ℕ) → are_distinct (name ∷ names) ≡ true
    → ((other : List ℕ) → other ≢ name → mid other ≡ old other) → TellsAll (name ∷ names) old told → TellsAll names mid told
tells_rest name names old mid told differ others tells other among = others other (apart name names differ other among) ∙ tells other (later_of name names other among)

-- what is left of names that aren't read
left_behind : (name : List ℕ) (names : List (List ℕ)) (old mid now : List ℕ → Option (List ℕ)) → ((other : List ℕ) → other ≢ name → mid other ≡ old other)
    → ((other : List ℕ) → (Contains names other → ⊥) → now other ≡ mid other) → (other : List ℕ) → (Contains (name ∷ names) other → ⊥) → now other ≡ old other
left_behind name names old mid now first rest other none =
    rest other (λ among. none (later_of name names other among)) ∙ first other (λ same. none (subst (Contains (name ∷ names)) (sym same) (first_of name names)))

left_first : (name : List ℕ) (names : List (List ℕ)) (old mid : List ℕ → Option (List ℕ)) → ((other : List ℕ) → other ≢ name → mid other ≡ old other)
    → (other : List ℕ) → (Contains (name ∷ names) other → ⊥) → mid other ≡ old other
left_first name names old mid first other none = first other (λ same. none (subst (Contains (name ∷ names)) (sym same) (first_of name names)))

gathered : (told : List ℕ → List ℕ) (name bytes : List ℕ) (names : List (List ℕ)) (old mid now : List (List ℕ)) → mid ≡ old ++ bytes ∷ [] → bytes ≡ told name
    → now ≡ mid ++ map told names → now ≡ old ++ map told (name ∷ names)
gathered told name bytes names old mid now pushed is rest =
    rest ∙ ap (λ l. l ++ map told names) (pushed ∙ ap (λ b. old ++ b ∷ []) is) ∙ append_assoc old (told name ∷ []) (map told names)

none_long : (bytes : List ℕ) (others : List (List ℕ)) → length bytes ≤ most_file → (SomeLong others → ⊥) → SomeLong (bytes ∷ others) → ⊥
none_long bytes others short none (inl long) = omega (arith, short, long)
none_long bytes others short none (inr long) = none long

rose_later : (before between now : ℕ) → before ≤ between → Rose between now → Rose before now
rose_later before between now counted rose = omega (arith, counted, rose)

-- why nothing more is read
same_stop : {A : Type 0} (x y : WholeStop) → ◌≡◌ {A = Result A WholeStop} (Err x) (Err y) → x ≡ y
same_stop x y e = cc

pub no_stop : {A : Type 0} (value : A) (stop : WholeStop) → ◌≡◌ {A = Result A WholeStop} (Ok value) (Err stop) → ⊥
no_stop value stop e = cc

pub memory_apart : {A : Type 0} (stop : WholeStop) → stop ≢ OutOfMemory → ◌≡◌ {A = Result A WholeStop} (Err OutOfMemory) (Err stop) → ⊥
memory_apart stop apart e = apart (sym (same_stop OutOfMemory stop e))

no_long : TooLong ≢ OutOfMemory
no_long e = cc

pub no_fault : ReadFault ≢ OutOfMemory
no_fault e = cc

pub as_stop : {A B : Type 0} (x y : WholeStop) → ◌≡◌ {A = Result A WholeStop} (Err x) (Err y) → ◌≡◌ {A = Result B WholeStop} (Err x) (Err y)
as_stop x y e = ap (λ (s : WholeStop). Err s) (same_stop x y e)

stop_long : (stop : WholeStop) (bytes : List ℕ) → AnswersWhole most_file bytes (Err stop) → stop ≡ TooLong → most_file < length bytes
stop_long TooLong bytes answers is = answers
stop_long ReadFault bytes answers is = absurd (cc)
stop_long OutOfMemory bytes answers is = absurd (cc)

-- the first of the names, what the desk had before and what it has now, and the counts of its faults
module _ (name : List ℕ) (names : List (List ℕ)) (old mid : List ℕ → Option (List ℕ)) (faults_before faults_mid : ℕ) (differ : are_distinct (name ∷ names) ≡ true) where
  stopped : {A : Type 0} (before now : List (List ℕ)) (stop : WholeStop) → ((bytes : List ℕ) → old name ≡ Some bytes → AnswersWhole most_file bytes (Err stop))
      → (◌≡◌ {A = Result (List ℕ) WholeStop} (Err stop) (Err ReadFault) → Rose faults_before faults_mid) → faults_before ≤ faults_mid → TakesWhole most_file (old name) (mid name) (StaysWithin (Err stop))
      → ((other : List ℕ) → other ≢ name → mid other ≡ old other) → AreGathered {A = A} (name ∷ names) before now old mid faults_before faults_mid (Err stop)
  stopped before now stop answers fault counted taken others = record {
    read = tt;
    whole = tt;
    long = λ is told tells. inl (stop_long stop (told name) (answers (told name) (tells name (first_of name names))) (same_stop stop TooLong is));
    fault = λ is. fault (as_stop stop ReadFault is);
    counted = counted;
    taken = first_taken name names old mid _ differ others (whole_where (old name) (mid name) _ _ (stays_within stop) taken);
    others = left_first name names old mid others;
  }

  gave_up : {A : Type 0} (before now : List (List ℕ)) → faults_before ≤ faults_mid → TakesWhole most_file (old name) (mid name) ⊤ → ((other : List ℕ) → other ≢ name → mid other ≡ old other)
      → AreGathered {A = A} (name ∷ names) before now old mid faults_before faults_mid (Err OutOfMemory)
  gave_up before now counted taken others = record {
    read = tt;
    whole = tt;
    long = λ is. absurd (memory_apart TooLong no_long is);
    fault = λ is. absurd (memory_apart ReadFault no_fault is);
    counted = counted;
    taken = first_taken name names old mid _ differ others (whole_where (old name) (mid name) _ _ (λ _. tt) taken);
    others = left_first name names old mid others;
  }

  module _ (bytes : List ℕ) (answers : (all : List ℕ) → old name ≡ Some all → AnswersWhole most_file all (Ok bytes))
      (short : length bytes ≤ most_file) (done : IsAtEnd (mid name)) (counted : faults_before ≤ faults_mid) (taken : TakesWhole most_file (old name) (mid name) ⊤)
      (others : (other : List ℕ) → other ≢ name → mid other ≡ old other) where
    -- the first name's bytes, where all are told
    is_told : (told : List ℕ → List ℕ) → TellsAll (name ∷ names) old told → bytes ≡ told name
    is_told told tells = answers (told name) (tells name (first_of name names))

    short_told : (told : List ℕ → List ℕ) → TellsAll (name ∷ names) old told → length (told name) ≤ most_file
    short_told told tells = subst (λ b. length b ≤ most_file) (is_told told tells) short

    read_whole : IsReadWhole (old name) (mid name)
    read_whole = record { whole = done; short = λ all told. subst (λ b. length b ≤ most_file) (answers all told) short }

    -- what was read of the names behind it
    module _ (between now : List (List ℕ)) (left : List ℕ → Option (List ℕ)) (faults_now : ℕ) where
      long_behind : {A : Type 0} (found : Result A WholeStop) → AreGathered names between now mid left faults_mid faults_now found
          → IsErrOf found TooLong → (told : List ℕ → List ℕ) → TellsAll (name ∷ names) old told → SomeLong (map told (name ∷ names))
      long_behind found rest is told tells = inr (rest.long is told (tells_rest name names old mid told differ others tells))

      read_behind : {A : Type 0} (before : List (List ℕ)) (found : Result A WholeStop) → between ≡ before ++ bytes ∷ [] → AreGathered names between now mid left faults_mid faults_now found
          → OnOk found ((told : List ℕ → List ℕ) → TellsAll (name ∷ names) old told → (now ≡ before ++ map told (name ∷ names)) × (SomeLong (map told (name ∷ names)) → ⊥))
      read_behind before (Ok value) pushed rest = λ told tells.
          let behind = rest.read told (tells_rest name names old mid told differ others tells) in
          (gathered told name bytes names before between now pushed (is_told told tells) behind.0, none_long (told name) (map told names) (short_told told tells) behind.1)
      read_behind before (Err stop) pushed rest = tt

      whole_behind : {A : Type 0} (found : Result A WholeStop) → AreGathered names between now mid left faults_mid faults_now found → OnOk found (AreAtEnd (name ∷ names) left)
      whole_behind (Ok value) rest = all_at_end name names mid left differ rest.others done rest.whole
      whole_behind (Err stop) rest = tt

      taken_behind : {A : Type 0} (found : Result A WholeStop) → AreGathered names between now mid left faults_mid faults_now found → TakesFiles (name ∷ names) old left (IsErrOf found ReadFault)
      taken_behind found rest =
          files_taken name names old mid left differ others rest.others _ (whole_where (old name) (mid name) _ _ (λ _. tt) taken) read_whole rest.taken

      more : {A : Type 0} (before : List (List ℕ)) (found : Result A WholeStop) → between ≡ before ++ bytes ∷ [] → AreGathered names between now mid left faults_mid faults_now found
          → AreGathered (name ∷ names) before now old left faults_before faults_now found
      more before found pushed rest =
          let later = rest.counted in
          record {
            read = read_behind before found pushed rest;
            whole = whole_behind found rest;
            long = long_behind found rest;
            fault = λ is. rose_later faults_before faults_mid faults_now counted (rest.fault is);
            counted = omega (arith, counted, later);
            taken = taken_behind found rest;
            others = left_behind name names old mid left others rest.others;
          }

      pub given_all : {A : Type 0} (given : GivenFiles) (value : A) → given.policy ≡ bytes → given.files.items ≡ now → between ≡ [] → AreGathered names between now mid left faults_mid faults_now (Ok value)
          → AreGiven name names old left faults_before faults_now (Ok given)
      given_all given value policy files empty rest = record {
        read = λ told tells.
            let behind = rest.read told (tells_rest name names old mid told differ others tells) in
            let items : now ≡ map told names = behind.0 ∙ ap (λ l. l ++ map told names) empty in (
              policy ∙ is_told told tells,
              files ∙ items,
              subst (λ b. SomeLong (b ∷ given.files.items) → ⊥) (sym policy)
                  (none_long bytes given.files.items short (subst (λ l. SomeLong l → ⊥) (sym (files ∙ items)) behind.1)),
            );
        whole = whole_behind (Ok value) rest;
        long = λ is. absurd (no_stop given TooLong is);
        fault = λ is. absurd (no_stop given ReadFault is);
        counted = let later = rest.counted in omega (arith, counted, later);
        taken = files_where (name ∷ names) old left _ _ (λ is. absurd (no_stop given ReadFault is)) (taken_behind (Ok value) rest);
        others = left_behind name names old mid left others rest.others;
      }

      pub given_stopped : {A : Type 0} (stop : WholeStop) → AreGathered {A = A} names between now mid left faults_mid faults_now (Err stop) → AreGiven name names old left faults_before faults_now (Err stop)
      given_stopped stop rest = record {
        read = tt;
        whole = tt;
        long = λ is. long_behind (Err stop) rest (as_stop stop TooLong is);
        fault = λ is. rose_later faults_before faults_mid faults_now counted (rest.fault (as_stop stop ReadFault is));
        counted = let later = rest.counted in omega (arith, counted, later);
        taken = files_where (name ∷ names) old left _ _ (as_stop stop ReadFault) (taken_behind (Err stop) rest);
        others = left_behind name names old mid left others rest.others;
      }

nothing_gathered : {A : Type 0} (items : List (List ℕ)) (old : List ℕ → Option (List ℕ)) (faults : ℕ) (value : A) → AreGathered [] items items old old faults faults (Ok value)
nothing_gathered items old faults value = record {
  read = λ told tells. (sym (append-nil items), λ long. long);
  whole = λ other among. absurd (let within = among.1 in omega (arith, within));
  long = λ is. absurd (no_stop value TooLong is);
  fault = λ is. absurd (no_stop value ReadFault is);
  counted = omega arith;
  taken = none_taken [] old _;
  others = λ other none. refl;
}

-- nothing was read
pub nothing_given : (policy : List ℕ) (names : List (List ℕ)) (old : List ℕ → Option (List ℕ)) (faults : ℕ) → AreGiven policy names old old faults faults (Err OutOfMemory)
nothing_given policy names old faults = record {
  read = tt;
  whole = tt;
  long = λ is. absurd (memory_apart TooLong no_long is);
  fault = λ is. absurd (memory_apart ReadFault no_fault is);
  counted = omega arith;
  taken = none_taken (policy ∷ names) old _;
  others = λ other none. refl;
}

-- a policy that wasn't read
pub policy_stopped : (policy : List ℕ) (names : List (List ℕ)) (old mid : List ℕ → Option (List ℕ)) (faults_before faults_mid : ℕ) (stop : WholeStop) → are_distinct (policy ∷ names) ≡ true
    → ((bytes : List ℕ) → old policy ≡ Some bytes → AnswersWhole most_file bytes (Err stop)) → (◌≡◌ {A = Result (List ℕ) WholeStop} (Err stop) (Err ReadFault) → Rose faults_before faults_mid)
    → faults_before ≤ faults_mid → TakesWhole most_file (old policy) (mid policy) (StaysWithin (Err stop)) → ((other : List ℕ) → other ≢ policy → mid other ≡ old other)
    → AreGiven policy names old mid faults_before faults_mid (Err stop)
policy_stopped policy names old mid faults_before faults_mid stop differ answers fault counted taken others = record {
  read = tt;
  whole = tt;
  long = λ is told tells. inl (stop_long stop (told policy) (answers (told policy) (tells policy (first_of policy names))) (same_stop stop TooLong is));
  fault = λ is. fault (as_stop stop ReadFault is);
  counted = counted;
  taken = first_taken policy names old mid _ differ others (whole_where (old policy) (mid policy) _ _ (stays_within stop) taken);
  others = left_first policy names old mid others;
}

-- what was taken, where a value is told, or want of memory, or why nothing more is read
module _ {B : Type 0} (names : List (List ℕ)) (old left : List ℕ → Option (List ℕ)) where
  pub taken_to_tell : (fine : Type 0) (value : B) → TakesFiles names old left fine → TakesFiles names old left (◌≡◌ {A = Result B WholeStop} (Ok value) (Err ReadFault))
  taken_to_tell fine value t = files_where names old left fine _ (λ is. absurd (no_stop value ReadFault is)) t

  pub taken_in_vain : (fine : Type 0) → TakesFiles names old left fine → TakesFiles names old left (◌≡◌ {A = Result B WholeStop} (Err OutOfMemory) (Err ReadFault))
  taken_in_vain fine t = files_where names old left fine _ (λ is. absurd (memory_apart ReadFault no_fault is)) t

  pub taken_up_to : {A : Type 0} (stop : WholeStop) → TakesFiles names old left (◌≡◌ {A = Result A WholeStop} (Err stop) (Err ReadFault))
      → TakesFiles names old left (◌≡◌ {A = Result B WholeStop} (Err stop) (Err ReadFault))
  taken_up_to stop t = files_where names old left _ _ (as_stop stop ReadFault) t

-- some names were read, and what is made of those behind is made of all
pub record IsUnderWay (names behind before between : List (List ℕ)) (old mid : List ℕ → Option (List ℕ)) (faults_before faults_mid : ℕ) : Type 0 where
  pub differ : are_distinct behind ≡ true
  pub whole : (now : List (List ℕ)) (left : List ℕ → Option (List ℕ)) (faults_now : ℕ) (found : Result (Unit {0}) WholeStop)
      → AreGathered behind between now mid left faults_mid faults_now found → AreGathered names before now old left faults_before faults_now found

pub none_read : (names before : List (List ℕ)) (old : List ℕ → Option (List ℕ)) (faults : ℕ) → are_distinct names ≡ true → IsUnderWay names names before before old old faults faults
none_read names before old faults differ = record { differ = differ; whole = λ now left faults_now found gathered. gathered }

pub all_read : (names behind before between : List (List ℕ)) (old mid : List ℕ → Option (List ℕ)) (faults_before faults_mid : ℕ) (value : Unit {0})
    → behind ≡ [] → IsUnderWay names behind before between old mid faults_before faults_mid → AreGathered names before between old mid faults_before faults_mid (Ok value)
all_read names behind before between old mid faults_before faults_mid value none under =
    under.whole between mid faults_mid (Ok value)
    (subst (λ b. AreGathered b between between mid mid faults_mid faults_mid (Ok value)) (sym none) (nothing_gathered between mid faults_mid value))

-- one name more is read, or the reading ends there
module _ (names behind later : List (List ℕ)) (name : List ℕ) (before between : List (List ℕ)) (old mid left : List ℕ → Option (List ℕ)) (faults_before faults_mid faults_left : ℕ)
    (front : behind ≡ name ∷ later) (under : IsUnderWay names behind before between old mid faults_before faults_mid)
    (counted : faults_mid ≤ faults_left) (others : (other : List ℕ) → other ≢ name → left other ≡ mid other) where
  here : IsUnderWay names (name ∷ later) before between old mid faults_before faults_mid
  here = subst (λ b. IsUnderWay names b before between old mid faults_before faults_mid) front under

  pub read_on : (bytes : List ℕ) (items : List (List ℕ)) → ((all : List ℕ) → mid name ≡ Some all → AnswersWhole most_file all (Ok bytes)) → length bytes ≤ most_file → IsAtEnd (left name)
      → TakesWhole most_file (mid name) (left name) ⊤ → items ≡ between ++ bytes ∷ [] → IsUnderWay names later before items old left faults_before faults_left
  read_on bytes items answers short done taken pushed = record {
    differ = distinct_rest name later here.differ;
    whole = λ now end faults_now found rest.
        here.whole now end faults_now found
        (more name later mid left faults_mid faults_left here.differ bytes answers short done counted taken others items now end faults_now between found pushed rest);
  }

  pub ended : (stop : WholeStop) → ((bytes : List ℕ) → mid name ≡ Some bytes → AnswersWhole most_file bytes (Err stop))
      → (◌≡◌ {A = Result (List ℕ) WholeStop} (Err stop) (Err ReadFault) → Rose faults_mid faults_left) → TakesWhole most_file (mid name) (left name) (StaysWithin (Err stop))
      → AreGathered {A = Unit {0}} names before between old left faults_before faults_left (Err stop)
  ended stop answers fault taken =
      here.whole between left faults_left (Err stop) (stopped name later mid left faults_mid faults_left here.differ between between stop answers fault counted taken others)

  pub ended_for_memory : (now : List (List ℕ)) → TakesWhole most_file (mid name) (left name) ⊤ → AreGathered {A = Unit {0}} names before now old left faults_before faults_left (Err OutOfMemory)
  ended_for_memory now taken = here.whole now left faults_left (Err OutOfMemory) (gave_up name later mid left faults_mid faults_left here.differ between now counted taken others)
