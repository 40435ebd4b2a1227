-- What is answered to a setup, as its bytes were read whole or not.
use Rattle.std.proofs.Common.{◌≡◌, ◌≢◌, ℕ, ◌≤◌, List, length, Option, Result, Ok, Err, IfOk, refl, subst, sym}
use Rattle.edge_io.specs.Whole.{ReadsWhole}
use Rattle.edge_io.specs.declared.whole.WholeStop.{WholeStop}
use Rattle.edge_io.specs.declared.whole.WholeStop.TheVariants as whole
use Rattle.setup_file.specs.declared.setup.Setup.{Setup}
use Rattle.setup_file.specs.Sound.{IsSound}
use Rattle.log_intake.specs.declared.stop.SetupStop.{SetupStop}
use Rattle.log_intake.specs.declared.stop.SetupStop.TheVariants.{TooLong, ReadFault, OutOfMemory}
use Rattle.log_intake.specs.Setup.{AnswersSetup, ReadsSetup, most_checkpoints, most_setup, stop_of}

-- the bytes were read to their end
setup_read : (old now : Option (List ℕ)) (faults faults' : ℕ) (bytes : List ℕ) (answer : Result Setup SetupStop) → ReadsWhole most_setup old now faults faults' (Ok bytes)
    → AnswersSetup bytes answer → IfOk answer IsSound → IfOk answer (λ setup. length setup.checkpoints ≤ most_checkpoints) → answer ≢ Err ReadFault → ReadsSetup old now faults faults' answer
setup_read old now faults faults' bytes answer read answers sound few fine = record {
  answers = λ all is. subst (λ l. AnswersSetup l answer) (read.answers all is) answers;
  sound = sound;
  few = few;
  whole = λ _. read.whole;
  fault = λ is. absurd (fine is);
  counted = read.counted;
  taken = record {
    front = read.taken.front;
    piece = read.taken.piece;
    taken = read.taken.taken;
    within = read.taken.within;
    short = read.taken.short;
    blameless = λ _. read.taken.blameless tt;
  };
}

-- the same of what is told with more
pub setup_told : (old now : Option (List ℕ)) (faults faults' : ℕ) (bytes : List ℕ) (answer told : Result Setup SetupStop) → told ≡ answer → ReadsWhole most_setup old now faults faults' (Ok bytes)
    → AnswersSetup bytes answer → IfOk answer IsSound → IfOk answer (λ setup. length setup.checkpoints ≤ most_checkpoints) → answer ≢ Err ReadFault → ReadsSetup old now faults faults' told
setup_told old now faults faults' bytes answer told same read answers sound few fine =
    subst (λ a. ReadsSetup old now faults faults' a) (sym same) (setup_read old now faults faults' bytes answer read answers sound few fine)

-- the bytes weren't read to their end
pub setup_stopped : (old now : Option (List ℕ)) (faults faults' : ℕ) (stop : WholeStop) → ReadsWhole most_setup old now faults faults' (Err stop) → ReadsSetup old now faults faults' (Err (stop_of stop))
setup_stopped old now faults faults' whole.TooLong read = record {
  answers = read.answers;
  sound = tt;
  few = tt;
  whole = λ never. absurd never;
  fault = λ is. absurd (let no : Err TooLong ≡ Err ReadFault = is in cc);
  counted = read.counted;
  taken = read.taken;
}
setup_stopped old now faults faults' whole.ReadFault read = record {
  answers = λ all is. tt;
  sound = tt;
  few = tt;
  whole = λ never. absurd never;
  fault = λ _. read.fault refl;
  counted = read.counted;
  taken = read.taken;
}
setup_stopped old now faults faults' whole.OutOfMemory read = record {
  answers = λ all is. tt;
  sound = tt;
  few = tt;
  whole = λ never. absurd never;
  fault = λ is. absurd (let no : Err OutOfMemory ≡ Err ReadFault = is in cc);
  counted = read.counted;
  taken = read.taken;
}
