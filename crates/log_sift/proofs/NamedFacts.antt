-- Why nothing is told of a log, and what was taken of it.
use Rattle.std.proofs.Common.{◌≡◌, ◌≤◌, ℕ, Bool, List, [], length, Option, Result, Ok, Err, refl, subst, arith}
use Rattle.edge_io.specs.Whole.{AnswersWhole, StaysWithin, TakesWhole}
use Rattle.edge_io.specs.declared.whole.WholeStop.{WholeStop}
use Rattle.edge_io.specs.declared.whole.WholeStop.TheVariants.{TooLong, ReadFault, OutOfMemory}
use Rattle.edge_io.proofs.TakenFacts.{taken_nothing}
use Rattle.log_sift.specs.Named.{AnswersSift, IsSiftText, most_log, shown_text}
use Rattle.log_sift.specs.declared.named.SiftText.{SiftText}

pub not_read : (left : Bool) (log : List ℕ) (stop : WholeStop) → AnswersWhole most_log log (Err stop) → AnswersSift left log (Err stop)
not_read left log TooLong long = long
not_read left log ReadFault answers = tt
not_read left log OutOfMemory answers = tt

-- what the bytes come to that were read
pub sifted_as : (left : Bool) (log all : List ℕ) (text : SiftText) → all ≡ log → length all ≤ most_log → IsSiftText left all (shown_text text) → AnswersSift left log (Ok text)
sifted_as left log all text is within sifted = subst (λ l. AnswersSift left l (Ok text)) is (within, sifted)

-- nothing was taken
pub none_taken : (most : ℕ) (log : Option (List ℕ)) (fine : Type 0) → TakesWhole most log log fine
none_taken most log fine = record {
  front = [];
  piece = [];
  taken = taken_nothing log;
  within = omega arith;
  short = omega arith;
  blameless = λ _. refl;
}

pub taken_where : (most : ℕ) (old now : Option (List ℕ)) (fine fine' : Type 0) → (fine' → fine) → TakesWhole most old now fine → TakesWhole most old now fine'
taken_where most old now fine fine' weaker t = record {
  front = t.front;
  piece = t.piece;
  taken = t.taken;
  within = t.within;
  short = t.short;
  blameless = λ is. t.blameless (weaker is);
}

-- a log that ended where a read failed
pub stays_within : (stop : WholeStop) → ◌≡◌ {A = Result SiftText WholeStop} (Err stop) (Err ReadFault) → StaysWithin (Err stop)
stays_within TooLong is = absurd (cc)
stays_within ReadFault is = tt
stays_within OutOfMemory is = absurd (cc)

-- no read failed where a text is told, or memory was wanted
pub told_apart : (text : SiftText) → ◌≡◌ {A = Result SiftText WholeStop} (Ok text) (Err ReadFault) → ⊥
told_apart text is = cc

pub memory_apart : ◌≡◌ {A = Result SiftText WholeStop} (Err OutOfMemory) (Err ReadFault) → ⊥
memory_apart is = cc

-- a read failed where it is said so
pub failed_read : (stop : WholeStop) → ◌≡◌ {A = Result SiftText WholeStop} (Err stop) (Err ReadFault) → ◌≡◌ {A = Result (List ℕ) WholeStop} (Err stop) (Err ReadFault)
failed_read TooLong is = absurd (cc)
failed_read ReadFault is = refl
failed_read OutOfMemory is = absurd (cc)
