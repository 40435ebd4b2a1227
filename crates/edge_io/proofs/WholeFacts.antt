-- What is answered to a name that is read to its end, wherever its reading stops.
use Rattle.std.proofs.Common.{◌≡◌, ◌≢◌, ℕ, ◌-◌, ◌<◌, ◌≤◌, List, [], ◌++◌, length, take, Option, Some, Ok, Err, refl, sym, ◌∙◌, ap, subst, arith}
use Rattle.std.proofs.lemmas.List.{append-nil, length-append, length-take}
use Rattle.std.specs.Io.KnownBytes.{Consumes, Keeps, IsAtEnd}
use Rattle.edge_io.specs.Faults.{Rose}
use Rattle.edge_io.specs.Whole.{AnswersWhole, HasTaken, ReadsWhole, StaysWithin}
use Rattle.edge_io.specs.declared.whole.WholeStop.{WholeStop}
use Rattle.edge_io.specs.declared.whole.WholeStop.TheVariants.{TooLong, ReadFault, OutOfMemory}
use Rattle.edge_io.proofs.TakenFacts.{nothing_is, taken_all, taken_as, taken_kept, taken_piece, taken_then}

-- a read failed behind these bytes
pub whole_failed : (most : ℕ) (old middle now : Option (List ℕ)) (faults faults' : ℕ) (bytes : List ℕ) → length bytes ≤ most → HasTaken old middle bytes → Keeps middle now → faults ≤ faults' → Rose faults faults'
    → ReadsWhole most old now faults faults' (Err ReadFault)
whole_failed most old middle now faults faults' bytes within told keeps counted rose = record {
  answers = λ all is. tt;
  within = tt;
  whole = tt;
  fault = λ _. rose;
  counted = counted;
  taken = record {
    front = bytes;
    piece = [];
    taken = taken_then old middle now bytes [] told (taken_kept middle now keeps);
    within = within;
    short = omega arith;
    blameless = λ _. refl;
  };
}

-- the bytes ended
pub whole_ended : (most : ℕ) (old middle now : Option (List ℕ)) (faults faults' : ℕ) (all bytes piece : List ℕ) → all ≡ bytes → length bytes ≤ most → HasTaken old middle bytes → Consumes middle now piece → length piece ≡ 0 → IsAtEnd now → faults ≤ faults'
    → ReadsWhole most old now faults faults' (Ok all)
whole_ended most old middle now faults faults' all bytes piece same within told consumed none end counted =
    let taken : HasTaken old now (bytes ++ piece) = taken_then old middle now bytes piece told (taken_piece middle now piece consumed) in
    let whole : bytes ++ piece ≡ bytes = ap (λ l. bytes ++ l) (nothing_is piece none) ∙ append-nil bytes in
    record {
      answers = λ all' is. same ∙ sym (taken_all old now bytes all' (taken_as old now (bytes ++ piece) bytes whole taken) is end);
      within = subst (λ l. length l ≤ most) (sym same) within;
      whole = end;
      fault = λ is. absurd (let no : Ok all ≡ Err ReadFault = is in cc);
      counted = counted;
      taken = record {
        front = bytes;
        piece = piece;
        taken = taken;
        within = within;
        short = omega (arith, none);
        blameless = λ _. nothing_is piece none;
      };
    }

-- a piece came behind these bytes, and no more is read
whole_piece : (most : ℕ) (old middle now : Option (List ℕ)) (faults faults' : ℕ) (bytes into : List ℕ) (count : ℕ) (why : WholeStop) → length bytes ≤ most → HasTaken old middle bytes → Consumes middle now (take count into) → count ≤ length into → length into ≤ 65536 → faults ≤ faults'
    → ((all : List ℕ) → old ≡ Some all → AnswersWhole most all (Err why)) → (StaysWithin (Err why) → ⊥) → (why ≢ ReadFault) → ReadsWhole most old now faults faults' (Err why)
whole_piece most old middle now faults faults' bytes into count why within told consumed long small counted answers over fine =
    let short = length-take count into in
    record {
      answers = answers;
      within = tt;
      whole = tt;
      fault = λ is. absurd (fine (let here : why ≡ ReadFault = cc in here));
      counted = counted;
      taken = record {
        front = bytes;
        piece = take count into;
        taken = taken_then old middle now bytes (take count into) told (taken_piece middle now (take count into) consumed);
        within = within;
        short = omega (arith, short, long, small);
        blameless = λ is. absurd (over is);
      };
    }

pub whole_long : (most : ℕ) (old middle now : Option (List ℕ)) (faults faults' : ℕ) (bytes into : List ℕ) (count : ℕ) → length bytes ≤ most → HasTaken old middle bytes → Consumes middle now (take count into) → count ≤ length into → length into ≤ 65536 → faults ≤ faults'
    → most - length bytes < count → ReadsWhole most old now faults faults' (Err TooLong)
whole_long most old middle now faults faults' bytes into count within told consumed long small counted many =
    whole_piece most old middle now faults faults' bytes into count TooLong within told consumed long small counted
    (λ all is.
    let front = taken_then old middle now bytes (take count into) told (taken_piece middle now (take count into) consumed) all is in
    let sum = length-append (bytes ++ take count into) front.0 in
    let sum' = length-append bytes (take count into) in
    let short = length-take count into in
    let whole : length all ≡ length ((bytes ++ take count into) ++ front.0) = ap length front.2 in
    omega (arith, whole, sum, sum', short, long, many, within))
    (λ never. never)
    (λ is. cc)

pub whole_memory : (most : ℕ) (old middle now : Option (List ℕ)) (faults faults' : ℕ) (bytes into : List ℕ) (count : ℕ) → length bytes ≤ most → HasTaken old middle bytes → Consumes middle now (take count into) → count ≤ length into → length into ≤ 65536 → faults ≤ faults'
    → ReadsWhole most old now faults faults' (Err OutOfMemory)
whole_memory most old middle now faults faults' bytes into count within told consumed long small counted =
    whole_piece most old middle now faults faults' bytes into count OutOfMemory within told consumed long small counted (λ all is. tt) (λ never. never) (λ is. cc)
