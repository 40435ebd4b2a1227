use Rattle.std.proofs.Common.{arith, refl}
use Rattle.log_sift.proofs.NamedFacts.{failed_read, memory_apart, none_taken, not_read, sifted_as, stays_within, taken_where, told_apart}
use Rattle.log_sift.proofs.named.sift_named.Goals as goal

pub returns-in_default : goal.returns-in_default
returns-in_default g c = record {
  answered = λ bytes is. tt;
  within = tt;
  whole = tt;
  fault = λ is. absurd (memory_apart is);
  counted = omega arith;
  taken = none_taken _ _ _;
  others = λ other differs. refl;
}

pub returns-in-Ok-sift_text : goal.returns-in-Ok-sift_text
returns-in-Ok-sift_text g c =
    let read = c.in-Ok-read_whole.ensures.reads in
    record {
      answered = λ bytes is. sifted_as c.args.left bytes c.in-Ok-read_whole.bytes c.in-Ok-sift_text.text (read.answers bytes is) read.within c.in-Ok-sift_text.ensures.text;
      within = c.in-Ok-sift_text.ensures.within;
      whole = read.whole;
      fault = λ is. absurd (told_apart c.in-Ok-sift_text.text is);
      counted = read.counted;
      taken = taken_where _ _ _ _ _ (λ _. tt) read.taken;
      others = c.in-Ok-read_whole.ensures.others;
    }

pub returns-in-Ok-read_whole : goal.returns-in-Ok-read_whole
returns-in-Ok-read_whole g c =
    let read = c.in-Ok-read_whole.ensures.reads in
    record {
      answered = λ bytes is. tt;
      within = tt;
      whole = tt;
      fault = λ is. absurd (memory_apart is);
      counted = read.counted;
      taken = taken_where _ _ _ _ _ (λ _. tt) read.taken;
      others = c.in-Ok-read_whole.ensures.others;
    }

pub returns : goal.returns
returns g c =
    let read = c.in-Err.ensures.reads in
    record {
      answered = λ bytes is. not_read c.args.left bytes c.in-Err.stop (read.answers bytes is);
      within = tt;
      whole = tt;
      fault = λ is. read.fault (failed_read c.in-Err.stop is);
      counted = read.counted;
      taken = taken_where _ _ _ _ _ (stays_within c.in-Err.stop) read.taken;
      others = c.in-Err.ensures.others;
    }
