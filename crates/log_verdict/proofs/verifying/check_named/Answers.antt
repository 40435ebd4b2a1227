use Rattle.std.proofs.Common.{◌≡◌, Ok, Err, refl, sym, subst}
use Rattle.edge_io.specs.Whole.{StaysWithin}
use Rattle.context_intake.proofs.ReadingFacts.{whole_untouched}
use Rattle.context_intake.specs.declared.stop.Stop.TheVariants.{OutOfMemory, ReadFault}
use Rattle.log_verdict.specs.declared.verified.Verified.TheVariants.{TooLong}
use Rattle.log_verdict.proofs.VerifyingFacts.{text_read, whole_from}
use Rattle.log_verdict.proofs.verifying.check_named.Goals as goal

pub returns-in_default-clause-taken : goal.returns-in_default-clause-taken
returns-in_default-clause-taken g c = whole_untouched _ _ _ _ refl

pub returns-in_err-checked_text-in-Ok-read_whole-clause-taken : goal.returns-in_err-checked_text-in-Ok-read_whole-clause-taken
returns-in_err-checked_text-in-Ok-read_whole-clause-taken g c = whole_from _ _ _ _ _ _ refl (λ is. tt) c.in-Ok-read_whole.ensures.reads.taken

pub returns-in-Ok-read_whole-clause-whole : goal.returns-in-Ok-read_whole-clause-whole
returns-in-Ok-read_whole-clause-whole g c = text_read c.in_ok-checked_text-in-Ok-read_whole.field-0 _ c.in_ok-checked_text-in-Ok-read_whole.ensures.told c.in-Ok-read_whole.ensures.reads.whole

pub returns-in-Ok-read_whole-clause-taken : goal.returns-in-Ok-read_whole-clause-taken
returns-in-Ok-read_whole-clause-taken g c = whole_from _ _ _ _ _ _ refl (λ is. tt) c.in-Ok-read_whole.ensures.reads.taken

pub returns-in-Err-TooLong-clause-taken : goal.returns-in-Err-TooLong-clause-taken
returns-in-Err-TooLong-clause-taken g c = whole_from _ _ _ _ _ _ refl (λ is. absurd (let no : Ok TooLong ≡ Err ReadFault = is in cc)) c.in-Err-TooLong.ensures.reads.taken

pub returns-in-Err-ReadFault-clause-taken : goal.returns-in-Err-ReadFault-clause-taken
returns-in-Err-ReadFault-clause-taken g c = whole_from _ _ _ _ _ _ refl (λ _. subst (λ s. StaysWithin (Err s)) (sym c.in-Err-ReadFault.field-0-is) tt) c.in-Err-ReadFault.ensures.reads.taken

pub returns-clause-taken : goal.returns-clause-taken
returns-clause-taken g c = whole_from _ _ _ _ _ _ refl (λ is. absurd (let no : Err OutOfMemory ≡ Err ReadFault = is in cc)) c.in-Err-OutOfMemory.ensures.reads.taken
