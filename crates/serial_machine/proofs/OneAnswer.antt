-- A placement comes to one answer.
use Rattle.std.proofs.Common.{◌≡◌, List, refl, ap, ap₂}
use Rattle.base_types.specs.declared.verdict.claim.Reason.{Reason}
use Rattle.base_types.specs.declared.verdict.placed.PlacedLine.{PlacedLine}
use Rattle.history_model.proofs.CheckLaw.{fault_is, one_fault_is}
use Rattle.history_model.specs.Checking as model
use Rattle.history_model.specs.Histories.{History}
use Rattle.history_model.specs.Readable.{IsReadable}
use Rattle.serial_machine.specs.Checks.{IsChecked, check_code}
use Rattle.serial_machine.specs.declared.checked.Checked.{Checked}
use Rattle.serial_machine.specs.declared.checked.Checked.TheVariants.{Holds, Wrong}
use Rattle.serial_machine.specs.declared.fault.WrongCode.{WrongCode}
use Rattle.serial_machine.specs.declared.fault.WrongCode.TheVariants.{V1, V2, Judged}

same_reason : (a b : Reason) → model.Judged a ≡ model.Judged b → a ≡ b
same_reason a b e = cc e

-- codes are told apart in the model
same_code : (a b : WrongCode) → check_code a ≡ check_code b → a ≡ b
same_code V1 V1 e = refl
same_code V1 V2 e = absurd (cc e)
same_code V1 (Judged d) e = absurd (cc e)
same_code V2 V1 e = absurd (cc e)
same_code V2 V2 e = refl
same_code V2 (Judged d) e = absurd (cc e)
same_code (Judged c) V1 e = absurd (cc e)
same_code (Judged c) V2 e = absurd (cc e)
same_code (Judged c) (Judged d) e = ap (λ (r : Reason). Judged r) (same_reason c d e)

pub one_answer_is : (h : History) (lines : List PlacedLine) (answer other : Checked) → IsReadable h → IsChecked h lines answer → IsChecked h lines other → answer ≡ other
one_answer_is h lines Holds Holds r x y = refl
one_answer_is h lines Holds (Wrong line code) r x y = absurd (fault_is h r lines line (check_code code) y x)
one_answer_is h lines (Wrong line code) Holds r x y = absurd (fault_is h r lines line (check_code code) x y)
one_answer_is h lines (Wrong a c) (Wrong b d) r x y = ap₂ (λ line code. Wrong line code) same.0 (same_code c d same.1)
  where
    same : (a ≡ b) × (check_code c ≡ check_code d)
    same = one_fault_is h r lines a b (check_code c) (check_code d) x y
