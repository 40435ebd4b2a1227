-- The text of a check's answer.
use Rattle.std.specs.Prelude.{ℕ, List, [], ◌∷◌, ◌++◌, codes, decimal}
use Rattle.base_types.specs.Reasons.{code_number}
use Rattle.verdict_text.specs.Words.{ended, spaced}
use Rattle.serial_machine.specs.declared.checked.Checked.{Checked}
use Rattle.serial_machine.specs.declared.checked.Checked.TheVariants.{Holds, Wrong}
use Rattle.serial_machine.specs.declared.fault.WrongCode.{WrongCode}
use Rattle.serial_machine.specs.declared.fault.WrongCode.TheVariants.{V1, V2, Judged}

-- `V1`, `V2`, or `U` and the number of a code
abbrev pub code_text : WrongCode → List ℕ
code_text V1 = codes "V1"
code_text V2 = codes "V2"
code_text (Judged reason) = codes "U" ++ decimal (code_number reason)

-- `holds`, or `wrong LINE CODE`
abbrev pub checked_text : Checked → List ℕ
checked_text Holds = ended (codes "holds")
checked_text (Wrong line code) = ended (spaced (codes "wrong" ∷ decimal line ∷ code_text code ∷ []))
