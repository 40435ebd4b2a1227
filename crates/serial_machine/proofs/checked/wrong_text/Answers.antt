use Rattle.std.proofs.Common.{◌∙◌, ◌++◌, ap, codes, decimal, sym}
use Rattle.std.proofs.lemmas.Result.{IfOk-weaker}
use Rattle.serial_machine.proofs.Texting.{wrong_told}
use Rattle.serial_machine.proofs.checked.wrong_text.Goals as goal
use Rattle.serial_machine.specs.Texts.{code_text}

pub returns-in-V1 : goal.returns-in-V1
returns-in-V1 c = IfOk-weaker c.format.result _ _ (λ text is. is ∙ wrong_told c.args.line c.args.code (codes "V1") (ap code_text c.in-V1.is)) c.format.ensures.ok

pub returns-in-V2 : goal.returns-in-V2
returns-in-V2 c = IfOk-weaker c.format-in-V2.result _ _ (λ text is. is ∙ wrong_told c.args.line c.args.code (codes "V2") (ap code_text c.in-V2.is)) c.format-in-V2.ensures.ok

pub returns-in-Judged : goal.returns-in-Judged
returns-in-Judged c = IfOk-weaker c.format-in-Judged.result _ _
    (λ text is. is ∙ wrong_told c.args.line c.args.code (codes "U" ++ decimal c.number-number.result)
    (ap code_text c.in-Judged.is ∙ ap (λ n. codes "U" ++ decimal n) (sym c.number-number.ensures)))
    c.format-in-Judged.ensures.ok
