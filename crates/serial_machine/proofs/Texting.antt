-- The text of a wrong line is its words with a space between two.
use Rattle.std.proofs.Common.{◌≡◌, ℕ, List, [], ◌∷◌, ◌++◌, ◌∙◌, codes, decimal, sym, ap, append_assoc}
use Rattle.serial_machine.specs.Texts.{code_text}
use Rattle.serial_machine.specs.declared.fault.WrongCode.{WrongCode}
use Rattle.verdict_text.specs.Words.{ended, spaced}

wrong_spelled : (line : ℕ) (code : List ℕ) → codes "wrong " ++ (decimal line ++ (codes " " ++ (code ++ codes "\n"))) ≡ ended (spaced (codes "wrong" ∷ decimal line ∷ code ∷ []))
wrong_spelled line code = ap (λ (rest : List ℕ). codes "wrong " ++ rest) (sym (append_assoc (decimal line) (codes " " ++ code) (codes "\n")))

pub wrong_told : (line : ℕ) (code : WrongCode) (name : List ℕ) → code_text code ≡ name
    → codes "wrong " ++ (decimal line ++ (codes " " ++ (name ++ codes "\n"))) ≡ ended (spaced (codes "wrong" ∷ decimal line ∷ code_text code ∷ []))
wrong_told line code name is = wrong_spelled line name ∙ ap (λ (c : List ℕ). ended (spaced (codes "wrong" ∷ decimal line ∷ c ∷ []))) (sym is)
