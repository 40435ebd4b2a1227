-- Texts that are put one behind another.
use Rattle.std.proofs.Common.{◌≡◌, ℕ, List, ◌++◌, Result, OnOk, ap, append_assoc, ◌∙◌}
use Rattle.std.proofs.lemmas.Result.{on_ok_weaker}

pub joined : (old t1 t2 t3 a b c : List ℕ) → t1 ≡ old ++ a → t2 ≡ t1 ++ b → t3 ≡ t2 ++ c → t3 ≡ old ++ (a ++ (b ++ c))
joined old t1 t2 t3 a b c first second third =
    third ∙ ap (λ t. t ++ c) (second ∙ ap (λ t. t ++ b) first) ∙ append_assoc (old ++ a) b c ∙ append_assoc old a (b ++ c)

-- what a last call promises where it goes well, said of the whole text
pub then_ok : {T E P Q : Type 0} (r : Result T E) → OnOk r P → (P → Q) → OnOk r Q
then_ok r last whole = on_ok_weaker r whole last
