-- One piece after another is appended.
use Rattle.std.proofs.Common.{◌≡◌, ℕ, List, ◌++◌, ap, ◌∙◌, append_assoc}

pub appended : (now was old front piece : List ℕ) → was ≡ old ++ front → now ≡ was ++ piece → now ≡ old ++ (front ++ piece)
appended now was old front piece before last = last ∙ ap (λ l. l ++ piece) before ∙ append_assoc old front piece
