-- The text of a refused line is its words with a space between two.
use Rattle.std.proofs.Common.{◌≡◌, ℕ, List, [], ◌∷◌, ◌++◌, codes, decimal, sym, ap, ◌∙◌, append_assoc}
use Rattle.verdict_text.specs.Words.{ended, spaced}
use Rattle.log_verdict.specs.Answers.{Answer, answer}

abbrev line_text : ℕ → ℕ → List ℕ
line_text line rule = codes "malformed " ++ (decimal line ++ (codes " M" ++ (decimal rule ++ codes "\n")))

abbrev line_words : ℕ → ℕ → List ℕ
line_words line rule = ended (spaced (codes "malformed" ∷ decimal line ∷ (codes "M" ++ decimal rule) ∷ []))

line_spelled : (line rule : ℕ) → line_text line rule ≡ line_words line rule
line_spelled line rule = ap (λ (rest : List ℕ). codes "malformed " ++ rest) (sym (append_assoc (decimal line) (codes " M" ++ decimal rule) (codes "\n")))

pub malformed_answer : (reported : Answer) (text : List ℕ) (line number rule : ℕ) → reported ≡ answer 4 text
    → text ≡ codes "malformed " ++ (decimal line ++ (codes " M" ++ (decimal number ++ codes "\n"))) → number ≡ rule
    → reported ≡ answer 4 (ended (spaced (codes "malformed" ∷ decimal line ∷ (codes "M" ++ decimal rule) ∷ [])))
malformed_answer reported text line number rule is written numbered =
    is ∙ ap (answer 4) (written ∙ ap (line_text line) numbered ∙ line_spelled line rule)
