-- What a time, a policy and files come to as a setup, of their bytes alone.
use Rattle.std.specs.Prelude.{◌≡◌, ◌⊎◌, ℕ, Bool, List, ◌∷◌, codes}
use Rattle.cluster_setup.specs.Answers.{IsMade, Refuses}
use Rattle.cluster_setup.specs.Gathering.{SomeLong}
use Rattle.cluster_setup.specs.Telling.{refusal_words}
use Rattle.cluster_setup.specs.Told.{Tells}
use Rattle.cluster_setup.specs.declared.fault.SetupRefusal.{SetupRefusal}
use Rattle.log_verdict.specs.Answers.{Answer, answer}
use Rattle.verdict_text.specs.Words.{ended}

abbrev pub refused_answer : List (List ℕ) → SetupRefusal → Answer
refused_answer names refusal = answer 3 (ended (refusal_words names refusal))

-- the setup, a line which its readers take as it stands as one of these bytes and of nothing else; or why none is made of files with these names
abbrev pub IsMadeAnswer : Bool → (time policy : List ℕ) → (names files : List (List ℕ)) → Answer → Type 0
IsMadeAnswer authorize time policy names files answered =
    ((line : List ℕ) × IsMade time policy files authorize line × Tells time policy files authorize line × (answered ≡ answer 0 line))
    ⊎ ((refusal : SetupRefusal) × Refuses time policy files authorize refusal × (answered ≡ refused_answer names refusal))

-- the limit comes first
abbrev pub IsSetupAnswer : Bool → (time policy : List ℕ) → (names files : List (List ℕ)) → Answer → Type 0
IsSetupAnswer authorize time policy names files answered =
    (SomeLong (policy ∷ files) × (answered ≡ answer 7 (ended (codes "limit file"))))
    ⊎ ((SomeLong (policy ∷ files) → ⊥) × IsMadeAnswer authorize time policy names files answered)
