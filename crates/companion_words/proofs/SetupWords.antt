-- The words of a setup are those of no other command.
use Rattle.std.proofs.Common.{◌≡◌, ◌≢◌, ℕ, Bool, true, false, List, [], ◌∷◌, length, Option, Some, None, codes, refl, sym, ◌∙◌, ap, arith}
use Rattle.companion_words.specs.Command.{AreInputs, Asked, Explain, IsRead, IsSetupRead, Picture, Setup, Sift, Spells, sift_words}
use Rattle.companion_words.specs.declared.words.Command.{Command}

head_of : List (List ℕ) → List ℕ
head_of [] = []
head_of (word ∷ words) = word

rest_of : List (List ℕ) → List (List ℕ)
rest_of [] = []
rest_of (word ∷ words) = words

head_is : (word : List ℕ) (words : List (List ℕ)) → head_of (word ∷ words) ≡ word
unfolding head_of
head_is word words = refl

rest_is : (word : List ℕ) (words : List (List ℕ)) → rest_of (word ∷ words) ≡ words
unfolding rest_of
rest_is word words = refl

same_head : (a b : List ℕ) (later behind : List (List ℕ)) → a ∷ later ≡ b ∷ behind → a ≡ b
same_head a b later behind same = sym (head_is a later) ∙ ap head_of same ∙ head_is b behind

same_rest : (a b : List ℕ) (later behind : List (List ℕ)) → a ∷ later ≡ b ∷ behind → later ≡ behind
same_rest a b later behind same = sym (rest_is a later) ∙ ap rest_of same ∙ rest_is b behind

no_explain : (words code : List (List ℕ)) → codes "setup" ∷ words ≡ codes "explain" ∷ code → ⊥
no_explain words code same = let long : 5 ≡ 7 = ap length (same_head (codes "setup") (codes "explain") words code same) in omega (arith, long)

no_sift : (left : Bool) (log : List ℕ) (words : List (List ℕ)) → codes "setup" ∷ words ≡ sift_words left log → ⊥
no_sift true log words same = let long : 5 ≡ 4 = ap length (same_head (codes "setup") (codes "sift") words (codes "--left" ∷ log ∷ []) same) in omega (arith, long)
no_sift false log words same = let long : 5 ≡ 4 = ap length (same_head (codes "setup") (codes "sift") words (log ∷ []) same) in omega (arith, long)

no_picture : (setup log : List ℕ) (words : List (List ℕ)) → codes "setup" ∷ words ≡ codes "picture" ∷ setup ∷ log ∷ [] → ⊥
no_picture setup log words same = let long : 5 ≡ 7 = ap length (same_head (codes "setup") (codes "picture") words (setup ∷ log ∷ []) same) in omega (arith, long)

-- words whose first isn't the mode
no_plain : (first : List ℕ) (rest : List (List ℕ)) → first ≢ codes "--authorize"
    → ((time policy : List ℕ) (files : List (List ℕ)) → first ∷ rest ≡ time ∷ policy ∷ files → AreInputs time policy files → ⊥)
    → (asked : Asked) → Spells asked (codes "setup" ∷ first ∷ rest) → ⊥
no_plain first rest apart none (Explain text) (code, same, is) = no_explain (first ∷ rest) code same
no_plain first rest apart none (Sift left log) same = no_sift left log (first ∷ rest) same
no_plain first rest apart none (Picture setup log) (same, differ, named) = no_picture setup log (first ∷ rest) same
no_plain first rest apart none (Setup true time policy files) (same, inputs) =
    apart (same_head first (codes "--authorize") rest (time ∷ policy ∷ files) (same_rest (codes "setup") (codes "setup") (first ∷ rest) (codes "--authorize" ∷ time ∷ policy ∷ files) same))
no_plain first rest apart none (Setup false time policy files) (same, inputs) =
    none time policy files (same_rest (codes "setup") (codes "setup") (first ∷ rest) (time ∷ policy ∷ files) same) inputs

pub plain_read : (first : List ℕ) (rest : List (List ℕ)) (result : Option Command) → first ≢ codes "--authorize" → IsSetupRead false (first ∷ rest) result → IsRead (codes "setup" ∷ first ∷ rest) result
plain_read first rest (Some command) apart read = read
plain_read first rest None apart none = no_plain first rest apart none

-- words behind the mode
no_authorized : (rest : List (List ℕ)) → ((time policy : List ℕ) (files : List (List ℕ)) → rest ≡ time ∷ policy ∷ files → AreInputs time policy files → ⊥)
    → (asked : Asked) → Spells asked (codes "setup" ∷ codes "--authorize" ∷ rest) → ⊥
no_authorized rest none (Explain text) (code, same, is) = no_explain (codes "--authorize" ∷ rest) code same
no_authorized rest none (Sift left log) same = no_sift left log (codes "--authorize" ∷ rest) same
no_authorized rest none (Picture setup log) (same, differ, named) = no_picture setup log (codes "--authorize" ∷ rest) same
no_authorized rest none (Setup true time policy files) (same, inputs) =
    none time policy files
    (same_rest (codes "--authorize") (codes "--authorize") rest (time ∷ policy ∷ files)
    (same_rest (codes "setup") (codes "setup") (codes "--authorize" ∷ rest) (codes "--authorize" ∷ time ∷ policy ∷ files) same)) inputs
no_authorized rest none (Setup false time policy files) (same, inputs) =
    inputs.timed (sym (same_head (codes "--authorize") time rest (policy ∷ files) (same_rest (codes "setup") (codes "setup") (codes "--authorize" ∷ rest) (time ∷ policy ∷ files) same)))

pub authorized_read : (rest : List (List ℕ)) (result : Option Command) → IsSetupRead true rest result → IsRead (codes "setup" ∷ codes "--authorize" ∷ rest) result
authorized_read rest (Some command) read = read
authorized_read rest None none = no_authorized rest none
