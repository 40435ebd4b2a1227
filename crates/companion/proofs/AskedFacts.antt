-- The words spell one command at most.
use Rattle.std.proofs.Common.{◌≡◌, ℕ, ◌+◌, ◌*◌, Bool, true, false, List, [], ◌∷◌, length, sym, ◌∙◌, ap, arith}
use Rattle.std.proofs.lemmas.Option.{same_Some}
use Rattle.code_guide.specs.Guides.{text_of}
use Rattle.companion_words.specs.Command.{Asked, Explain, Picture, Setup, Sift, Spells}

-- a number for a verb: its first byte and how many it has
abbrev mark : List ℕ → ℕ
mark [] = 0
mark (byte ∷ bytes) = byte + 1000 * length (byte ∷ bytes)

abbrev first : List (List ℕ) → List ℕ
first [] = []
first (word ∷ words) = word

abbrev behind : List (List ℕ) → List (List ℕ)
behind [] = []
behind (word ∷ words) = words

abbrev first_mark : List (List ℕ) → ℕ
first_mark words = mark (first words)

abbrev second : List (List ℕ) → List ℕ
second words = first (behind words)

abbrev third : List (List ℕ) → List ℕ
third words = second (behind words)

abbrev fourth : List (List ℕ) → List ℕ
fourth words = third (behind words)

abbrev behind_three : List (List ℕ) → List (List ℕ)
behind_three words = behind (behind (behind words))

abbrev behind_four : List (List ℕ) → List (List ℕ)
behind_four words = behind_three (behind words)

-- the mark of a command's verb
abbrev mark_of : Asked → ℕ
mark_of (Explain text) = 7101
mark_of (Sift left log) = 4115
mark_of (Setup authorize time policy files) = 5115
mark_of (Picture setup log) = 7112

begins : (words : List (List ℕ)) (asked : Asked) → Spells asked words → first_mark words ≡ mark_of asked
begins words (Explain text) spelled = ap first_mark spelled.1
begins words (Sift true log) spelled = ap first_mark spelled
begins words (Sift false log) spelled = ap first_mark spelled
begins words (Setup true time policy files) spelled = ap first_mark spelled.0
begins words (Setup false time policy files) spelled = ap first_mark spelled.0
begins words (Picture setup log) spelled = ap first_mark spelled.0

same_mark : (words : List (List ℕ)) (a b : Asked) → Spells a words → Spells b words → mark_of a ≡ mark_of b
same_mark words a b x y = sym (begins words a x) ∙ begins words b y

-- a code has one text
same_explain : (words : List (List ℕ)) (text text' : List ℕ) → Spells (Explain text) words → Spells (Explain text') words → Explain text ≡ Explain text'
same_explain words text text' (code, is, of) (code', is', of') =
    let same : code ≡ code' = sym (ap behind is) ∙ ap behind is' in
    ap Explain (same_Some text text' (sym of ∙ ap text_of same ∙ of'))

same_sift : (words : List (List ℕ)) (left left' : Bool) (log log' : List ℕ) → Spells (Sift left log) words → Spells (Sift left' log') words → Sift left log ≡ Sift left' log'
same_sift words true true log log' x y = ap (Sift true) (sym (ap third x) ∙ ap third y)
same_sift words true false log log' x y = absurd (let no : 3 ≡ 2 = sym (ap length x) ∙ ap length y in omega (arith, no))
same_sift words false true log log' x y = absurd (let no : 2 ≡ 3 = sym (ap length x) ∙ ap length y in omega (arith, no))
same_sift words false false log log' x y = ap (Sift false) (sym (ap second x) ∙ ap second y)

-- a time isn't the mode's word
same_setup : (words : List (List ℕ)) (authorize authorize' : Bool) (time time' policy policy' : List ℕ) (files files' : List (List ℕ)) → Spells (Setup authorize time policy files) words
    → Spells (Setup authorize' time' policy' files') words → Setup authorize time policy files ≡ Setup authorize' time' policy' files'
same_setup words true true time time' policy policy' files files' x y =
    let times : time ≡ time' = sym (ap third x.0) ∙ ap third y.0 in
    let policies : policy ≡ policy' = sym (ap fourth x.0) ∙ ap fourth y.0 in
    let lists : files ≡ files' = sym (ap behind_four x.0) ∙ ap behind_four y.0 in
    λ i. Setup true (times i) (policies i) (lists i)
same_setup words true false time time' policy policy' files files' x y = absurd (y.1.timed (sym (ap second y.0) ∙ ap second x.0))
same_setup words false true time time' policy policy' files files' x y = absurd (x.1.timed (sym (ap second x.0) ∙ ap second y.0))
same_setup words false false time time' policy policy' files files' x y =
    let times : time ≡ time' = sym (ap second x.0) ∙ ap second y.0 in
    let policies : policy ≡ policy' = sym (ap third x.0) ∙ ap third y.0 in
    let lists : files ≡ files' = sym (ap behind_three x.0) ∙ ap behind_three y.0 in
    λ i. Setup false (times i) (policies i) (lists i)

same_picture : (words : List (List ℕ)) (setup setup' log log' : List ℕ) → Spells (Picture setup log) words → Spells (Picture setup' log') words → Picture setup log ≡ Picture setup' log'
same_picture words setup setup' log log' x y =
    let setups : setup ≡ setup' = sym (ap second x.0) ∙ ap second y.0 in
    let logs : log ≡ log' = sym (ap third x.0) ∙ ap third y.0 in
    λ i. Picture (setups i) (logs i)

-- the words spell one command
pub one_command : (words : List (List ℕ)) (a b : Asked) → Spells a words → Spells b words → a ≡ b
one_command words (Explain text) (Explain text') x y = same_explain words text text' x y
one_command words (Explain text) (Sift left' log') x y = absurd (let no = same_mark words (Explain text) (Sift left' log') x y in omega (arith, no))
one_command words (Explain text) (Setup authorize' time' policy' files') x y = absurd (let no = same_mark words (Explain text) (Setup authorize' time' policy' files') x y in omega (arith, no))
one_command words (Explain text) (Picture setup' log') x y = absurd (let no = same_mark words (Explain text) (Picture setup' log') x y in omega (arith, no))
one_command words (Sift left log) (Explain text') x y = absurd (let no = same_mark words (Sift left log) (Explain text') x y in omega (arith, no))
one_command words (Sift left log) (Sift left' log') x y = same_sift words left left' log log' x y
one_command words (Sift left log) (Setup authorize' time' policy' files') x y = absurd (let no = same_mark words (Sift left log) (Setup authorize' time' policy' files') x y in omega (arith, no))
one_command words (Sift left log) (Picture setup' log') x y = absurd (let no = same_mark words (Sift left log) (Picture setup' log') x y in omega (arith, no))
one_command words (Setup authorize time policy files) (Explain text') x y = absurd (let no = same_mark words (Setup authorize time policy files) (Explain text') x y in omega (arith, no))
one_command words (Setup authorize time policy files) (Sift left' log') x y = absurd (let no = same_mark words (Setup authorize time policy files) (Sift left' log') x y in omega (arith, no))
one_command words (Setup authorize time policy files) (Setup authorize' time' policy' files') x y = same_setup words authorize authorize' time time' policy policy' files files' x y
one_command words (Setup authorize time policy files) (Picture setup' log') x y = absurd (let no = same_mark words (Setup authorize time policy files) (Picture setup' log') x y in omega (arith, no))
one_command words (Picture setup log) (Explain text') x y = absurd (let no = same_mark words (Picture setup log) (Explain text') x y in omega (arith, no))
one_command words (Picture setup log) (Sift left' log') x y = absurd (let no = same_mark words (Picture setup log) (Sift left' log') x y in omega (arith, no))
one_command words (Picture setup log) (Setup authorize' time' policy' files') x y = absurd (let no = same_mark words (Picture setup log) (Setup authorize' time' policy' files') x y in omega (arith, no))
one_command words (Picture setup log) (Picture setup' log') x y = same_picture words setup setup' log log' x y
