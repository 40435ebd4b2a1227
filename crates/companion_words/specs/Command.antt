-- What the words of the command line ask for.
use Rattle.std.specs.Prelude.{◌≡◌, ◌≢◌, ◌<◌, ◌⊎◌, ℕ, Bool, true, false, List, [], ◌∷◌, length, Contains, Option, Some, None, codes, map, string_bytes}
use Rattle.process_words.specs.Names.{are_distinct}
use Rattle.code_guide.specs.Guides.{text_of}
use Rattle.companion_words.specs.declared.words.Command.{Command}
use Rattle.companion_words.specs.declared.words.Command.TheVariants as word

pub data Asked : Type 0 where
  -- explain a code, which has this text
  Explain : (text : List ℕ) → Asked
  -- give the lines of a log that a judge takes, or say which are left out
  Sift : (left : Bool) (log : List ℕ) → Asked
  -- make a setup that begins at a time, of a policy and files, each by its name
  Setup : (authorize : Bool) (time policy : List ℕ) (files : List (List ℕ)) → Asked
  -- show what a log comes to by a setup
  Picture : (setup log : List ℕ) → Asked

-- the words in front of a log
abbrev pub sift_words : Bool → List ℕ → List (List ℕ)
sift_words true log = codes "sift" ∷ codes "--left" ∷ log ∷ []
sift_words false log = codes "sift" ∷ log ∷ []

-- the words in front of a time, a policy and files
abbrev pub setup_words : Bool → List (List ℕ) → List (List ℕ)
setup_words true words = codes "setup" ∷ codes "--authorize" ∷ words
setup_words false words = codes "setup" ∷ words

-- a time, and the names of a policy and of some files
pub record AreInputs (time policy : List ℕ) (files : List (List ℕ)) : Type 0 where
  pub timed : time ≢ codes "--authorize"
  pub some : 0 < length files
  pub differ : are_distinct (policy ∷ files) ≡ true

-- the words of a command
abbrev pub Spells : Asked → List (List ℕ) → Type 0
Spells (Explain text) words = (code : List (List ℕ)) × (words ≡ codes "explain" ∷ code) × (text_of code ≡ Some text)
Spells (Sift left log) words = words ≡ sift_words left log
Spells (Setup authorize time policy files) words = (words ≡ setup_words authorize (time ∷ policy ∷ files)) × AreInputs time policy files
Spells (Picture setup log) words = (words ≡ codes "picture" ∷ setup ∷ log ∷ []) × (setup ≢ log) × (setup ≢ codes "-")

-- the words spell this command, or none
abbrev pub IsAsked : List (List ℕ) → Option Asked → Type 0
IsAsked words None = (asked : Asked) → Spells asked words → ⊥
IsAsked words (Some asked) = Spells asked words

-- the command reads what has this name
abbrev pub Reads : Asked → List ℕ → Type 0
Reads (Explain text) name = ⊥
Reads (Sift left log) name = name ≡ log
Reads (Setup authorize time policy files) name = Contains (policy ∷ files) name
Reads (Picture setup log) name = (name ≡ setup) ⊎ (name ≡ log)

-- a desk tells the bytes of each name that the command reads
abbrev pub Tells : Asked → (List ℕ → Option (List ℕ)) → (List ℕ → List ℕ) → Type 0
Tells asked left files = (name : List ℕ) → Reads asked name → left name ≡ Some (files name)

-- the same of the command that the words spell
abbrev pub TellsWords : List (List ℕ) → (List ℕ → Option (List ℕ)) → (List ℕ → List ℕ) → Type 0
TellsWords words left files = (asked : Asked) → IsAsked words (Some asked) → Tells asked left files

-- the words ask for something that reads what has this name
abbrev pub ReadsWords : List (List ℕ) → List ℕ → Type 0
ReadsWords words name = (asked : Asked) × IsAsked words (Some asked) × Reads asked name

abbrev pub command_asked : Command → Asked
command_asked (word.Explain text) = Explain text.now
command_asked (word.Sift left log) = Sift left log.now
command_asked (word.Setup authorize time policy files) = Setup authorize time.now policy.now (map string_bytes files.now)
command_asked (word.Picture setup log) = Picture setup.now log.now

-- what the words ask for is read of them, or they ask for nothing
abbrev pub IsRead : List (List ℕ) → Option Command → Type 0
IsRead words None = IsAsked words None
IsRead words (Some command) = IsAsked words (Some (command_asked command))

-- the words are those of a setup with this mode, or they are not
abbrev pub IsSetupRead : Bool → List (List ℕ) → Option Command → Type 0
IsSetupRead authorize words None = (time policy : List ℕ) (files : List (List ℕ)) → words ≡ time ∷ policy ∷ files → AreInputs time policy files → ⊥
IsSetupRead authorize words (Some command) = Spells (command_asked command) (setup_words authorize words)

-- some words ask for the command
abbrev pub IsSpelled : Asked → Type 0
IsSpelled asked = (words : List (List ℕ)) × Spells asked words
