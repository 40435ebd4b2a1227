-- What the words of the command line ask for.
use Rattle.std.specs.Prelude.{◌≡◌, ◌≢◌, ◌≤◌, ◌⊎◌, ℕ, List, [], ◌∷◌, Option, Some, None, codes, decimal}
use Rattle.history_query.specs.declared.question.Question.{Question}
use Rattle.verdict_text.specs.Words.{IsNumber}
use Rattle.command_words.specs.Asking.{SpellsQuestion, TakesMemory, verb_of}
use Rattle.command_words.specs.declared.words.Command.{Command}
use Rattle.command_words.specs.declared.words.Command.TheVariants as word

pub data Asked : Type 0 where
  -- judge a log by a setup, each by its name
  Judge : (setup log : List ℕ) → Asked
  -- judge it, and give its things moments
  Strict : (setup log : List ℕ) → Asked
  -- check a placement of a log's events again
  Verify : (setup log placement : List ℕ) → Asked
  -- ask the history that they tell
  Ask : (setup log : List ℕ) → Question → Asked
  -- make the case of a number with so many events, and judge it
  Make : (number events : ℕ) → Asked

-- the log alone may be the standard input
pub record AreNames (setup log : List ℕ) : Type 0 where
  pub differ : setup ≢ log
  pub named : setup ≢ codes "-"

-- the placement is a third name
pub record IsThirdName (setup log placement : List ℕ) : Type 0 where
  pub not_setup : placement ≢ setup
  pub not_log : placement ≢ log
  pub named : placement ≢ codes "-"

-- a case has at most so many events
abbrev pub most_made : ℕ
most_made = 100000

-- the words of a command
abbrev pub Spells : Asked → List (List ℕ) → Type 0
Spells (Judge setup log) words = (words ≡ codes "judge" ∷ setup ∷ log ∷ []) × AreNames setup log
Spells (Strict setup log) words = (words ≡ codes "judge" ∷ codes "--strict" ∷ setup ∷ log ∷ []) × AreNames setup log
Spells (Verify setup log placement) words =
    (words ≡ codes "verify" ∷ setup ∷ log ∷ placement ∷ []) × AreNames setup log × IsThirdName setup log placement
Spells (Ask setup log question) words =
    (rest : List (List ℕ)) × (words ≡ verb_of question ∷ setup ∷ log ∷ rest) × AreNames setup log × SpellsQuestion question rest
Spells (Make number events) words = (words ≡ codes "make" ∷ decimal number ∷ decimal events ∷ []) × IsNumber number × (events ≤ most_made)

-- the words spell this command, or none
abbrev pub IsAsked : List (List ℕ) → Option Asked → Type 0
IsAsked words None = (asked : Asked) → Spells asked words → ⊥
IsAsked words (Some asked) = Spells asked words

-- the command reads a setup and a log of these names
abbrev pub IsOfNames : Asked → List ℕ → List ℕ → Type 0
IsOfNames (Judge setup log) setup' log' = (setup ≡ setup') × (log ≡ log')
IsOfNames (Strict setup log) setup' log' = (setup ≡ setup') × (log ≡ log')
IsOfNames (Verify setup log placement) setup' log' = (setup ≡ setup') × (log ≡ log')
IsOfNames (Ask setup log question) setup' log' = (setup ≡ setup') × (log ≡ log')
IsOfNames (Make number events) setup' log' = ⊥

-- the command reads what has this name
abbrev pub Reads : Asked → List ℕ → Type 0
Reads (Judge setup log) name = (name ≡ setup) ⊎ (name ≡ log)
Reads (Strict setup log) name = (name ≡ setup) ⊎ (name ≡ log)
Reads (Verify setup log placement) name = (name ≡ setup) ⊎ (name ≡ log) ⊎ (name ≡ placement)
Reads (Ask setup log question) name = (name ≡ setup) ⊎ (name ≡ log)
Reads (Make number events) name = ⊥

-- a desk tells the bytes of each name that the command reads
abbrev pub Tells : Asked → (List ℕ → Option (List ℕ)) → (List ℕ → List ℕ) → Type 0
Tells asked left files = (name : List ℕ) → Reads asked name → left name ≡ Some (files name)

-- the same of the command that the words spell
abbrev pub TellsWords : List (List ℕ) → (List ℕ → Option (List ℕ)) → (List ℕ → List ℕ) → Type 0
TellsWords words left files = (asked : Asked) → IsAsked words (Some asked) → Tells asked left files

-- the words ask for what a setup and a log of these names tell
abbrev pub AsksOf : List (List ℕ) → List ℕ → List ℕ → Type 0
AsksOf words setup log = (asked : Asked) × IsAsked words (Some asked) × IsOfNames asked setup log

abbrev pub command_asked : Command → Asked
command_asked (word.Judge setup log) = Judge setup.now log.now
command_asked (word.Strict setup log) = Strict setup.now log.now
command_asked (word.Verify setup log placement) = Verify setup.now log.now placement.now
command_asked (word.Ask setup log question) = Ask setup.now log.now question
command_asked (word.Make number events) = Make number events

-- what the words ask for is read of them, or they ask for nothing
abbrev pub IsRead : List (List ℕ) → Option Command → Type 0
IsRead words None = IsAsked words None
IsRead words (Some command) = IsAsked words (Some (command_asked command))

-- the command asks no question of a history
abbrev pub IsPlain : Asked → Type 0
IsPlain (Judge setup log) = Unit {0}
IsPlain (Strict setup log) = Unit {0}
IsPlain (Verify setup log placement) = Unit {0}
IsPlain (Ask setup log question) = ⊥
IsPlain (Make number events) = Unit {0}

-- the same of these commands, and of the others
abbrev pub IsPlainRead : List (List ℕ) → Option Command → Type 0
IsPlainRead words None = (asked : Asked) → IsPlain asked → Spells asked words → ⊥
IsPlainRead words (Some command) = Spells (command_asked command) words

abbrev pub IsAskRead : List (List ℕ) → Option Command → Type 0
IsAskRead words None = (setup log : List ℕ) (question : Question) → Spells (Ask setup log question) words → ⊥
IsAskRead words (Some command) = Spells (command_asked command) words

-- the words may want memory to be read: their number, the command, the names and PLACE are a question's
abbrev pub MayWantMemory : List (List ℕ) → Type 0
MayWantMemory (verb ∷ setup ∷ log ∷ words) = AreNames setup log × TakesMemory verb words
MayWantMemory words = ⊥
