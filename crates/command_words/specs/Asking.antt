-- The words of a question to a history.
use Rattle.std.specs.Prelude.{◌≡◌, ◌<◌, ◌==◌, ℕ, Bool, List, [], ◌∷◌, Option, Some, None, bytes_eq, codes, decimal, if◌then◌else◌}
use Rattle.std.specs.List.{slice_split}
use Rattle.base_types.specs.Keys.{IsNamed, key_spelling}
use Rattle.base_types.specs.declared.kubernetes.key.ObjectKey.{ObjectKey}
use Rattle.base_types.specs.declared.kubernetes.request.RequestAttrs.{RequestAttrs}
use Rattle.base_types.specs.declared.kubernetes.request.User.{User}
use Rattle.history_query.specs.declared.question.Question.{Question}
use Rattle.history_query.specs.declared.question.Question.TheVariants.{Show, Versions, State, Blame, Can}
use Rattle.base_types.specs.Pointers.{pointer_of}
use Rattle.request_attrs.specs.Attributes.{attributes}
use Rattle.request_attrs.specs.Refusals.{IsReadable}
use Rattle.verdict_text.specs.Words.{IsNumber}

abbrev pub verb_of : Question → List ℕ
verb_of (Show key place) = codes "show"
verb_of (Versions key) = codes "versions"
verb_of (State place) = codes "state"
verb_of (Blame key pointer place) = codes "blame"
verb_of (Can place who attrs) = codes "can"

-- PLACE: a decimal number from 1
pub record IsPlaceWord (word : List ℕ) (place : ℕ) : Type 0 where
  pub spelled : word ≡ decimal place
  pub above : 0 < place
  pub number : IsNumber place

-- the word is one
abbrev pub IsPlace : List ℕ → Type 0
IsPlace word = (place : ℕ) × IsPlaceWord word place

-- KEY: GROUP/RESOURCE/NAMESPACE/NAME
pub record IsKeyWord (word : List ℕ) (key : ObjectKey) : Type 0 where
  pub spelled : word ≡ key_spelling key
  pub named : IsNamed key

abbrev pub is_comma : ℕ → Bool
is_comma byte = byte == 44

-- GROUPS: `-` for none, or names between commas, which may be empty
abbrev pub groups_of : List ℕ → List (List ℕ)
groups_of word = if bytes_eq word (codes "-") then [] else slice_split is_comma word

-- PLACE USER GROUPS VERB URI
pub record AreCanWords (place : ℕ) (who : User) (attrs : RequestAttrs) (words : List (List ℕ)) : Type 0 where
  pub place_word : List ℕ
  pub groups_word : List ℕ
  pub verb : List ℕ
  pub uri : List ℕ
  pub words_are : words ≡ place_word ∷ who.name ∷ groups_word ∷ verb ∷ uri ∷ []
  pub at_place : IsPlaceWord place_word place
  pub groups : who.groups ≡ groups_of groups_word
  pub readable : IsReadable uri
  pub asked : attrs ≡ attributes verb uri

-- the words behind the two names
abbrev pub SpellsQuestion : Question → List (List ℕ) → Type 0
SpellsQuestion (Show key place) words = (k p : List ℕ) × (words ≡ k ∷ p ∷ []) × IsKeyWord k key × IsPlaceWord p place
SpellsQuestion (Versions key) words = (k : List ℕ) × (words ≡ k ∷ []) × IsKeyWord k key
SpellsQuestion (State place) words = (p : List ℕ) × (words ≡ p ∷ []) × IsPlaceWord p place
SpellsQuestion (Blame key pointer place) words =
    (k at p : List ℕ) × (words ≡ k ∷ at ∷ p ∷ []) × IsKeyWord k key × (pointer_of at ≡ Some pointer) × IsPlaceWord p place
SpellsQuestion (Can place who attrs) words = AreCanWords place who attrs words

-- a question is read of the verb and the words behind the names, or they spell none
abbrev pub IsQuestionRead : (verb : List ℕ) → List (List ℕ) → Option Question → Type 0
IsQuestionRead verb words None = (question : Question) → verb ≡ verb_of question → SpellsQuestion question words → ⊥
IsQuestionRead verb words (Some question) = (verb ≡ verb_of question) × SpellsQuestion question words

-- the verb and the words behind the names ask a question whose reading takes memory, as far as their number and PLACE tell
abbrev pub TakesMemory : (verb : List ℕ) → List (List ℕ) → Type 0
TakesMemory verb (key ∷ []) = verb ≡ codes "versions"
TakesMemory verb (key ∷ place ∷ []) = (verb ≡ codes "show") × IsPlace place
TakesMemory verb (key ∷ pointer ∷ place ∷ []) = (verb ≡ codes "blame") × IsPlace place
TakesMemory verb (place ∷ user ∷ groups ∷ request ∷ uri ∷ []) = (verb ≡ codes "can") × IsPlace place
TakesMemory verb words = ⊥
