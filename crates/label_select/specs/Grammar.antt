-- Which texts are selectors, and which requirements each of them spells (Kubernetes "Labels and Selectors", "Label
-- selectors", in the form that the API server reads). Spaces may stand between tokens, and none stands before the first
-- token or behind the last one.
use Rattle.std.specs.Prelude.{◌≡◌, ◌≢◌, ℕ, zero, suc, true, List, [], ◌∷◌, ◌++◌, ◌⊎◌, codes}
use Rattle.std.specs.List.{list_all}
use Rattle.label_select.specs.Bytes.{is_in_class}
use Rattle.label_select.specs.declared.bytes.Class.TheVariants.{Value, Key}
use Rattle.label_select.specs.declared.selector.Test.{Test}
use Rattle.label_select.specs.declared.selector.Test.TheVariants.{Exists, Missing, Is, IsNot, In, NotIn}
use Rattle.label_select.specs.declared.selector.Requirement.{Requirement}

abbrev pub spaces : ℕ → List ℕ
spaces zero = []
spaces (suc n) = 32 ∷ spaces n

-- a key has at least one byte, and isn't the name of an operator
pub record IsKey (key : List ℕ) : Type 0 where
  pub bytes : list_all (is_in_class Key) key ≡ true
  pub some : key ≢ []
  pub not_in : key ≢ codes "in"
  pub not_notin : key ≢ codes "notin"

abbrev pub IsValue : List ℕ → Type 0
IsValue value = list_all (is_in_class Value) value ≡ true

-- `=V`: behind `=`, `==` and `!=` the value may be empty
abbrev pub SpellsValue : List ℕ → List ℕ → List ℕ → Type 0
SpellsValue operator value text = (m : ℕ) × (n : ℕ) × (text ≡ spaces m ++ (operator ++ (spaces n ++ value))) × IsValue value

-- `V,..)`: in a list no value is empty
abbrev pub SpellsItems : List ℕ → List (List ℕ) → List ℕ → Type 0
SpellsItems value [] text =
    (m : ℕ) × (n : ℕ) × (text ≡ spaces m ++ (value ++ (spaces n ++ codes ")"))) × IsValue value × (value ≢ [])
SpellsItems value (next ∷ values) text =
    (m : ℕ) × (n : ℕ) × (rest : List ℕ) × (text ≡ spaces m ++ (value ++ (spaces n ++ (codes "," ++ rest)))) × IsValue value × (value ≢ [])
    × SpellsItems next values rest

abbrev pub SpellsValues : List (List ℕ) → List ℕ → Type 0
SpellsValues [] text = ⊥
SpellsValues (value ∷ values) text = SpellsItems value values text

-- ` in (V,..)`: at least one space stands before the operator
abbrev pub SpellsList : List ℕ → List (List ℕ) → List ℕ → Type 0
SpellsList operator values text =
    (m : ℕ) × (n : ℕ) × (items : List ℕ) × (text ≡ spaces (suc m) ++ (operator ++ (spaces n ++ (codes "(" ++ items)))) × SpellsValues values items

-- what stands behind a key
abbrev pub SpellsTest : Test → List ℕ → Type 0
SpellsTest Exists text = text ≡ []
SpellsTest Missing text = ⊥
SpellsTest (Is value) text = SpellsValue (codes "=") value text ⊎ SpellsValue (codes "==") value text
SpellsTest (IsNot value) text = SpellsValue (codes "!=") value text
SpellsTest (In values) text = SpellsList (codes "in") values text
SpellsTest (NotIn values) text = SpellsList (codes "notin") values text

-- `!KEY`, or a key and a test
abbrev pub SpellsMissing : List ℕ → List ℕ → Type 0
SpellsMissing key text = (n : ℕ) × (text ≡ codes "!" ++ (spaces n ++ key))

abbrev pub SpellsTested : List ℕ → Test → List ℕ → Type 0
SpellsTested key test text = (rest : List ℕ) × (text ≡ key ++ rest) × SpellsTest test rest

abbrev pub SpellsBy : List ℕ → Test → List ℕ → Type 0
SpellsBy key Missing text = SpellsMissing key text
SpellsBy key Exists text = SpellsTested key Exists text
SpellsBy key (Is value) text = SpellsTested key (Is value) text
SpellsBy key (IsNot value) text = SpellsTested key (IsNot value) text
SpellsBy key (In values) text = SpellsTested key (In values) text
SpellsBy key (NotIn values) text = SpellsTested key (NotIn values) text

abbrev pub SpellsRequirement : Requirement → List ℕ → Type 0
SpellsRequirement requirement text = IsKey requirement.key × SpellsBy requirement.key requirement.test text

-- requirements joined by commas
abbrev pub SpellsJoined : Requirement → List Requirement → List ℕ → Type 0
SpellsJoined requirement [] text = SpellsRequirement requirement text
SpellsJoined requirement (next ∷ others) text =
    (m : ℕ) × (n : ℕ) × (first : List ℕ) × (rest : List ℕ) × (text ≡ first ++ (spaces m ++ (codes "," ++ (spaces n ++ rest))))
    × SpellsRequirement requirement first × SpellsJoined next others rest

-- the text is a selector, with these requirements
abbrev pub Spells : List Requirement → List ℕ → Type 0
Spells [] text = ⊥
Spells (requirement ∷ others) text = SpellsJoined requirement others text
