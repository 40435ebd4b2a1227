-- The requirements that a text spells, where it is a selector, found from its beginning on.
use Rattle.std.specs.Prelude.{ℕ, zero, suc, ◌+◌, ◌==◌, Bool, ◌&&◌, not, List, [], ◌∷◌, Option, Some, None, length, bytes_eq, codes, if◌then◌else◌}
use Rattle.base_types.specs.Texts.{◌>>=◌}
use Rattle.label_select.specs.Bytes.{front, behind, after}
use Rattle.label_select.specs.declared.bytes.Class.TheVariants.{Space, Value, Key}
use Rattle.label_select.specs.declared.selector.Test.{Test}
use Rattle.label_select.specs.declared.selector.Test.TheVariants.{Exists, Missing, Is, IsNot, In, NotIn}
use Rattle.label_select.specs.declared.selector.Requirement.{Requirement}

-- what was found makes the first, and nothing the second
abbrev pub choose : {A : Type 0} → Option (List ℕ) → (List ℕ → A) → A → A
choose None made other = other
choose (Some rest) made other = made rest

abbrev pub is_empty : List ℕ → Bool
is_empty text = length text == 0

abbrev pub is_key : List ℕ → Bool
is_key word = not (is_empty word) && not (bytes_eq word (codes "in")) && not (bytes_eq word (codes "notin"))

-- each of these finds something at the beginning of a text, and what is behind it
abbrev pub key_at : List ℕ → Option (List ℕ × List ℕ)
key_at text = if is_key (front Key text) then Some (front Key text, behind Key text) else None

abbrev pub value_at : List ℕ → List ℕ × List ℕ
value_at text = (front Value (behind Space text), behind Value (behind Space text))

-- a value, and the others where it isn't the last one
abbrev pub values_by : List ℕ → Option (List ℕ) → Option (List (List ℕ) × List ℕ) → Option (List (List ℕ) × List ℕ)
values_by value closed others =
    if is_empty value then None
    else choose closed (λ left. Some (value ∷ [], left)) (others >>= λ found. Some (value ∷ found.0, found.1))

-- the values up to `)`; the number is above the length of the text
abbrev pub values_in : ℕ → List ℕ → Option (List (List ℕ) × List ℕ)
values_in zero text = None
values_in (suc n) text =
    values_by (value_at text).0
    (after (codes ")") (behind Space (value_at text).1))
    (after (codes ",") (behind Space (value_at text).1) >>= λ next. values_in n next)

abbrev pub list_at : List ℕ → Option (List (List ℕ) × List ℕ)
list_at text = after (codes "(") (behind Space text) >>= λ items. values_in (length items + 1) items

abbrev pub test_by : List ℕ → List ℕ → Option (Test × List ℕ)
test_by operator text =
    choose (after (codes "==") operator) (λ rest. Some (Is (value_at rest).0, (value_at rest).1))
    (choose (after (codes "=") operator) (λ rest. Some (Is (value_at rest).0, (value_at rest).1))
    (choose (after (codes "!=") operator) (λ rest. Some (IsNot (value_at rest).0, (value_at rest).1))
    (choose (after (codes "in") operator) (λ rest. list_at rest >>= λ list. Some (In list.0, list.1))
    (choose (after (codes "notin") operator) (λ rest. list_at rest >>= λ list. Some (NotIn list.0, list.1))
    (Some (Exists, text))))))

-- without an operator only the key is asked for
abbrev pub test_at : List ℕ → Option (Test × List ℕ)
test_at text = test_by (behind Space text) text

abbrev pub requirement_by : List ℕ → Test × List ℕ → Requirement × List ℕ
requirement_by key test = (record { key = key; test = test.0 }, test.1)

abbrev pub requirement_at : List ℕ → Option (Requirement × List ℕ)
requirement_at text =
    choose (after (codes "!") text)
    (λ rest. key_at (behind Space rest) >>= λ key. Some (requirement_by key.0 (Missing, key.1)))
    (key_at text >>= λ key. test_at key.1 >>= λ test. Some (requirement_by key.0 test))

-- a requirement, and the others where it isn't the last one
abbrev pub joined_by : Requirement × List ℕ → Option (List Requirement) → Option (List Requirement)
joined_by found others = if is_empty found.1 then Some (found.0 ∷ []) else (others >>= λ rest. Some (found.0 ∷ rest))

-- the requirements joined by commas; the number is above the length of the text
abbrev pub selector_in : ℕ → List ℕ → Option (List Requirement)
selector_in zero text = None
selector_in (suc n) text =
    requirement_at text >>= λ found. joined_by found (after (codes ",") (behind Space found.1) >>= λ next. selector_in n (behind Space next))

abbrev pub selector_of : List ℕ → Option (List Requirement)
selector_of text = selector_in (length text + 1) text
