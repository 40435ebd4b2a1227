-- Which labels a selector takes (Kubernetes "Labels and Selectors", "Label selectors"). A label is a member of an object
-- whose value is a text.
use Rattle.std.specs.Prelude.{ℕ, Bool, true, false, not, List, Option, Some, None, bytes_eq}
use Rattle.std.specs.List.{list_all}
use Rattle.base_types.specs.Matching.{has_text}
use Rattle.base_types.specs.Meaning.{Meaning}
use Rattle.base_types.specs.Parts.{member_of, text_of}
use Rattle.base_types.specs.Texts.{◌>>=◌}
use Rattle.label_select.specs.declared.selector.Test.{Test}
use Rattle.label_select.specs.declared.selector.Test.TheVariants.{Exists, Missing, Is, IsNot, In, NotIn}
use Rattle.label_select.specs.declared.selector.Requirement.{Requirement}

-- the value of the label of this name
abbrev pub label_of : List ℕ → Option Meaning → Option (List ℕ)
label_of key labels = labels >>= member_of key >>= text_of

-- what is asked of a label that is missing, and of one with this value
abbrev pub allows_missing : Test → Bool
allows_missing Exists = false
allows_missing Missing = true
allows_missing (Is value) = false
allows_missing (IsNot value) = true
allows_missing (In values) = false
allows_missing (NotIn values) = true

abbrev pub allows_value : Test → List ℕ → Bool
allows_value Exists label = true
allows_value Missing label = false
allows_value (Is value) label = bytes_eq label value
allows_value (IsNot value) label = not (bytes_eq label value)
allows_value (In values) label = has_text values label
allows_value (NotIn values) label = not (has_text values label)

abbrev pub allows : Test → Option (List ℕ) → Bool
allows test None = allows_missing test
allows test (Some label) = allows_value test label

abbrev pub is_met : Option Meaning → Requirement → Bool
is_met labels requirement = allows requirement.test (label_of requirement.key labels)

-- each requirement is met
abbrev pub matches : List Requirement → Option Meaning → Bool
matches selector labels = list_all (is_met labels) selector
