-- Lists without repeats.
use Rattle.std.specs.Prelude.{ℕ, Bool, true, ◌&&◌, not, List, [], ◌∷◌, bytes_eq}
use Rattle.std.specs.List.{list_any}
use Rattle.base_types.specs.contracts.kubernetes.key.ObjectKeyPartialEq.TheImpl as by_parts
use Rattle.base_types.specs.declared.kubernetes.key.ObjectKey.{ObjectKey}

-- no two items are equal
abbrev pub are_distinct : {A : Type 0} → (A → A → Bool) → List A → Bool
are_distinct same [] = true
are_distinct same (item ∷ items) = not (list_any (λ other. same other item) items) && are_distinct same items

abbrev pub pair_eq : List ℕ × List ℕ → List ℕ × List ℕ → Bool
pair_eq a b = bytes_eq a.0 b.0 && bytes_eq a.1 b.1

-- keys by their four parts
abbrev pub key_eq : ObjectKey → ObjectKey → Bool
key_eq = (by_parts.ghosts).eq
