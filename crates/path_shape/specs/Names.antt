-- What the list of names on the stack means.
use Rattle.std.specs.Prelude.{ℕ, List, [], Option, Some, None}

abbrev pub none_or : Option (List (List ℕ)) → List (List ℕ)
none_or None = []
none_or (Some names) = names
