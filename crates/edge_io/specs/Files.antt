-- The files of a desk in memory, and what is left of each.
use Rattle.std.specs.Prelude.{ℕ, List, [], ◌∷◌, bytes_eq, if◌then◌else◌}

-- a file of a desk in memory: its name, and the bytes that were not read yet
pub record HeldFile : Type 0 where
  pub name : List ℕ
  pub left : List ℕ

-- what is left of a name: the first file of that name, and nothing where there is none
abbrev pub left_of : List HeldFile → List ℕ → List ℕ
left_of [] name = []
left_of (file ∷ files) name = if bytes_eq file.name name then file.left else left_of files name
