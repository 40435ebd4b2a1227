-- With which classes the walk begins.
use Rattle.std.specs.Prelude.{ℕ, Bool, true, false, List, [], ◌∷◌}
use Rattle.path_shape.specs.declared.shape.FieldClass.{FieldClass}
use Rattle.path_shape.specs.declared.shape.ShapeEntry.{ShapeEntry}
use Rattle.path_shape.specs.Patterns.{unasked}

abbrev pub read_as : Bool → FieldClass → FieldClass
read_as false class = class
read_as true class = unasked class

abbrev pub root_or : List (List ℕ) → FieldClass → FieldClass → FieldClass
root_or [] class rest = class
root_or (token ∷ tokens) class rest = rest

-- the root's class: that of the first entry for it, or else the shape's
abbrev pub root_class : Bool → List ShapeEntry → FieldClass → FieldClass
root_class nothing [] root = read_as nothing root
root_class nothing (e ∷ es) root = root_or e.path (read_as nothing e.class) (root_class nothing es root)
