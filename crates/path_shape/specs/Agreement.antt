-- When an answered object agrees with what was asked and with the object before.
use Rattle.std.specs.Prelude.{◌≡◌, ℕ, ⊤, Bool, true, false, IsTrue, List, [], ◌∷◌, ◌++◌, Option, Some, None, is_some, option_map}
use Rattle.base_types.specs.Meaning.{Meaning, null, flag, whole, words, items, members, no_kids, no_fields}
use Rattle.path_shape.specs.declared.shape.FieldClass.{FieldClass}
use Rattle.path_shape.specs.declared.shape.FieldClass.TheVariants.{Asked, Defaulted, Owned, Kept}
use Rattle.path_shape.specs.declared.shape.Shape.{Shape}
use Rattle.path_shape.specs.Forms.{thin_root, at, is_held_by}
use Rattle.path_shape.specs.Patterns.{Pattern, class_at, is_open, patterns_of, unasked, unasked_patterns}

-- the kind of a tree: object, list, or the scalar itself
abbrev pub kind_of : Meaning → Meaning
kind_of null = null
kind_of (flag b) = flag b
kind_of (whole z) = whole z
kind_of (words s) = words s
kind_of (items ts) = items no_kids
kind_of (members ms) = members no_fields

-- at an open path an absent tree has the kind of an empty object
abbrev pub kind : Option Meaning → Meaning
kind None = members no_fields
kind (Some t) = kind_of t

-- the part of `asked` is absent, or `answered` holds it
abbrev pub Holds : Option Meaning → Option Meaning → Type 0
Holds answered None = ⊤
Holds None (Some asked) = ⊥
Holds (Some answered) (Some asked) = IsTrue (is_held_by asked answered)

-- the part of `asked` is absent, or both have one kind
abbrev pub HasKind : Option Meaning → Option Meaning → Type 0
HasKind answered None = ⊤
HasKind answered (Some asked) = kind_of asked ≡ kind answered

-- what a class wants at a closed path, where `had` says whether there is an old object
abbrev pub FitsClosed : FieldClass → Bool → Option Meaning → Option Meaning → Option Meaning → Type 0
FitsClosed Asked had old asked answered = asked ≡ answered
FitsClosed Owned had old asked answered = ⊤
FitsClosed Kept had old asked answered = IsTrue had → old ≡ answered
FitsClosed Defaulted had old asked answered = Holds answered asked

-- what a class wants at an open path
abbrev pub FitsOpen : FieldClass → Bool → Option Meaning → Option Meaning → Option Meaning → Type 0
FitsOpen Asked had old asked answered = kind asked ≡ kind answered
FitsOpen Owned had old asked answered = ⊤
FitsOpen Kept had old asked answered = IsTrue had → kind old ≡ kind answered
FitsOpen Defaulted had old asked answered = HasKind answered asked

abbrev pub FitsHere : Bool → FieldClass → Bool → Option Meaning → Option Meaning → Option Meaning → Type 0
FitsHere true = FitsOpen
FitsHere false = FitsClosed

abbrev pub FitsAt : FieldClass → List Pattern → Bool → Option Meaning → Option Meaning → Option Meaning → List (List ℕ) → Type 0
FitsAt root patterns had old asked answered path =
    FitsHere (is_open patterns path) (class_at root patterns path) had (at path old) (at path asked) (at path answered)

-- the trees fit at the root and at each child of an open path. A child that none of the three has fits under every class.
pub record Fits (root : FieldClass) (patterns : List Pattern) (had : Bool) (old asked answered : Option Meaning) : Type 0 where
  pub here : FitsAt root patterns had old asked answered []
  pub below : (path : List (List ℕ)) (token : List ℕ) → IsTrue (is_open patterns path) → FitsAt root patterns had old asked answered (path ++ token ∷ [])

-- the answered object is the old one with what was asked, and what the server may fill in
abbrev pub Agrees : Shape → Option Meaning → Meaning → Meaning → Type 0
Agrees shape old asked answered =
    Fits shape.root (patterns_of shape) (is_some old) (option_map thin_root old) (Some (thin_root asked)) (Some (thin_root answered))

-- the answered object is the old one but for what a delete changes
abbrev pub Keeps : Shape → Meaning → Meaning → Type 0
Keeps shape old answered =
    Fits (unasked shape.root) (unasked_patterns shape) true (Some (thin_root old)) (Some (thin_root old)) (Some (thin_root answered))
