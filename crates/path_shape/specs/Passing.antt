-- Which patterns go past a path, whose names are told from the last to the first.
use Rattle.std.specs.Prelude.{ℕ, Bool, true, false, ◌||◌, List, [], ◌∷◌, ◌++◌, map, Option, Some, None, option_and_then, bytes_eq, codes, if◌then◌else◌}
use Rattle.path_shape.specs.declared.live.Live.{Live}
use Rattle.path_shape.specs.declared.shape.FieldClass.{FieldClass}
use Rattle.path_shape.specs.declared.shape.FieldClass.TheVariants.{Defaulted, Owned, Kept}
use Rattle.path_shape.specs.declared.shape.ShapeEntry.{ShapeEntry}
use Rattle.path_shape.specs.Beginning.{read_as}
use Rattle.path_shape.specs.Patterns.{covers}
use Rattle.path_shape.specs.Walk.{Going, goes_on}

-- the tokens of a pattern behind one that covers a name
abbrev pub cut : List ℕ → List (List ℕ) → Option (List (List ℕ))
cut name [] = None
cut name (token ∷ tokens) = if covers token name then Some tokens else None

-- those behind as many as a path has, which match it
abbrev pub behind : List (List ℕ) → List (List ℕ) → Option (List (List ℕ))
behind [] tokens = Some tokens
behind (name ∷ above) tokens = option_and_then (cut name) (behind above tokens)

abbrev pub is_past : Option (List (List ℕ)) → Bool
is_past None = false
is_past (Some []) = false
is_past (Some (token ∷ tokens)) = true

abbrev pub any_past : List (List ℕ) → List ShapeEntry → Bool
any_past way [] = false
any_past way (e ∷ es) = is_past (behind way e.path) || any_past way es

-- one token is left, and it covers the name
abbrev pub ends_at : List ℕ → Option (List (List ℕ)) → Bool
ends_at name None = false
ends_at name (Some []) = false
ends_at name (Some (token ∷ [])) = covers token name
ends_at name (Some (token ∷ next ∷ tokens)) = false

-- the class of the first entry that ends under a name
abbrev pub entry_class : List (List ℕ) → List ℕ → Bool → List ShapeEntry → Option FieldClass
entry_class way name nothing [] = None
entry_class way name nothing (e ∷ es) = if ends_at name (behind way e.path) then Some (read_as nothing e.class) else entry_class way name nothing es

abbrev pub laid : Option (List (List ℕ)) → FieldClass → List Going → List Going
laid None class rest = rest
laid (Some tokens) class rest = goes_on tokens class rest

-- the entries that go past a path
abbrev pub entries_past : List (List ℕ) → Bool → List ShapeEntry → List Going
entries_past way nothing [] = []
entries_past way nothing (e ∷ es) = laid (behind way e.path) (read_as nothing e.class) (entries_past way nothing es)

-- the fields of the metadata whose classes are built in, each with its class
abbrev pub built_in_fields : Bool → List (List ℕ × FieldClass)
built_in_fields nothing =
    (codes "name", read_as nothing Defaulted) ∷ (codes "namespace", read_as nothing Defaulted)
    ∷ (codes "resourceVersion", Owned) ∷ (codes "generation", Owned) ∷ (codes "selfLink", Owned)
    ∷ (codes "uid", Kept) ∷ (codes "creationTimestamp", Kept)
    ∷ (codes "deletionTimestamp", Kept) ∷ (codes "deletionGracePeriodSeconds", Kept) ∷ []

-- those that a delete changes
abbrev pub released_fields : Bool → List (List ℕ × FieldClass)
released_fields false = []
released_fields true =
    (codes "deletionTimestamp", Owned) ∷ (codes "deletionGracePeriodSeconds", Owned)
    ∷ (codes "finalizers", Owned) ∷ (codes "generation", Owned) ∷ []

abbrev pub built_in_class : Bool → List ℕ → Option FieldClass
built_in_class nothing name =
    if bytes_eq name (codes "name") then Some (read_as nothing Defaulted)
    else (if bytes_eq name (codes "namespace") then Some (read_as nothing Defaulted)
    else (if bytes_eq name (codes "resourceVersion") then Some Owned
    else (if bytes_eq name (codes "generation") then Some Owned
    else (if bytes_eq name (codes "selfLink") then Some Owned
    else (if bytes_eq name (codes "uid") then Some Kept
    else (if bytes_eq name (codes "creationTimestamp") then Some Kept
    else (if bytes_eq name (codes "deletionTimestamp") then Some Kept
    else (if bytes_eq name (codes "deletionGracePeriodSeconds") then Some Kept else None))))))))

abbrev pub released_class : Bool → List ℕ → Option FieldClass
released_class false name = None
released_class true name =
    if bytes_eq name (codes "deletionTimestamp") then Some Owned
    else (if bytes_eq name (codes "deletionGracePeriodSeconds") then Some Owned
    else (if bytes_eq name (codes "finalizers") then Some Owned
    else (if bytes_eq name (codes "generation") then Some Owned else None)))

abbrev pub is_root : List (List ℕ) → Bool
is_root [] = true
is_root (name ∷ above) = false

abbrev pub is_metadata : List (List ℕ) → Bool
is_metadata [] = false
is_metadata (name ∷ above) = if is_root above then bytes_eq name (codes "metadata") else false

abbrev pub at_root : List ℕ × FieldClass → Going
at_root f = (codes "metadata", (f.0 ∷ [], f.1))

abbrev pub at_metadata : List ℕ × FieldClass → Going
at_metadata f = (f.0, ([], f.1))

abbrev pub fields_past : List (List ℕ) → List (List ℕ × FieldClass) → List Going
fields_past way fields = if is_root way then map at_root fields else (if is_metadata way then map at_metadata fields else [])

-- all patterns that go past a path, in their order
abbrev pub past : Bool → List ShapeEntry → List (List ℕ) → List Going
past nothing es way = fields_past way (released_fields nothing) ++ (entries_past way nothing es ++ fields_past way (built_in_fields nothing))

abbrev pub past_of : Live → List Going
past_of live = past live.unasked live.entries.now live.way.now
