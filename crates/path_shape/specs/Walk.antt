-- What the walk over the trees keeps, and what it means.
use Rattle.std.specs.Prelude.{ℕ, ◌⊎◌, Bool, true, false, IsSome, List, [], ◌∷◌, map, Option, Some, None, if◌then◌else◌}
use Rattle.base_types.specs.Meaning.{Meaning, null, flag, whole as number, words, items, members, no_kids, no_fields}
use Rattle.path_shape.specs.declared.part.Part.{Part}
use Rattle.path_shape.specs.declared.part.Part.TheVariants.{Absent, Member, Item}
use Rattle.path_shape.specs.declared.shape.FieldClass.{FieldClass}
use Rattle.path_shape.specs.declared.kind.Kind.{Kind}
use Rattle.path_shape.specs.declared.kind.Kind.TheVariants.{Object, List as ListKind, Null, Flag, Whole, Words}
use Rattle.path_shape.specs.declared.spot.Spot.{Spot}
use Rattle.path_shape.specs.Forms.{thin, left_of, child_in}
use Rattle.path_shape.specs.Patterns.{Pattern, covers, class_at}
use Rattle.path_shape.specs.Agreement.{Fits}

-- the part of a thin form
abbrev pub form : Part → Option Meaning
form Absent = None
form (Member t) = left_of t.now
form (Item t) = Some (thin t.now)

-- the tree of which it is a part
abbrev pub whole : Part → Option Meaning
whole Absent = None
whole (Member t) = Some t.now
whole (Item t) = Some t.now

abbrev pub meant_kind : Kind → Meaning
meant_kind Object = members no_fields
meant_kind ListKind = items no_kids
meant_kind Null = null
meant_kind (Flag b) = flag b
meant_kind (Whole z) = number z
meant_kind (Words s) = words s.now

-- a pattern that goes past a path: its token behind the path, those after it, and its class
abbrev pub Going : Type 0
Going = List ℕ × (List (List ℕ) × FieldClass)

abbrev pub pattern_from : Going → Pattern
pattern_from p = (p.0 ∷ p.1.0, p.1.1)

abbrev pub patterns_in : List Going → List Pattern
patterns_in ps = map pattern_from ps

abbrev pub is_any : List Going → Bool
is_any [] = false
is_any (p ∷ ps) = true

-- what goes on past one more token
abbrev pub goes_on : List (List ℕ) → FieldClass → List Going → List Going
goes_on [] class rest = rest
goes_on (token ∷ tokens) class rest = (token, (tokens, class)) ∷ rest

abbrev pub narrow : List ℕ → List Going → List Going
narrow name [] = []
narrow name (p ∷ ps) = if covers p.0 name then goes_on p.1.0 p.1.1 (narrow name ps) else narrow name ps

-- the class of the first that ends at one more token
abbrev pub ends_on : List (List ℕ) → FieldClass → Option FieldClass → Option FieldClass
ends_on [] class rest = Some class
ends_on (token ∷ tokens) class rest = rest

abbrev pub ending : List ℕ → List Going → Option FieldClass
ending name [] = None
ending name (p ∷ ps) = if covers p.0 name then ends_on p.1.0 p.1.1 (ending name ps) else ending name ps

abbrev pub FitsSpot : FieldClass → List Pattern → Spot → Type 0
FitsSpot class patterns spot = Fits class patterns spot.had (form spot.old) (form spot.asked) (form spot.answered)

-- the parts of a child fit
abbrev pub FitsUnder : FieldClass → List Going → Spot → List ℕ → Type 0
FitsUnder class ps spot name =
    Fits (class_at class (patterns_in ps) (name ∷ [])) (patterns_in (narrow name ps)) spot.had
    (child_in name (form spot.old)) (child_in name (form spot.asked)) (child_in name (form spot.answered))

-- a child that was seen before, or whose parts fit
abbrev pub IsDone : Part → Part → FieldClass → List Going → Spot → List ℕ → Type 0
IsDone done done_too class ps spot name =
    IsSome (child_in name (whole done)) ⊎ (IsSome (child_in name (whole done_too)) ⊎ FitsUnder class ps spot name)
