-- What a tree is: a value of RFC 8259 section 3 whose numbers are whole.
use Rattle.std.specs.Prelude.{ℕ, ℤ, Bool, List, [], ◌∷◌}

mutual
  pub data Meaning : Type 0 where
    null : Meaning
    flag : Bool → Meaning
    whole : ℤ → Meaning
    words : List ℕ → Meaning
    items : Kids → Meaning
    members : Fields → Meaning

  -- the items of an array (RFC 8259 section 5), in order
  pub data Kids : Type 0 where
    no_kids : Kids
    kid : Meaning → Kids → Kids

  -- the members of an object (RFC 8259 section 4): name and value
  pub data Fields : Type 0 where
    no_fields : Fields
    field : List ℕ → Meaning → Fields → Fields

abbrev pub kids_of : List Meaning → Kids
kids_of [] = no_kids
kids_of (t ∷ ts) = kid t (kids_of ts)

abbrev pub fields_of : List (List ℕ × Meaning) → Fields
fields_of [] = no_fields
fields_of (m ∷ ms) = field m.0 m.1 (fields_of ms)

-- the lists back
abbrev pub kids_list : Kids → List Meaning
kids_list no_kids = []
kids_list (kid t ts) = t ∷ kids_list ts

abbrev pub fields_list : Fields → List (List ℕ × Meaning)
fields_list no_fields = []
fields_list (field k t ms) = (k, t) ∷ fields_list ms
