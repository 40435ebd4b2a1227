-- Agreement of an answer with what was asked, as a test that computes: the root is looked at, and each child that one of
-- the three trees has.
use Rattle.std.specs.Prelude.{ℕ, suc, ◌+◌, ◌==◌, Bool, true, false, not, ◌&&◌, ◌||◌, List, [], ◌∷◌, ◌++◌, map, Option, Some, None, is_some, option_map, codes, if◌then◌else◌}
use Rattle.std.specs.Int.Digits.{digits_of}
use Rattle.std.specs.List.{list_all}
use Rattle.base_types.specs.Meaning.{Meaning, null, flag, whole, words, items, members, Kids, no_kids, kid, Fields, no_fields, field}
use Rattle.base_types.specs.Same.{same}
use Rattle.path_shape.specs.declared.shape.FieldClass.{FieldClass}
use Rattle.path_shape.specs.declared.shape.FieldClass.TheVariants.{Asked, Defaulted, Owned, Kept}
use Rattle.path_shape.specs.declared.shape.Shape.{Shape}
use Rattle.path_shape.specs.Agreement.{kind_of, kind}
use Rattle.path_shape.specs.Forms.{thin_root, at, is_held_by}
use Rattle.path_shape.specs.Patterns.{Pattern, class_at, is_open, patterns_of, unasked, unasked_patterns}

-- the same part, or none in both
abbrev pub is_same_part : Option Meaning → Option Meaning → Bool
is_same_part None None = true
is_same_part None (Some u) = false
is_same_part (Some t) None = false
is_same_part (Some t) (Some u) = same t u

-- the part of `asked` is absent, or `answered` holds it
abbrev pub holds : Option Meaning → Option Meaning → Bool
holds answered None = true
holds None (Some asked) = false
holds (Some answered) (Some asked) = is_held_by asked answered

-- the part of `asked` is absent, or both have one kind
abbrev pub has_kind : Option Meaning → Option Meaning → Bool
has_kind answered None = true
has_kind answered (Some asked) = same (kind_of asked) (kind answered)

-- what a class wants at a closed path, where `had` says whether there is an old object
abbrev pub fits_closed : FieldClass → Bool → Option Meaning → Option Meaning → Option Meaning → Bool
fits_closed Asked had old asked answered = is_same_part asked answered
fits_closed Owned had old asked answered = true
fits_closed Kept had old asked answered = not had || is_same_part old answered
fits_closed Defaulted had old asked answered = holds answered asked

-- what a class wants at an open path
abbrev pub fits_open : FieldClass → Bool → Option Meaning → Option Meaning → Option Meaning → Bool
fits_open Asked had old asked answered = same (kind asked) (kind answered)
fits_open Owned had old asked answered = true
fits_open Kept had old asked answered = not had || same (kind old) (kind answered)
fits_open Defaulted had old asked answered = has_kind answered asked

abbrev pub fits_here : Bool → FieldClass → Bool → Option Meaning → Option Meaning → Option Meaning → Bool
fits_here true = fits_open
fits_here false = fits_closed

abbrev pub fits_at : FieldClass → List Pattern → Bool → Option Meaning → Option Meaning → Option Meaning → List (List ℕ) → Bool
fits_at root patterns had old asked answered path =
    fits_here (is_open patterns path) (class_at root patterns path) had (at path old) (at path asked) (at path answered)

-- the one text of an array index (RFC 6901 section 4)
abbrev pub index_text : ℕ → List ℕ
index_text n = if n == 0 then codes "0" else map (λ digit. 48 + digit) (digits_of 10 n)

-- a child: the path of the part that has it, and its token
abbrev pub Child : Type 0
Child = List (List ℕ) × List ℕ

-- each child in a tree that stands at a path
abbrev mutual
  pub children_in : List (List ℕ) → Meaning → List Child
  children_in path null = []
  children_in path (flag b) = []
  children_in path (whole z) = []
  children_in path (words s) = []
  children_in path (items ts) = children_of_items path 0 ts
  children_in path (members ms) = children_of_members path ms

  -- those of the items from the one of this number on
  pub children_of_items : List (List ℕ) → ℕ → Kids → List Child
  children_of_items path n no_kids = []
  children_of_items path n (kid t ts) = (path, index_text n) ∷ (children_in (path ++ index_text n ∷ []) t ++ children_of_items path (suc n) ts)

  pub children_of_members : List (List ℕ) → Fields → List Child
  children_of_members path no_fields = []
  children_of_members path (field k t ms) = (path, k) ∷ (children_in (path ++ k ∷ []) t ++ children_of_members path ms)

-- each child in a document
abbrev pub children : Option Meaning → List Child
children None = []
children (Some t) = children_in [] t

-- a child of an open path fits
abbrev pub fits_child : FieldClass → List Pattern → Bool → Option Meaning → Option Meaning → Option Meaning → Child → Bool
fits_child root patterns had old asked answered child =
    not (is_open patterns child.0) || fits_at root patterns had old asked answered (child.0 ++ child.1 ∷ [])

abbrev pub does_fit : FieldClass → List Pattern → Bool → Option Meaning → Option Meaning → Option Meaning → Bool
does_fit root patterns had old asked answered =
    fits_at root patterns had old asked answered []
    && list_all (fits_child root patterns had old asked answered) (children old ++ children asked ++ children answered)

-- the answered object is the old one with what was asked, and what the server may fill in
abbrev pub does_agree : Shape → Option Meaning → Meaning → Meaning → Bool
does_agree shape old asked answered =
    does_fit shape.root (patterns_of shape) (is_some old) (option_map thin_root old) (Some (thin_root asked)) (Some (thin_root answered))

-- the answered object is the old one but for what a delete changes
abbrev pub does_keep : Shape → Meaning → Meaning → Bool
does_keep shape old answered =
    does_fit (unasked shape.root) (unasked_patterns shape) true (Some (thin_root old)) (Some (thin_root old)) (Some (thin_root answered))
