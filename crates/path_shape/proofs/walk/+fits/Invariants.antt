use Rattle.std.proofs.Common.{◌≡◌, ℕ, ◌+◌, ◌<◌, List, Some, IsSome, take}
use Rattle.base_types.specs.Meaning.{fields_of}
use Rattle.base_types.specs.Parts.{lookup}
use Rattle.base_types.specs.Pointers.{index_of}
use Rattle.path_shape.specs.Passing.{past_of}
use Rattle.path_shape.specs.Walk.{IsDone}
use Rattle.path_shape.proofs.Measures.{weight, top}
use Rattle.path_shape.proofs.walk.+fits.Given as goal

abbrev pub decreases-fits : goal.decreases-fits
decreases-fits l = weight (past_of l.live) + 5

abbrev pub decreases-fits_each : goal.decreases-fits_each
decreases-fits_each l = top (past_of l.live) + 4

abbrev pub decreases-fits_children : goal.decreases-fits_children
decreases-fits_children l = top (past_of l.live) + 3

abbrev pub decreases-fits_items : goal.decreases-fits_items
decreases-fits_items l = top (past_of l.live) + 2

abbrev pub decreases-fits_members : goal.decreases-fits_members
decreases-fits_members l = top (past_of l.live) + 2

abbrev pub decreases-fits_unless_done : goal.decreases-fits_unless_done
decreases-fits_unless_done l = top (past_of l.live) + 1

abbrev pub invariant-fits_items-loop-index : goal.invariant-fits_items-loop-index
invariant-fits_items-loop-index l =
    (name : List ℕ) (n : ℕ) → index_of name ≡ Some n → n < l.index → IsDone l.done l.done_too l.class (past_of l.live) l.spot name

abbrev pub invariant-fits_members-loop-member : goal.invariant-fits_members-loop-member
invariant-fits_members-loop-member l =
    (name : List ℕ) → IsSome (lookup name (fields_of (take l.member-index l.member-items))) → IsDone l.done l.done_too l.class (past_of l.live) l.spot name
