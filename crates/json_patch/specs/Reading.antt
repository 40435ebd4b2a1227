-- A JSON Patch document (RFC 6902 sections 3 and 4): a list of operations, each an object with `op` and the members
-- of that operation. Other members are ignored.
use Rattle.std.specs.Prelude.{◌≡◌, ℕ, ◌+◌, List, [], ◌∷◌, length, Option, Some, None, option_map, option_and_then, Result, Ok, Err, bytes_eq, codes, nat_lt, if◌then◌else◌}
use Rattle.base_types.specs.Meaning.{Meaning}
use Rattle.base_types.specs.Parts.{member_of, items_of}
use Rattle.base_types.specs.Pointers.{pointer_of}
use Rattle.json_patch.specs.declared.fault.PatchFault.{PatchFault}
use Rattle.json_patch.specs.declared.fault.PatchFault.TheVariants.{NotList, TooMany, BadOperation, OutOfMemory}
use Rattle.json_patch.specs.declared.op.Op.{Op}
use Rattle.json_patch.specs.declared.op.Op.TheVariants.{Add, Remove, Replace, Move, Copy, Test}
use Rattle.base_types.specs.Texts.{text_at}

-- a member whose value is the text of a pointer
abbrev pub pointer_at : List ℕ → Meaning → Option (List (List ℕ))
pointer_at name t = option_and_then pointer_of (text_at name t)

-- both values, where both are there
abbrev pub pair_of : {A B : Type 0} → Option A → Option B → Option (A × B)
pair_of a b = option_and_then (λ x. option_map (λ y. (x, y)) b) a

abbrev pub with_value : (List (List ℕ) → Meaning → Op) → Meaning → Option Op
with_value made t = option_map (λ both. made both.0 both.1) (pair_of (pointer_at (codes "path") t) (member_of (codes "value") t))

abbrev pub with_from : (List (List ℕ) → List (List ℕ) → Op) → Meaning → Option Op
with_from made t = option_map (λ both. made both.0 both.1) (pair_of (pointer_at (codes "from") t) (pointer_at (codes "path") t))

abbrev pub op_named : List ℕ → Meaning → Option Op
op_named name t =
    if bytes_eq name (codes "add") then with_value Add t
    else (if bytes_eq name (codes "remove") then option_map Remove (pointer_at (codes "path") t)
    else (if bytes_eq name (codes "replace") then with_value Replace t
    else (if bytes_eq name (codes "move") then with_from Move t
    else (if bytes_eq name (codes "copy") then with_from Copy t
    else (if bytes_eq name (codes "test") then with_value Test t
    else None)))))

abbrev pub op_of : Meaning → Option Op
op_of t = option_and_then (λ name. op_named name t) (text_at (codes "op") t)

-- an operation before the others, or the fault at its number
abbrev pub and_others : ℕ → Option Op → Result (List Op) PatchFault → Result (List Op) PatchFault
and_others n None others = Err (BadOperation n)
and_others n (Some op) (Err fault) = Err fault
and_others n (Some op) (Ok ops) = Ok (op ∷ ops)

-- the operations from the one of this number on
abbrev pub ops_of : ℕ → List Meaning → Result (List Op) PatchFault
ops_of n [] = Ok []
ops_of n (t ∷ ts) = and_others n (op_of t) (ops_of (n + 1) ts)

abbrev pub ops_of_items : Option (List Meaning) → Result (List Op) PatchFault
ops_of_items None = Err NotList
ops_of_items (Some ts) = if nat_lt 10_000 (length ts) then Err TooMany else ops_of 0 ts

abbrev pub patch_of : Meaning → Result (List Op) PatchFault
patch_of t = ops_of_items (items_of t)

-- the fault is the one that the definition gives
abbrev pub IsPatchFault : Result (List Op) PatchFault → PatchFault → Type 0
IsPatchFault read NotList = read ≡ Err NotList
IsPatchFault read TooMany = read ≡ Err TooMany
IsPatchFault read (BadOperation index) = read ≡ Err (BadOperation index)
IsPatchFault read OutOfMemory = Unit {0}
