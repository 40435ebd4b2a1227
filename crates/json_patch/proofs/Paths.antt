-- A change below a child of a document.
use Rattle.std.proofs.Common.{◌≡◌, ℕ, ◌+◌, ◌<◌, List, ◌∷◌, length, get_or, set, Option, Some, None, Result, Ok, Err, option_map, option_and_then, unwrap_or, refl, sym, ap, subst, ◌∙◌, arith}
use Rattle.base_types.specs.Edits.{put}
use Rattle.base_types.specs.Meaning.{Meaning, items, members, kids_of, fields_of, kids_list}
use Rattle.base_types.specs.Names.{AreSorted}
use Rattle.base_types.specs.Pointers.{index_of, child_of, pointed}
use Rattle.base_types.specs.Search.{IsNamedAt}
use Rattle.base_types.proofs.Indices.{item_read}
use Rattle.base_types.proofs.Ordered.{lookup_found}
use Rattle.base_types.proofs.Lists.{kids_list-kids_of}
use Rattle.base_types.proofs.Placing.{put_changed}
use Rattle.json_patch.specs.Edits.{edited, change_of, missing_of, RefusedBy}
use Rattle.json_patch.specs.Effects.{and_then, changed_at, when_there, place_of, added_in, without_child, removed_in, replaced_in}
use Rattle.json_patch.specs.Targets.{parent_of, last_of, with_child, put_at}
use Rattle.json_patch.specs.declared.edit.Edit.{Edit}
use Rattle.json_patch.specs.declared.edit.Refusal.{Refusal}
use Rattle.json_patch.specs.declared.edit.Refusal.TheVariants.{Cause, OutOfMemory}
use Rattle.json_patch.specs.declared.fault.ApplyCause.{ApplyCause}
use Rattle.json_patch.specs.declared.fault.ApplyCause.TheVariants.{BadIndex}
use Rattle.std.specs.Prelude.{insert, remove}

put_below : (first : List ℕ) (rest : List (List ℕ)) (made t child : Meaning) → child_of first t ≡ Some child → put_at (first ∷ rest) made t ≡ with_child first (put_at rest made child) t
put_below first rest made t child is = ap (λ o. unwrap_or (option_map (λ c. with_child first (put_at rest made c) t) o) t) is

-- an edit whose first token leads to a child is an edit of that child
pub edited_below : (first next : List ℕ) (after : List (List ℕ)) (edit : Edit) (t child : Meaning) → child_of first t ≡ Some child
    → edited first (next ∷ after) edit t ≡ and_then (edited next after edit child) (λ made. Ok (with_child first made t))
edited_below first next after edit t child is = ap (changed_at (first ∷ at) (missing_of edit) change t) there ∙ go (pointed at child)
  where
    at : List (List ℕ)
    at = parent_of next after

    change : Meaning → Result Meaning ApplyCause
    change = change_of edit (last_of next after)

    there : pointed (first ∷ at) t ≡ pointed at child
    there = ap (option_and_then (pointed at)) is

    made_below : (r : Result Meaning ApplyCause) → and_then r (λ made. Ok (put_at (first ∷ at) made t)) ≡ and_then (and_then r (λ made. Ok (put_at at made child))) (λ made. Ok (with_child first made t))
    made_below (Err cause) = refl
    made_below (Ok made) = ap Ok (put_below first at made t child is)

    go : (o : Option Meaning) → changed_at (first ∷ at) (missing_of edit) change t o ≡ and_then (changed_at at (missing_of edit) change child o) (λ made. Ok (with_child first made t))
    go None = refl
    go (Some v) = made_below (change v)

pub edited_missing : (first next : List ℕ) (after : List (List ℕ)) (edit : Edit) (t : Meaning) → child_of first t ≡ None → edited first (next ∷ after) edit t ≡ Err (missing_of edit)
edited_missing first next after edit t is = ap (λ o. changed_at (first ∷ parent_of next after) (missing_of edit) (change_of edit (last_of next after)) t (option_and_then (pointed (parent_of next after)) o)) is

pub done_below : (first next : List ℕ) (after : List (List ℕ)) (edit : Edit) (t child made document : Meaning) → child_of first t ≡ Some child → edited next after edit child ≡ Ok made → with_child first made t ≡ document
    → edited first (next ∷ after) edit t ≡ Ok document
done_below first next after edit t child made document is inner e =
    edited_below first next after edit t child is ∙ ap (λ r. and_then r (λ made. Ok (with_child first made t))) inner ∙ ap Ok e

pub refused_below : (first next : List ℕ) (after : List (List ℕ)) (edit : Edit) (t child : Meaning) (refusal : Refusal) → child_of first t ≡ Some child → RefusedBy (edited next after edit child) refusal
    → RefusedBy (edited first (next ∷ after) edit t) refusal
refused_below first next after edit t child (Cause cause) is inner =
    edited_below first next after edit t child is ∙ ap (λ r. and_then r (λ made. Ok (with_child first made t))) inner
refused_below first next after edit t child OutOfMemory is inner = tt

pub pointed_below : (first next : List ℕ) (after : List (List ℕ)) (t child : Meaning) → child_of first t ≡ Some child → pointed (next ∷ after) child ≡ pointed (first ∷ next ∷ after) t
pointed_below first next after t child is = sym (ap (option_and_then (pointed (next ∷ after))) is)

pub with_item : (first : List ℕ) (ts : List Meaning) (n : ℕ) (t : Meaning) → index_of first ≡ Some n → with_child first t (items (kids_of ts)) ≡ items (kids_of (set ts n t))
with_item first ts n t is =
    ap (λ o. unwrap_or (option_map (λ n. items (kids_of (set (kids_list (kids_of ts)) n t))) o) (items (kids_of ts))) is ∙ ap (λ l. items (kids_of (set l n t))) (kids_list-kids_of ts)

pub item_there : (first : List ℕ) (ts : List Meaning) (n : ℕ) (t : Meaning) → index_of first ≡ Some n → n < length ts → t ≡ get_or ts n t → child_of first (items (kids_of ts)) ≡ Some t
item_there first ts n t is lt read = sym (item_read ts n (index_of first) t is lt read)

pub member_there : (first : List ℕ) (ms : List (List ℕ × Meaning)) (n : ℕ) (m : List ℕ × Meaning) → AreSorted ms → IsNamedAt first ms n → m ≡ get_or ms n m → child_of first (members (fields_of ms)) ≡ Some m.1
member_there first ms n m s is read = lookup_found ms first n m s is ∙ ap (λ x. Some x.1) (sym read)

pub with_member : (first : List ℕ) (ms : List (List ℕ × Meaning)) (n : ℕ) (m : List ℕ × Meaning) (t : Meaning) → AreSorted ms → IsNamedAt first ms n → m ≡ get_or ms n m
    → members (put first t (fields_of ms)) ≡ members (fields_of (set ms n (m.0, t)))
with_member first ms n m t s is read = ap members (sym (put_changed first ms n m t t s is read refl))

pub items_added : (token : List ℕ) (ts : List Meaning) (n : ℕ) (v : Meaning) → place_of token (length ts) ≡ Some n → added_in v token (items (kids_of ts)) ≡ Ok (items (kids_of (insert ts n v)))
items_added token ts n v is =
    ap (λ l. unwrap_or (option_map (λ n. Ok (items (kids_of (insert l n v)))) (place_of token (length l))) (Err BadIndex)) (kids_list-kids_of ts)
    ∙ ap (λ o. unwrap_or (option_map (λ n. Ok (items (kids_of (insert ts n v)))) o) (Err BadIndex)) is

pub items_not_added : (token : List ℕ) (ts : List Meaning) (v : Meaning) → place_of token (length ts) ≡ None → added_in v token (items (kids_of ts)) ≡ Err BadIndex
items_not_added token ts v is =
    ap (λ l. unwrap_or (option_map (λ n. Ok (items (kids_of (insert l n v)))) (place_of token (length l))) (Err BadIndex)) (kids_list-kids_of ts)
    ∙ ap (λ o. unwrap_or (option_map (λ n. Ok (items (kids_of (insert ts n v)))) o) (Err BadIndex)) is

without_item : (token : List ℕ) (ts : List Meaning) (n : ℕ) → index_of token ≡ Some n → without_child token (items (kids_of ts)) ≡ items (kids_of (remove ts n))
without_item token ts n is =
    ap (λ o. unwrap_or (option_map (λ n. items (kids_of (remove (kids_list (kids_of ts)) n))) o) (items (kids_of ts))) is ∙ ap (λ l. items (kids_of (remove l n))) (kids_list-kids_of ts)

pub items_removed : (token : List ℕ) (ts : List Meaning) (n : ℕ) (t : Meaning) → index_of token ≡ Some n → n < length ts → t ≡ get_or ts n t → removed_in token (items (kids_of ts)) ≡ Ok (items (kids_of (remove ts n)))
items_removed token ts n t is lt read =
    ap (λ o. when_there o (λ old. Ok (without_child token (items (kids_of ts))))) (item_there token ts n t is lt read) ∙ ap Ok (without_item token ts n is)

pub items_replaced : (token : List ℕ) (ts : List Meaning) (n : ℕ) (t v : Meaning) → index_of token ≡ Some n → n < length ts → t ≡ get_or ts n t → replaced_in v token (items (kids_of ts)) ≡ Ok (items (kids_of (set ts n v)))
items_replaced token ts n t v is lt read =
    ap (λ o. when_there o (λ old. Ok (with_child token v (items (kids_of ts))))) (item_there token ts n t is lt read) ∙ ap Ok (with_item token ts n v is)

pub levelled : (P : ℕ → Type 0) (n : ℕ) → P (1 + (1 + n)) → P (2 + n)
levelled P n h = let e : 1 + (1 + n) ≡ 2 + n = omega arith in subst P e h
