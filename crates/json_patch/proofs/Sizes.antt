-- How a change of one value changes the depth and the number of values of a document.
use Rattle.std.proofs.Common.{◌≡◌, ◌∙◌, ℕ, zero, suc, ◌+◌, ◌-◌, ◌^◌, ◌≤◌, ◌<◌, max, min, Bool, true, false, List, [], ◌∷◌, ◌++◌, drop, length, get_or, set, Option, Some, None, refl, sym, ap, subst, arith, bytes_eq}
use Rattle.std.specs.Prelude.{insert, remove}
use Rattle.std.specs.Ordering.{nat_cmp, match_ordering}
use Rattle.std.specs.declared.cmp.Ordering.{Ordering}
use Rattle.std.specs.declared.cmp.Ordering.TheVariants.{Less, Equal, Greater}
use Rattle.std.specs.Cmp.Lexicographic.{slice_cmp, nat_list_cmp_total}
use Rattle.std.specs.List.{AllByRecursion}
use Rattle.std.specs.List.Sorted.{IsStrictlySortedBy}
use Rattle.std.specs.Prelude.{if◌then◌else◌}
use Rattle.std.proofs.lemmas.Slice.Eq.{bytes_eq-Decides}
use Rattle.base_types.specs.Edits.{put}
use Rattle.base_types.specs.Meaning.{Meaning, Fields, no_fields, field, items, members, kids_of, fields_of}
use Rattle.base_types.specs.Names.{names, AreSorted}
use Rattle.base_types.specs.Parts.{lookup}
use Rattle.base_types.specs.Stored.{fields_without}
use Rattle.base_types.proofs.Ordered.{bytes_eq-Less, bytes_eq-Greater, bytes_eq-self, same_name}
use Rattle.base_types.proofs.Placing.{above-below, below-above}
use Rattle.json_patch.specs.Joined.{joined}
use Rattle.json_patch.proofs.Joins.{joined_drop}
use Rattle.json_patch.specs.Edits.{IsAsDeep, IsEdited, went_of, came_of}
use Rattle.json_patch.specs.declared.edit.Edit.{Edit}
use Rattle.json_patch.specs.declared.edit.Edit.TheVariants.{Add, Remove, Replace}
use Rattle.json_patch.specs.Limits.{depth, kids_depth, fields_depth, values, kids_values, fields_values}

-- arrays
pub kids_values-set : (ts : List Meaning) (n : ℕ) (d t : Meaning) → n < length ts → kids_values (kids_of (set ts n t)) + values (get_or ts n d) ≡ kids_values (kids_of ts) + values t
kids_values-set [] n d t lt = absurd (omega arith)
kids_values-set (x ∷ ts) zero d t lt = omega arith
kids_values-set (x ∷ ts) (suc n) d t lt = let rest = kids_values-set ts n d t (omega arith) in omega arith

pub kid_depth : (ts : List Meaning) (n : ℕ) (d : Meaning) → n < length ts → depth (get_or ts n d) ≤ kids_depth (kids_of ts)
kid_depth [] n d lt = absurd (omega arith)
kid_depth (x ∷ ts) zero d lt = omega arith
kid_depth (x ∷ ts) (suc n) d lt = let rest = kid_depth ts n d (omega arith) in omega arith

pub kid_values : (ts : List Meaning) (n : ℕ) (d : Meaning) → n < length ts → values (get_or ts n d) ≤ kids_values (kids_of ts)
kid_values [] n d lt = absurd (omega arith)
kid_values (x ∷ ts) zero d lt = omega arith
kid_values (x ∷ ts) (suc n) d lt = let rest = kid_values ts n d (omega arith) in omega arith

pub set_kid_depth : (ts : List Meaning) (n : ℕ) (t : Meaning) → n < length ts → depth t ≤ kids_depth (kids_of (set ts n t))
set_kid_depth [] n t lt = absurd (omega arith)
set_kid_depth (x ∷ ts) zero t lt = omega arith
set_kid_depth (x ∷ ts) (suc n) t lt = let rest = set_kid_depth ts n t (omega arith) in omega arith

pub kids_depth-set : (ts : List Meaning) (n : ℕ) (t : Meaning) → kids_depth (kids_of (set ts n t)) ≤ max (kids_depth (kids_of ts)) (depth t)
kids_depth-set [] n t = omega arith
kids_depth-set (x ∷ ts) zero t = omega arith
kids_depth-set (x ∷ ts) (suc n) t = let rest = kids_depth-set ts n t in omega arith

pub kids_values-insert : (ts : List Meaning) (n : ℕ) (t : Meaning) → kids_values (kids_of (insert ts n t)) ≡ kids_values (kids_of ts) + values t
kids_values-insert [] zero t = omega arith
kids_values-insert [] (suc n) t = omega arith
kids_values-insert (x ∷ ts) zero t = omega arith
kids_values-insert (x ∷ ts) (suc n) t = let rest = kids_values-insert ts n t in omega arith

pub insert_kid_depth : (ts : List Meaning) (n : ℕ) (t : Meaning) → depth t ≤ kids_depth (kids_of (insert ts n t))
insert_kid_depth [] zero t = omega arith
insert_kid_depth [] (suc n) t = omega arith
insert_kid_depth (x ∷ ts) zero t = omega arith
insert_kid_depth (x ∷ ts) (suc n) t = let rest = insert_kid_depth ts n t in omega arith

pub kids_depth-insert : (ts : List Meaning) (n : ℕ) (t : Meaning) → kids_depth (kids_of (insert ts n t)) ≤ max (kids_depth (kids_of ts)) (depth t)
kids_depth-insert [] zero t = omega arith
kids_depth-insert [] (suc n) t = omega arith
kids_depth-insert (x ∷ ts) zero t = omega arith
kids_depth-insert (x ∷ ts) (suc n) t = let rest = kids_depth-insert ts n t in omega arith

pub kids_values-remove : (ts : List Meaning) (n : ℕ) (d : Meaning) → n < length ts → kids_values (kids_of (remove ts n)) + values (get_or ts n d) ≡ kids_values (kids_of ts)
kids_values-remove [] n d lt = absurd (omega arith)
kids_values-remove (x ∷ ts) zero d lt = omega arith
kids_values-remove (x ∷ ts) (suc n) d lt = let rest = kids_values-remove ts n d (omega arith) in omega arith

pub kids_depth-remove : (ts : List Meaning) (n : ℕ) → kids_depth (kids_of (remove ts n)) ≤ kids_depth (kids_of ts)
kids_depth-remove [] zero = omega arith
kids_depth-remove [] (suc n) = omega arith
kids_depth-remove (x ∷ ts) zero = omega arith
kids_depth-remove (x ∷ ts) (suc n) = let rest = kids_depth-remove ts n in omega arith

-- objects
pub fields_values-set : (ms : List (List ℕ × Meaning)) (n : ℕ) (d : List ℕ × Meaning) (k : List ℕ) (t : Meaning) → n < length ms
    → fields_values (fields_of (set ms n (k, t))) + values (get_or ms n d).1 ≡ fields_values (fields_of ms) + values t
fields_values-set [] n d k t lt = absurd (omega arith)
fields_values-set (x ∷ ms) zero d k t lt = omega arith
fields_values-set (x ∷ ms) (suc n) d k t lt = let rest = fields_values-set ms n d k t (omega arith) in omega arith

pub field_depth : (ms : List (List ℕ × Meaning)) (n : ℕ) (d : List ℕ × Meaning) → n < length ms → depth (get_or ms n d).1 ≤ fields_depth (fields_of ms)
field_depth [] n d lt = absurd (omega arith)
field_depth (x ∷ ms) zero d lt = omega arith
field_depth (x ∷ ms) (suc n) d lt = let rest = field_depth ms n d (omega arith) in omega arith

pub field_values : (ms : List (List ℕ × Meaning)) (n : ℕ) (d : List ℕ × Meaning) → n < length ms → values (get_or ms n d).1 ≤ fields_values (fields_of ms)
field_values [] n d lt = absurd (omega arith)
field_values (x ∷ ms) zero d lt = omega arith
field_values (x ∷ ms) (suc n) d lt = let rest = field_values ms n d (omega arith) in omega arith

pub lookup_values : (k : List ℕ) (ms : Fields) → went_of (lookup k ms) ≤ fields_values ms
lookup_values k no_fields = omega arith
lookup_values k (field l u ms) = go (bytes_eq l k) (lookup_values k ms)
  where
    go : (b : Bool) → went_of (lookup k ms) ≤ fields_values ms → went_of (if b then Some u else lookup k ms) ≤ fields_values (field l u ms)
    go true rest = omega arith
    go false rest = omega arith

pub set_field_depth : (ms : List (List ℕ × Meaning)) (n : ℕ) (k : List ℕ) (t : Meaning) → n < length ms → depth t ≤ fields_depth (fields_of (set ms n (k, t)))
set_field_depth [] n k t lt = absurd (omega arith)
set_field_depth (x ∷ ms) zero k t lt = omega arith
set_field_depth (x ∷ ms) (suc n) k t lt = let rest = set_field_depth ms n k t (omega arith) in omega arith

pub fields_depth-set : (ms : List (List ℕ × Meaning)) (n : ℕ) (k : List ℕ) (t : Meaning) → fields_depth (fields_of (set ms n (k, t))) ≤ max (fields_depth (fields_of ms)) (depth t)
fields_depth-set [] n k t = omega arith
fields_depth-set (x ∷ ms) zero k t = omega arith
fields_depth-set (x ∷ ms) (suc n) k t = let rest = fields_depth-set ms n k t in omega arith

pub put_field_depth : (k : List ℕ) (t : Meaning) (ms : Fields) → depth t ≤ fields_depth (put k t ms)
put_field_depth k t no_fields = omega arith
put_field_depth k t (field l u ms) = go (slice_cmp nat_cmp k l) (put_field_depth k t ms)
  where
    go : (o : Ordering) → depth t ≤ fields_depth (put k t ms) → depth t ≤ fields_depth (match_ordering o (field k t (field l u ms)) (field k t ms) (field l u (put k t ms)))
    go Less rest = omega arith
    go Equal rest = omega arith
    go Greater rest = omega arith

pub fields_depth-put : (k : List ℕ) (t : Meaning) (ms : Fields) → fields_depth (put k t ms) ≤ max (fields_depth ms) (depth t)
fields_depth-put k t no_fields = omega arith
fields_depth-put k t (field l u ms) = go (slice_cmp nat_cmp k l) (fields_depth-put k t ms)
  where
    go : (o : Ordering) → fields_depth (put k t ms) ≤ max (fields_depth ms) (depth t)
        → fields_depth (match_ordering o (field k t (field l u ms)) (field k t ms) (field l u (put k t ms))) ≤ max (fields_depth (field l u ms)) (depth t)
    go Less rest = omega arith
    go Equal rest = omega arith
    go Greater rest = omega arith

-- a name below all others is none of them
lookup_below : (k : List ℕ) (ms : List (List ℕ × Meaning)) → AllByRecursion (λ n. slice_cmp nat_cmp k n ≡ Less) (names ms) → lookup k (fields_of ms) ≡ None
lookup_below k [] h = refl
lookup_below k (m ∷ ms) h = rw (bytes_eq-Greater m.0 k (above-below k m.0 h.0)) (lookup_below k ms h.1)

all_below : (k l : List ℕ) (ks : List (List ℕ)) → slice_cmp nat_cmp k l ≡ Less → AllByRecursion (λ n. slice_cmp nat_cmp l n ≡ Less) ks → AllByRecursion (λ n. slice_cmp nat_cmp k n ≡ Less) ks
all_below k l [] lt h = tt
all_below k l (n ∷ ks) lt h = (nat_list_cmp_total.trans k l n lt h.0, all_below k l ks lt h.1)

pub fields_values-put : (k : List ℕ) (t : Meaning) (ms : List (List ℕ × Meaning)) → AreSorted ms
    → fields_values (put k t (fields_of ms)) + went_of (lookup k (fields_of ms)) ≡ fields_values (fields_of ms) + values t
unfolding IsStrictlySortedBy
fields_values-put k t [] s = omega arith
fields_values-put k t (m ∷ ms) s = go (slice_cmp nat_cmp k m.0) refl (fields_values-put k t ms s.1)
  where
    go : (o : Ordering) → slice_cmp nat_cmp k m.0 ≡ o → fields_values (put k t (fields_of ms)) + went_of (lookup k (fields_of ms)) ≡ fields_values (fields_of ms) + values t
        → fields_values (match_ordering o (field k t (fields_of (m ∷ ms))) (field k t (fields_of ms)) (field m.0 m.1 (put k t (fields_of ms)))) + went_of (lookup k (fields_of (m ∷ ms))) ≡ fields_values (fields_of (m ∷ ms)) + values t
    go Less is rest =
        rw (bytes_eq-Greater m.0 k (above-below k m.0 is), lookup_below k ms (all_below k m.0 (names ms) is s.0)) (omega arith)
    go Equal is rest =
        let same : k ≡ m.0 = same_name k m.0 is in
        let yes : bytes_eq m.0 k ≡ true = subst (λ n. bytes_eq n k ≡ true) same (bytes_eq-self k) in
        rw yes (omega arith)
    go Greater is rest = rw (bytes_eq-Less m.0 k (below-above k m.0 is)) (omega arith)

lookup_without_below : (k : List ℕ) (ms : List (List ℕ × Meaning)) → AllByRecursion (λ n. slice_cmp nat_cmp k n ≡ Less) (names ms) → fields_without k (fields_of ms) ≡ fields_of ms
lookup_without_below k [] h = refl
lookup_without_below k (m ∷ ms) h = rw (bytes_eq-Greater m.0 k (above-below k m.0 h.0)) (ap (field m.0 m.1) (lookup_without_below k ms h.1))

pub fields_values-without : (k : List ℕ) (ms : List (List ℕ × Meaning)) → AreSorted ms
    → fields_values (fields_without k (fields_of ms)) + went_of (lookup k (fields_of ms)) ≡ fields_values (fields_of ms)
unfolding IsStrictlySortedBy
fields_values-without k [] s = omega arith
fields_values-without k (m ∷ ms) s = go (bytes_eq m.0 k) refl (fields_values-without k ms s.1)
  where
    go : (u : Bool) → bytes_eq m.0 k ≡ u → fields_values (fields_without k (fields_of ms)) + went_of (lookup k (fields_of ms)) ≡ fields_values (fields_of ms)
        → fields_values (if u then fields_without k (fields_of ms) else field m.0 m.1 (fields_without k (fields_of ms))) + went_of (if u then Some m.1 else lookup k (fields_of ms)) ≡ fields_values (fields_of (m ∷ ms))
    go false is rest = omega arith
    go true is rest =
        let same : m.0 ≡ k = (bytes_eq-Decides m.0 k).0 is in
        let below = subst (λ n. AllByRecursion (λ l. slice_cmp nat_cmp n l ≡ Less) (names ms)) same s.0 in
        rw (lookup_without_below k ms below) (omega arith)

pub fields_depth-without : (k : List ℕ) (ms : Fields) → fields_depth (fields_without k ms) ≤ fields_depth ms
fields_depth-without k no_fields = omega arith
fields_depth-without k (field l u ms) = go (bytes_eq l k) (fields_depth-without k ms)
  where
    go : (b : Bool) → fields_depth (fields_without k ms) ≤ fields_depth ms → fields_depth (if b then fields_without k ms else field l u (fields_without k ms)) ≤ fields_depth (field l u ms)
    go true rest = omega arith
    go false rest = omega arith

-- one chunk of an array after another
kids_values-append : (xs ys : List Meaning) → kids_values (kids_of (xs ++ ys)) ≡ kids_values (kids_of xs) + kids_values (kids_of ys)
kids_values-append [] ys = omega arith
kids_values-append (t ∷ xs) ys = let rest = kids_values-append xs ys in omega arith

kids_depth-append : (xs ys : List Meaning) → kids_depth (kids_of (xs ++ ys)) ≡ max (kids_depth (kids_of xs)) (kids_depth (kids_of ys))
kids_depth-append [] ys = omega arith
kids_depth-append (t ∷ xs) ys = let rest = kids_depth-append xs ys in omega arith

pub values_more : (parts : List (List Meaning)) (i : ℕ) (part : List Meaning) (all v size new : ℕ) → i < length parts → part ≡ get_or parts i part
    → min all (2 ^ 64 - 1) ≡ min (v + kids_values (kids_of (joined (drop i parts)))) (2 ^ 64 - 1) → size ≡ min (kids_values (kids_of part)) (2 ^ 64 - 1) → new ≡ min (v + size) (2 ^ 64 - 1)
    → min all (2 ^ 64 - 1) ≡ min (new + kids_values (kids_of (joined (drop (i + 1) parts)))) (2 ^ 64 - 1)
values_more parts i part all v size new lt is whole size_is new_is =
    let next = ap (λ l. kids_values (kids_of l)) (joined_drop parts i part lt is) ∙ kids_values-append part (joined (drop (i + 1) parts)) in
    omega arith

pub depth_more : (parts : List (List Meaning)) (i : ℕ) (part : List Meaning) (all d size new : ℕ) → i < length parts → part ≡ get_or parts i part
    → min all (2 ^ 64 - 1) ≡ min (max d (kids_depth (kids_of (joined (drop i parts))))) (2 ^ 64 - 1) → size ≡ min (kids_depth (kids_of part)) (2 ^ 64 - 1) → new ≡ max d size
    → min all (2 ^ 64 - 1) ≡ min (max new (kids_depth (kids_of (joined (drop (i + 1) parts))))) (2 ^ 64 - 1)
depth_more parts i part all d size new lt is whole size_is new_is =
    let next = ap (λ l. kids_depth (kids_of l)) (joined_drop parts i part lt is) ∙ kids_depth-append part (joined (drop (i + 1) parts)) in
    omega arith

-- a walk over the chunks of an object
fields_values-append : (a b : List (List ℕ × Meaning)) → fields_values (fields_of (a ++ b)) ≡ fields_values (fields_of a) + fields_values (fields_of b)
fields_values-append [] b = omega arith
fields_values-append (m ∷ a) b = let rest = fields_values-append a b in omega arith

fields_depth-append : (a b : List (List ℕ × Meaning)) → fields_depth (fields_of (a ++ b)) ≡ max (fields_depth (fields_of a)) (fields_depth (fields_of b))
fields_depth-append [] b = omega arith
fields_depth-append (m ∷ a) b = let rest = fields_depth-append a b in omega arith

pub fields_values_more : (parts : List (List (List ℕ × Meaning))) (i : ℕ) (part : List (List ℕ × Meaning)) (all v size new : ℕ) → i < length parts → part ≡ get_or parts i part
    → min all (2 ^ 64 - 1) ≡ min (v + fields_values (fields_of (joined (drop i parts)))) (2 ^ 64 - 1) → size ≡ min (fields_values (fields_of part)) (2 ^ 64 - 1) → new ≡ min (v + size) (2 ^ 64 - 1)
    → min all (2 ^ 64 - 1) ≡ min (new + fields_values (fields_of (joined (drop (i + 1) parts)))) (2 ^ 64 - 1)
fields_values_more parts i part all v size new lt is whole size_is new_is =
    let next = ap (λ l. fields_values (fields_of l)) (joined_drop parts i part lt is) ∙ fields_values-append part (joined (drop (i + 1) parts)) in
    omega arith

pub fields_depth_more : (parts : List (List (List ℕ × Meaning))) (i : ℕ) (part : List (List ℕ × Meaning)) (all d size new : ℕ) → i < length parts → part ≡ get_or parts i part
    → min all (2 ^ 64 - 1) ≡ min (max d (fields_depth (fields_of (joined (drop i parts))))) (2 ^ 64 - 1) → size ≡ min (fields_depth (fields_of part)) (2 ^ 64 - 1) → new ≡ max d size
    → min all (2 ^ 64 - 1) ≡ min (max new (fields_depth (fields_of (joined (drop (i + 1) parts))))) (2 ^ 64 - 1)
fields_depth_more parts i part all d size new lt is whole size_is new_is =
    let next = ap (λ l. fields_depth (fields_of l)) (joined_drop parts i part lt is) ∙ fields_depth-append part (joined (drop (i + 1) parts)) in
    omega arith

-- an edit below an item or a member is one of the container, one level up
pub edited_items : (edit : Edit) (level : ℕ) (ts : List Meaning) (n : ℕ) (t u : Meaning) (left : Option Meaning) → n < length ts → t ≡ get_or ts n t → IsEdited edit level t u left
    → IsEdited edit (1 + level) (items (kids_of ts)) (items (kids_of (set ts n u))) left
edited_items edit level ts n t u left lt read h = record {
  counted =
      let count : values u + went_of left ≡ values t + came_of edit = h.counted in
      let all : kids_values (kids_of (set ts n u)) + values t ≡ kids_values (kids_of ts) + values u = subst (λ x. kids_values (kids_of (set ts n u)) + values x ≡ kids_values (kids_of ts) + values u) (sym read) (kids_values-set ts n t u lt) in
      omega arith;
  part =
      let inner = h.part in
      let whole : values t ≤ kids_values (kids_of ts) = subst (λ x. values x ≤ kids_values (kids_of ts)) (sym read) (kid_values ts n t lt) in
      omega arith;
  deep = go edit h.deep;
}
  where
    go : (edit : Edit) → IsAsDeep edit level t u → IsAsDeep edit (1 + level) (items (kids_of ts)) (items (kids_of (set ts n u)))
    go (Add v) d =
        let a = set_kid_depth ts n u lt in
        let b = kids_depth-set ts n u in
        let c : depth t ≤ kids_depth (kids_of ts) = subst (λ x. depth x ≤ kids_depth (kids_of ts)) (sym read) (kid_depth ts n t lt) in
        let d0 = d.0 in
        let d1 = d.1 in
        (omega arith, omega arith)
    go Remove d =
        let b = kids_depth-set ts n u in
        let c : depth t ≤ kids_depth (kids_of ts) = subst (λ x. depth x ≤ kids_depth (kids_of ts)) (sym read) (kid_depth ts n t lt) in
        omega arith
    go (Replace v) d =
        let a = set_kid_depth ts n u lt in
        let b = kids_depth-set ts n u in
        let c : depth t ≤ kids_depth (kids_of ts) = subst (λ x. depth x ≤ kids_depth (kids_of ts)) (sym read) (kid_depth ts n t lt) in
        let d0 = d.0 in
        let d1 = d.1 in
        (omega arith, omega arith)

pub edited_members : (edit : Edit) (level : ℕ) (ms : List (List ℕ × Meaning)) (n : ℕ) (m : List ℕ × Meaning) (u : Meaning) (left : Option Meaning) → n < length ms → m ≡ get_or ms n m → IsEdited edit level m.1 u left
    → IsEdited edit (1 + level) (members (fields_of ms)) (members (fields_of (set ms n (m.0, u)))) left
edited_members edit level ms n m u left lt read h = record {
  counted =
      let count : values u + went_of left ≡ values m.1 + came_of edit = h.counted in
      let all : fields_values (fields_of (set ms n (m.0, u))) + values m.1 ≡ fields_values (fields_of ms) + values u =
      subst (λ (x : List ℕ × Meaning). fields_values (fields_of (set ms n (m.0, u))) + values x.1 ≡ fields_values (fields_of ms) + values u) (sym read) (fields_values-set ms n m m.0 u lt) in
      omega arith;
  part =
      let inner = h.part in
      let whole : values m.1 ≤ fields_values (fields_of ms) = subst (λ (x : List ℕ × Meaning). values x.1 ≤ fields_values (fields_of ms)) (sym read) (field_values ms n m lt) in
      omega arith;
  deep = go edit h.deep;
}
  where
    go : (edit : Edit) → IsAsDeep edit level m.1 u → IsAsDeep edit (1 + level) (members (fields_of ms)) (members (fields_of (set ms n (m.0, u))))
    go (Add v) d =
        let a = set_field_depth ms n m.0 u lt in
        let b = fields_depth-set ms n m.0 u in
        let c : depth m.1 ≤ fields_depth (fields_of ms) = subst (λ (x : List ℕ × Meaning). depth x.1 ≤ fields_depth (fields_of ms)) (sym read) (field_depth ms n m lt) in
        let d0 = d.0 in
        let d1 = d.1 in
        (omega arith, omega arith)
    go Remove d =
        let b = fields_depth-set ms n m.0 u in
        let c : depth m.1 ≤ fields_depth (fields_of ms) = subst (λ (x : List ℕ × Meaning). depth x.1 ≤ fields_depth (fields_of ms)) (sym read) (field_depth ms n m lt) in
        omega arith
    go (Replace v) d =
        let a = set_field_depth ms n m.0 u lt in
        let b = fields_depth-set ms n m.0 u in
        let c : depth m.1 ≤ fields_depth (fields_of ms) = subst (λ (x : List ℕ × Meaning). depth x.1 ≤ fields_depth (fields_of ms)) (sym read) (field_depth ms n m lt) in
        let d0 = d.0 in
        let d1 = d.1 in
        (omega arith, omega arith)

-- edits of a container itself
pub item_added : (ts : List Meaning) (n : ℕ) (v : Meaning) → IsEdited (Add v) 1 (items (kids_of ts)) (items (kids_of (insert ts n v))) None
item_added ts n v =
    let count = kids_values-insert ts n v in
    let low = insert_kid_depth ts n v in
    let high = kids_depth-insert ts n v in
    record { counted = omega arith; part = omega arith; deep = (omega arith, omega arith) }

pub item_removed : (ts : List Meaning) (n : ℕ) (t : Meaning) → n < length ts → t ≡ get_or ts n t → IsEdited Remove 1 (items (kids_of ts)) (items (kids_of (remove ts n))) (Some t)
item_removed ts n t lt read =
    let count : kids_values (kids_of (remove ts n)) + values t ≡ kids_values (kids_of ts) = subst (λ x. kids_values (kids_of (remove ts n)) + values x ≡ kids_values (kids_of ts)) (sym read) (kids_values-remove ts n t lt) in
    let high = kids_depth-remove ts n in
    record { counted = omega arith; part = omega arith; deep = omega arith }

pub item_replaced : (ts : List Meaning) (n : ℕ) (t v : Meaning) → n < length ts → t ≡ get_or ts n t → IsEdited (Replace v) 1 (items (kids_of ts)) (items (kids_of (set ts n v))) (Some t)
item_replaced ts n t v lt read =
    let count : kids_values (kids_of (set ts n v)) + values t ≡ kids_values (kids_of ts) + values v = subst (λ x. kids_values (kids_of (set ts n v)) + values x ≡ kids_values (kids_of ts) + values v) (sym read) (kids_values-set ts n t v lt) in
    let low = set_kid_depth ts n v lt in
    let high = kids_depth-set ts n v in
    let whole : values t ≤ kids_values (kids_of ts) = subst (λ x. values x ≤ kids_values (kids_of ts)) (sym read) (kid_values ts n t lt) in
    record { counted = omega arith; part = omega arith; deep = (omega arith, omega arith) }

pub member_added : (k : List ℕ) (v : Meaning) (ms : List (List ℕ × Meaning)) (fs : Fields) (left : Option Meaning) → AreSorted ms → left ≡ lookup k (fields_of ms) → fs ≡ put k v (fields_of ms)
    → IsEdited (Add v) 1 (members (fields_of ms)) (members fs) left
member_added k v ms fs left s was now =
    let count : fields_values fs + went_of left ≡ fields_values (fields_of ms) + values v = rw (was, now) (fields_values-put k v ms s) in
    let low : depth v ≤ fields_depth fs = rw now (put_field_depth k v (fields_of ms)) in
    let high : fields_depth fs ≤ max (fields_depth (fields_of ms)) (depth v) = rw now (fields_depth-put k v (fields_of ms)) in
    let whole : went_of left ≤ fields_values (fields_of ms) = rw was (lookup_values k (fields_of ms)) in
    record { counted = omega arith; part = omega arith; deep = (omega arith, omega arith) }

pub member_replaced : (k : List ℕ) (v : Meaning) (ms : List (List ℕ × Meaning)) (fs : Fields) (left : Option Meaning) → AreSorted ms → left ≡ lookup k (fields_of ms) → fs ≡ put k v (fields_of ms)
    → IsEdited (Replace v) 1 (members (fields_of ms)) (members fs) left
member_replaced k v ms fs left s was now = let h = member_added k v ms fs left s was now in record { counted = h.counted; part = h.part; deep = h.deep }

pub member_removed : (k : List ℕ) (ms : List (List ℕ × Meaning)) (fs : Fields) (left : Option Meaning) → AreSorted ms → left ≡ lookup k (fields_of ms) → fs ≡ fields_without k (fields_of ms)
    → IsEdited Remove 1 (members (fields_of ms)) (members fs) left
member_removed k ms fs left s was now =
    let count : fields_values fs + went_of left ≡ fields_values (fields_of ms) = rw (was, now) (fields_values-without k ms s) in
    let high : fields_depth fs ≤ fields_depth (fields_of ms) = rw now (fields_depth-without k (fields_of ms)) in
    let whole : went_of left ≤ fields_values (fields_of ms) = rw was (lookup_values k (fields_of ms)) in
    record { counted = omega arith; part = omega arith; deep = omega arith }
