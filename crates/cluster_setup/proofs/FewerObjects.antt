-- A setup that is read again from its line is so with fewer objects too.
use Rattle.std.proofs.Common.{◌≡◌, ℕ, ◌+◌, ◌≤◌, ◌<◌, pos, Bool, true, false, List, [], ◌∷◌, ◌++◌, length, get_or, codes, IsUtf8, IsCharBoundary, refl, sym, ap, ◌∙◌, subst, arith, append_assoc, append-nil, length-append}
use Rattle.std.proofs.Math.Seq.{get_or-append_seam}
use Rattle.std.proofs.lemmas.List.{take_at, drop_at}
use Rattle.std.proofs.lemmas.Str.{IsUtf8-append, IsUtf8-take, IsUtf8-drop}
use Rattle.json.specs.Print.{quoted}
use Rattle.json.specs.Tree as tree
use Rattle.json.proofs.Printed.Utf8.{IsUtf8-are_ascii}
use Rattle.serde_json.specs.Written.{outline, items_outline, members_outline, compact_text, items_text, members_text, comma_if}
use Rattle.base_types.specs.Meaning.{Meaning, flag, whole, words, items, members, kids_of, fields_of}
use Rattle.base_types.specs.Values.{data_of, data_items, data_members, InRange}
use Rattle.setup_file.specs.Reading.{IsTreeOf}
use Rattle.cluster_setup.specs.Answers.{json_line}
use Rattle.cluster_setup.specs.Making.{setup_with, start_tree, lag_of}
use Rattle.cluster_setup.proofs.KeptMembers.{are_ordered, value_swapped, fewer_kept}
use Rattle.cluster_setup.proofs.TreeLines.{IsShallow, line_tells, line_read}

-- ---- where the objects stand in a setup

abbrev Named : Type 0
Named = List ℕ × Meaning

-- the members in front of the objects, and those behind them
abbrev front_of : Meaning → List Meaning → Bool → List Named
front_of policy resources true =
    (codes "authorize", flag true) ∷ (codes "kind", words (codes "PastSetup")) ∷ (codes "lagNanos", whole (pos (lag_of true))) ∷ (codes "policy", policy) ∷ (codes "resources", items (kids_of resources)) ∷ []
front_of policy resources false =
    (codes "authorize", flag false) ∷ (codes "kind", words (codes "PastSetup")) ∷ (codes "policy", policy) ∷ (codes "resources", items (kids_of resources)) ∷ []

abbrev back_of : List ℕ → List ℕ → List Named
back_of revision time = (codes "start", start_tree revision time) ∷ (codes "version", whole (pos 1)) ∷ []

abbrev with_list : List Named → List ℕ → List Meaning → List Named → Meaning
with_list front name objects back = members (fields_of (front ++ (name, items (kids_of objects)) ∷ back))

in_order : (revision time : List ℕ) (policy : Meaning) (resources objects : List Meaning) (judged : Bool)
    → setup_with revision time policy resources objects judged ≡ with_list (front_of policy resources judged) (codes "snapshot") objects (back_of revision time)
in_order revision time policy resources objects true = refl
in_order revision time policy resources objects false = refl

-- ---- how deep it nests

fewer_deep : (xs ys : List Meaning) → tree.items_depth (items_outline (data_items (kids_of xs))) ≤ tree.items_depth (items_outline (data_items (kids_of (xs ++ ys))))
fewer_deep [] ys = omega arith
fewer_deep (x ∷ xs) ys = let rest = fewer_deep xs ys in omega arith

member_deep : (front back : List Named) (name : List ℕ) (t u : Meaning) → tree.depth (outline (data_of t)) ≤ tree.depth (outline (data_of u))
    → tree.members_depth (members_outline (data_members (fields_of (front ++ (name, t) ∷ back)))) ≤ tree.members_depth (members_outline (data_members (fields_of (front ++ (name, u) ∷ back))))
member_deep [] back name t u less = omega arith
member_deep (m ∷ front) back name t u less = let rest = member_deep front back name t u less in omega arith

shallow_fewer : (front back : List Named) (name : List ℕ) (xs ys : List Meaning) → IsShallow (with_list front name (xs ++ ys) back) → IsShallow (with_list front name xs back)
shallow_fewer front back name xs ys shallow =
    let inside = fewer_deep xs ys in
    let outside = member_deep front back name (items (kids_of xs)) (items (kids_of (xs ++ ys))) (omega arith) in
    omega arith

-- ---- that its line is UTF-8

-- text ends, and begins again, in front of an ASCII byte
cut : (xs ys : List ℕ) (y : ℕ) → y < 128 → IsUtf8 (xs ++ y ∷ ys) → IsUtf8 xs × IsUtf8 (y ∷ ys)
cut xs ys y small utf8 =
    let all = xs ++ y ∷ ys in
    let at : get_or all (length xs) 0 ≡ y = get_or-append_seam xs y ys 0 in
    let bound : IsCharBoundary all (length xs) = (omega (arith, length-append xs (y ∷ ys)), λ within high. absurd (omega arith)) in (
      subst IsUtf8 (take_at xs (y ∷ ys) (length xs) refl) (IsUtf8-take all (length xs) utf8 bound),
      subst IsUtf8 (drop_at xs (y ∷ ys) (length xs) refl) (IsUtf8-drop all (length xs) utf8 bound),
    )

-- the members' text up to the value of this name
abbrev front_text : Bool → List Named → List ℕ → List ℕ
front_text later [] name = comma_if later ++ (quoted name ++ 58 ∷ [])
front_text later (m ∷ front) name = comma_if later ++ (quoted m.0 ++ 58 ∷ (compact_text (data_of m.1) ++ front_text true front name))

last_apart : (a b c d : List ℕ) → a ++ (b ++ 58 ∷ (c ++ d)) ≡ (a ++ (b ++ 58 ∷ [])) ++ (c ++ d)
last_apart a b c d = simp append_assoc

first_apart : (a b c d e : List ℕ) → a ++ (b ++ 58 ∷ (c ++ (d ++ e))) ≡ (a ++ (b ++ 58 ∷ (c ++ d))) ++ e
first_apart a b c d e = simp append_assoc

members_apart : (later : Bool) (front back : List Named) (name : List ℕ) (t : Meaning)
    → members_text later (data_members (fields_of (front ++ (name, t) ∷ back))) ≡ front_text later front name ++ (compact_text (data_of t) ++ members_text true (data_members (fields_of back)))
members_apart later [] back name t = last_apart (comma_if later) (quoted name) (compact_text (data_of t)) (members_text true (data_members (fields_of back)))
members_apart later (m ∷ front) back name t =
    let rest = compact_text (data_of t) ++ members_text true (data_members (fields_of back)) in
    ap (λ l. comma_if later ++ (quoted m.0 ++ 58 ∷ (compact_text (data_of m.1) ++ l))) (members_apart true front back name t)
    ∙ first_apart (comma_if later) (quoted m.0) (compact_text (data_of m.1)) (front_text true front name) rest

-- the items' text, up to the comma or the bracket behind them
abbrev items_front : Bool → List Meaning → List ℕ
items_front later [] = []
items_front later (x ∷ xs) = comma_if later ++ (compact_text (data_of x) ++ items_front true xs)

abbrev later_with : Bool → List Meaning → Bool
later_with later [] = later
later_with later (x ∷ xs) = true

item_apart : (a b c d : List ℕ) → a ++ (b ++ (c ++ d)) ≡ (a ++ (b ++ c)) ++ d
item_apart a b c d = simp append_assoc

items_apart : (later : Bool) (xs ys : List Meaning)
    → items_text later (data_items (kids_of (xs ++ ys))) ≡ items_front later xs ++ items_text (later_with later xs) (data_items (kids_of ys))
items_apart later [] ys = refl
items_apart later (x ∷ []) ys = item_apart (comma_if later) (compact_text (data_of x)) [] (items_text true (data_items (kids_of ys)))
items_apart later (x ∷ z ∷ xs) ys =
    ap (λ l. comma_if later ++ (compact_text (data_of x) ++ l)) (items_apart true (z ∷ xs) ys)
    ∙ item_apart (comma_if later) (compact_text (data_of x)) (items_front true (z ∷ xs)) (items_text true (data_items (kids_of ys)))

cut_items : (front : List ℕ) (ys : List Meaning) → IsUtf8 (front ++ items_text true (data_items (kids_of ys))) → IsUtf8 front
cut_items front [] utf8 = (cut front [] 93 (omega arith) utf8).0
cut_items front (y ∷ ys) utf8 = (cut front (compact_text (data_of y) ++ items_text true (data_items (kids_of ys))) 44 (omega arith) utf8).0

cut_members : (front : List ℕ) (back : List Named) → IsUtf8 (front ++ members_text true (data_members (fields_of back))) → IsUtf8 front × IsUtf8 (members_text true (data_members (fields_of back)))
cut_members front [] utf8 = cut front [] 125 (omega arith) utf8
cut_members front (m ∷ back) utf8 =
    cut front (quoted m.0 ++ 58 ∷ (compact_text (data_of m.1) ++ members_text true (data_members (fields_of back)))) 44 (omega arith) utf8

list_utf8 : (xs ys : List Meaning) → IsUtf8 (91 ∷ items_text false (data_items (kids_of (xs ++ ys)))) → IsUtf8 (91 ∷ items_text false (data_items (kids_of xs)))
list_utf8 [] ys utf8 = IsUtf8-are_ascii (91 ∷ 93 ∷ []) refl
list_utf8 (x ∷ xs) ys utf8 =
    let front = 91 ∷ items_front false (x ∷ xs) in
    let begun = cut_items front ys (subst (λ l. IsUtf8 (91 ∷ l)) (items_apart false (x ∷ xs) ys) utf8) in
    let whole_list = sym (items_apart false (x ∷ xs) []) ∙ ap (λ l. items_text false (data_items (kids_of l))) (append-nil (x ∷ xs)) in
    subst (λ l. IsUtf8 (91 ∷ l)) whole_list (IsUtf8-append front (93 ∷ []) begun (IsUtf8-are_ascii (93 ∷ []) refl))

utf8_fewer : (front back : List Named) (name : List ℕ) (xs ys : List Meaning) → IsUtf8 (json_line (with_list front name (xs ++ ys) back)) → IsUtf8 (json_line (with_list front name xs back))
utf8_fewer front back name xs ys utf8 =
    let text = λ (objects : List Meaning). compact_text (data_of (with_list front name objects back)) in
    let begun = 123 ∷ front_text false front name in
    let rest = members_text true (data_members (fields_of back)) in
    let list = λ (objects : List Meaning). 91 ∷ items_text false (data_items (kids_of objects)) in
    let apart = λ (objects : List Meaning). ap (λ l. 123 ∷ l) (members_apart false front back name (items (kids_of objects))) in
    let unended = (cut (text (xs ++ ys)) [] 10 (omega arith) utf8).0 in
    let parts = cut begun (items_text false (data_items (kids_of (xs ++ ys))) ++ rest) 91 (omega arith) (subst IsUtf8 (apart (xs ++ ys)) unended) in
    let ends = cut_members (list (xs ++ ys)) back parts.1 in
    let made = IsUtf8-append begun (list xs ++ rest) parts.0 (IsUtf8-append (list xs) rest (list_utf8 xs ys ends.0) ends.1) in
    IsUtf8-append (text xs) (10 ∷ []) (subst IsUtf8 (sym (apart xs)) made) (IsUtf8-are_ascii (10 ∷ []) refl)

-- ---- that it is read again

ordered : (revision time : List ℕ) (policy : Meaning) (resources objects : List Meaning) (judged : Bool)
    → are_ordered [] (fields_of (front_of policy resources judged ++ (codes "snapshot", items (kids_of objects)) ∷ back_of revision time)) ≡ true
ordered revision time policy resources objects true = refl
ordered revision time policy resources objects false = refl

-- what is read again from its line is so with the objects in front alone
pub read_fewer : (revision time : List ℕ) (policy : Meaning) (resources xs ys : List Meaning) (judged : Bool)
    → InRange (setup_with revision time policy resources (xs ++ ys) judged) → InRange (setup_with revision time policy resources xs judged)
    → IsTreeOf (json_line (setup_with revision time policy resources (xs ++ ys) judged)) (setup_with revision time policy resources (xs ++ ys) judged)
    → IsTreeOf (json_line (setup_with revision time policy resources xs judged)) (setup_with revision time policy resources xs judged)
read_fewer revision time policy resources xs ys judged range range_fewer read =
    let front = front_of policy resources judged in
    let back = back_of revision time in
    let name = codes "snapshot" in
    let old = in_order revision time policy resources (xs ++ ys) judged in
    let new = in_order revision time policy resources xs judged in
    let whole_range = subst InRange old range in
    let whole_read = subst (λ t. IsTreeOf (json_line t) t) old read in
    let told = line_tells (with_list front name (xs ++ ys) back) whole_range whole_read in
    let kept = value_swapped front back name (items (kids_of (xs ++ ys))) (items (kids_of xs)) (ordered revision time policy resources (xs ++ ys) judged) (ordered revision time policy resources xs judged) (fewer_kept xs ys) told.1 in
    subst (λ t. IsTreeOf (json_line t) t) (sym new)
    (line_read (with_list front name xs back) (subst InRange new range_fewer) (utf8_fewer front back name xs ys whole_read.0) (shallow_fewer front back name xs ys told.0) kept)
