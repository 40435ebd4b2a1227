-- A list that is a member of a JSON text's object has at most as many items as the text has bytes.
use Rattle.std.proofs.Common.{◌≡◌, ℕ, zero, suc, ◌≤◌, List, [], ◌∷◌, length, Option, Some, None, option_map, option_and_then, Ordering, Less, Equal, Greater, nat_cmp, refl, sym, ap, subst, ◌∙◌, arith}
use Rattle.std.specs.Prelude.{⊤}
use Rattle.std.specs.Cmp.Lexicographic.{slice_cmp}
use Rattle.std.specs.Ordering.{match_ordering}
use Rattle.json.specs.Token.{Token}
use Rattle.json.specs.Token as token
use Rattle.json.specs.Lex.{tokens}
use Rattle.json.specs.Json as json
use Rattle.json.specs.Json.{Json, Parse, parse_map, after_end_array, read_key, items_step, members_step, value_with, if_last}
use Rattle.serde_json.specs.Data.{Data, Items, no_items, item, Members, no_members, member, array, put}
use Rattle.serde_json.specs.Data as data_of
use Rattle.serde_json.specs.Find.{get, get_member, as_array}
use Rattle.serde_json.specs.Read as reading
use Rattle.base_types.specs.Items.{item_list}
use Rattle.packed_tree.proofs.LexSizes.{tokens_size}

abbrev json_len : json.Items → ℕ
json_len json.no_items = 0
json_len (json.item j js) = suc (json_len js)

abbrev left_of : {A B : Type 0} → A → Option (A × B) → A
left_of d None = d
left_of d (Some p) = p.0

abbrev right_of : {A B : Type 0} → B → Option (A × B) → B
right_of d None = d
right_of d (Some p) = p.1

left_same : {A B : Type 0} (a x : A) (b y : B) → ◌≡◌ {A = Option (A × B)} (Some (a, b)) (Some (x, y)) → a ≡ x
left_same a x b y is = ap (left_of a) is

right_same : {A B : Type 0} (a x : A) (b y : B) → ◌≡◌ {A = Option (A × B)} (Some (a, b)) (Some (x, y)) → b ≡ y
right_same a x b y is = ap (right_of b) is

-- a reader takes at least one token
abbrev Shrinks : {A : Type 0} → Parse A → Type 0
Shrinks {A} p = (ts : List Token) (x : A) (rest : List Token) → p ts ≡ Some (x, rest) → suc (length rest) ≤ length ts

-- each turn reads at most one item
items_turns : (v : Parse Json) (n : ℕ) (ts : List Token) (js : json.Items) (rest : List Token) → json.items v n ts ≡ Some (js, rest) → json_len js ≤ n
unfolding json.items
items_turns v zero ts js rest read = absurd (cc)
items_turns v (suc n) ts js rest read = by_end (λ ts js rest e. items_turns v n ts js rest e) (after_end_array ts) read
  where
    longer : (first : Json) (more : Option (json.Items × List Token)) → ((q : json.Items × List Token) → more ≡ Some q → json_len q.0 ≤ n)
        → parse_map (json.item first) more ≡ Some (js, rest) → json_len js ≤ suc n
    longer first None each is = absurd (cc)
    longer first (Some q) each is =
        let same = left_same (json.item first q.0) js q.1 rest is in
        subst (λ x. json_len x ≤ suc n) same (let bound = each q refl in omega arith)

    by_value : ((ts : List Token) (js : json.Items) (rest : List Token) → json.items v n ts ≡ Some (js, rest) → json_len js ≤ n) → (first : Option (Json × List Token)) → option_and_then (λ p. parse_map (json.item p.0) (json.items v n p.1)) first ≡ Some (js, rest) → json_len js ≤ suc n
    by_value again None is = absurd (cc)
    by_value again (Some p) is = longer p.0 (json.items v n p.1) (λ q e. again p.1 q.0 q.1 e) is

    by_end : ((ts : List Token) (js : json.Items) (rest : List Token) → json.items v n ts ≡ Some (js, rest) → json_len js ≤ n) → (closed : Option (List Token)) → items_step v (json.items v n) ts closed ≡ Some (js, rest) → json_len js ≤ suc n
    by_end again None is = by_value again (v ts) is
    by_end again (Some after) is =
        let same = left_same json.no_items js after rest is in
        subst (λ x. json_len x ≤ suc n) same (omega arith)

-- what `parse_map` gave comes of what was read
unmapped : {A B : Type 0} (f : A → B) (read : Option (A × List Token)) (y : B) (rest : List Token) → parse_map f read ≡ Some (y, rest) → (x : A) × (read ≡ Some (x, rest)) × (f x ≡ y)
unmapped f None y rest is = absurd (cc)
unmapped f (Some p) y rest is = (p.0, (λ i. Some (p.0, right_same (f p.0) y p.1 rest is i)), left_same (f p.0) y p.1 rest is)

end_shrinks : (ts after : List Token) → after_end_array ts ≡ Some after → suc (length after) ≤ length ts
end_shrinks [] after is = absurd (cc)
end_shrinks (token.begin_object ∷ ts) after is = absurd (cc)
end_shrinks (token.end_object ∷ ts) after is = absurd (cc)
end_shrinks (token.begin_array ∷ ts) after is = absurd (cc)
end_shrinks (token.end_array ∷ ts) after is = let same : ts ≡ after = cc in subst (λ l. suc (length l) ≤ suc (length ts)) same (omega arith)
end_shrinks (token.key s ∷ ts) after is = absurd (cc)
end_shrinks (token.string s ∷ ts) after is = absurd (cc)
end_shrinks (token.number s ∷ ts) after is = absurd (cc)
end_shrinks (token.boolean b ∷ ts) after is = absurd (cc)
end_shrinks (token.null ∷ ts) after is = absurd (cc)
end_shrinks (token.bad ∷ ts) after is = absurd (cc)

key_shrinks : (ts : List Token) (k : Option (List ℕ)) (after : List Token) → read_key ts ≡ Some (k, after) → suc (length after) ≤ length ts
key_shrinks [] k after is = absurd (cc)
key_shrinks (token.begin_object ∷ ts) k after is = absurd (cc)
key_shrinks (token.end_object ∷ ts) k after is = let same = right_same None k ts after is in subst (λ l. suc (length l) ≤ suc (length ts)) same (omega arith)
key_shrinks (token.begin_array ∷ ts) k after is = absurd (cc)
key_shrinks (token.end_array ∷ ts) k after is = absurd (cc)
key_shrinks (token.key s ∷ ts) k after is = let same = right_same (Some s) k ts after is in subst (λ l. suc (length l) ≤ suc (length ts)) same (omega arith)
key_shrinks (token.string s ∷ ts) k after is = absurd (cc)
key_shrinks (token.number s ∷ ts) k after is = absurd (cc)
key_shrinks (token.boolean b ∷ ts) k after is = absurd (cc)
key_shrinks (token.null ∷ ts) k after is = absurd (cc)
key_shrinks (token.bad ∷ ts) k after is = absurd (cc)

items_shrinks : (v : Parse Json) → Shrinks v → (n : ℕ) → Shrinks (json.items v n)
unfolding json.items
items_shrinks v shrinks zero ts js rest read = absurd (cc)
items_shrinks v shrinks (suc n) ts js rest read = by_end (λ ts x rest e. items_shrinks v shrinks n ts x rest e) (after_end_array ts) refl read
  where
    by_value : Shrinks (json.items v n) → (first : Option (Json × List Token)) → v ts ≡ first → option_and_then (λ p. parse_map (json.item p.0) (json.items v n p.1)) first ≡ Some (js, rest) → suc (length rest) ≤ length ts
    by_value again None was is = absurd (cc)
    by_value again (Some p) was is =
        let more = unmapped (json.item p.0) (json.items v n p.1) js rest is in
        let first = shrinks ts p.0 p.1 was in
        let next = again p.1 more.0 rest more.1 in
        omega arith

    by_end : Shrinks (json.items v n) → (closed : Option (List Token)) → after_end_array ts ≡ closed → items_step v (json.items v n) ts closed ≡ Some (js, rest) → suc (length rest) ≤ length ts
    by_end again None was is = by_value again (v ts) refl is
    by_end again (Some after) was is =
        let same = right_same json.no_items js after rest is in
        subst (λ l. suc (length l) ≤ length ts) same (end_shrinks ts after was)

members_shrinks : (v : Parse Json) → Shrinks v → (n : ℕ) → Shrinks (json.members v n)
unfolding json.members
members_shrinks v shrinks zero ts ms rest read = absurd (cc)
members_shrinks v shrinks (suc n) ts ms rest read = by_key (λ ts x rest e. members_shrinks v shrinks n ts x rest e) (read_key ts) refl read
  where
    by_value : Shrinks (json.members v n) → (k : List ℕ) (after : List Token) → suc (length after) ≤ length ts → (first : Option (Json × List Token)) → v after ≡ first
        → option_and_then (λ p. parse_map (json.member k p.0) (json.members v n p.1)) first ≡ Some (ms, rest) → suc (length rest) ≤ length ts
    by_value again k after less None was is = absurd (cc)
    by_value again k after less (Some p) was is =
        let more = unmapped (json.member k p.0) (json.members v n p.1) ms rest is in
        let first = shrinks after p.0 p.1 was in
        let next = again p.1 more.0 rest more.1 in
        omega arith

    by_name : Shrinks (json.members v n) → (k : Option (List ℕ)) (after : List Token) → suc (length after) ≤ length ts → members_step v (json.members v n) k after ≡ Some (ms, rest) → suc (length rest) ≤ length ts
    by_name again None after less is = let same = right_same json.no_members ms after rest is in subst (λ l. suc (length l) ≤ length ts) same less
    by_name again (Some k) after less is = by_value again k after less (v after) refl is

    by_key : Shrinks (json.members v n) → (found : Option (Option (List ℕ) × List Token)) → read_key ts ≡ found → option_and_then (λ p. members_step v (json.members v n) p.0 p.1) found ≡ Some (ms, rest) → suc (length rest) ≤ length ts
    by_key again None was is = absurd (cc)
    by_key again (Some p) was is = by_name again p.0 p.1 (key_shrinks ts p.0 p.1 was) is

with_shrinks : (a : Parse json.Items) (o : Parse json.Members) → Shrinks a → Shrinks o → Shrinks (value_with a o)
with_shrinks a o sa so [] j rest is = absurd (cc)
with_shrinks a o sa so (token.begin_object ∷ ts) j rest is = let inner = unmapped json.object (o ts) j rest is in let less = so ts inner.0 rest inner.1 in omega arith
with_shrinks a o sa so (token.end_object ∷ ts) j rest is = absurd (cc)
with_shrinks a o sa so (token.begin_array ∷ ts) j rest is = let inner = unmapped json.array (a ts) j rest is in let less = sa ts inner.0 rest inner.1 in omega arith
with_shrinks a o sa so (token.end_array ∷ ts) j rest is = absurd (cc)
with_shrinks a o sa so (token.key s ∷ ts) j rest is = absurd (cc)
with_shrinks a o sa so (token.string s ∷ ts) j rest is = let same = right_same (json.string s) j ts rest is in subst (λ l. suc (length l) ≤ suc (length ts)) same (omega arith)
with_shrinks a o sa so (token.number s ∷ ts) j rest is = let same = right_same (json.number s) j ts rest is in subst (λ l. suc (length l) ≤ suc (length ts)) same (omega arith)
with_shrinks a o sa so (token.boolean b ∷ ts) j rest is = let same = right_same (json.boolean b) j ts rest is in subst (λ l. suc (length l) ≤ suc (length ts)) same (omega arith)
with_shrinks a o sa so (token.null ∷ ts) j rest is = let same = right_same json.null j ts rest is in subst (λ l. suc (length l) ≤ suc (length ts)) same (omega arith)
with_shrinks a o sa so (token.bad ∷ ts) j rest is = absurd (cc)

value_shrinks : (depth : ℕ) → Shrinks (json.value depth)
unfolding json.value
value_shrinks zero = with_shrinks (λ ts. None) (λ ts. None) (λ ts x rest is. absurd (cc)) (λ ts x rest is. absurd (cc))
value_shrinks (suc depth) =
    let inner = value_shrinks depth in
    with_shrinks (λ ts. json.items (json.value depth) (length ts) ts) (λ ts. json.members (json.value depth) (length ts) ts)
    (λ ts x rest is. items_shrinks (json.value depth) inner (length ts) ts x rest is) (λ ts x rest is. members_shrinks (json.value depth) inner (length ts) ts x rest is)

-- where the value is an array, it has at most so many items
abbrev ArrayWithin : ℕ → Json → Type 0
ArrayWithin n json.null = ⊤
ArrayWithin n (json.boolean b) = ⊤
ArrayWithin n (json.number s) = ⊤
ArrayWithin n (json.string s) = ⊤
ArrayWithin n (json.array js) = json_len js ≤ n
ArrayWithin n (json.object ms) = ⊤

abbrev EachWithin : ℕ → json.Members → Type 0
EachWithin n json.no_members = ⊤
EachWithin n (json.member k j ms) = ArrayWithin n j × EachWithin n ms

array_more : (m n : ℕ) (j : Json) → m ≤ n → ArrayWithin m j → ArrayWithin n j
array_more m n json.null le within = tt
array_more m n (json.boolean b) le within = tt
array_more m n (json.number s) le within = tt
array_more m n (json.string s) le within = tt
array_more m n (json.array js) le within = omega arith
array_more m n (json.object ms) le within = tt

abbrev Bounds : Parse Json → Type 0
Bounds v = (ts : List Token) (j : Json) (rest : List Token) → v ts ≡ Some (j, rest) → ArrayWithin (length ts) j

with_bounds : (a : Parse json.Items) (o : Parse json.Members) → ((ts : List Token) (js : json.Items) (rest : List Token) → a ts ≡ Some (js, rest) → json_len js ≤ length ts) → Bounds (value_with a o)
with_bounds a o bound [] j rest is = absurd (cc)
with_bounds a o bound (token.begin_object ∷ ts) j rest is = let inner = unmapped json.object (o ts) j rest is in subst (ArrayWithin (suc (length ts))) inner.2 tt
with_bounds a o bound (token.end_object ∷ ts) j rest is = absurd (cc)
with_bounds a o bound (token.begin_array ∷ ts) j rest is = let inner = unmapped json.array (a ts) j rest is in let few = bound ts inner.0 rest inner.1 in subst (ArrayWithin (suc (length ts))) inner.2 (omega arith)
with_bounds a o bound (token.end_array ∷ ts) j rest is = absurd (cc)
with_bounds a o bound (token.key s ∷ ts) j rest is = absurd (cc)
with_bounds a o bound (token.string s ∷ ts) j rest is = let same = left_same (json.string s) j ts rest is in subst (ArrayWithin (suc (length ts))) same tt
with_bounds a o bound (token.number s ∷ ts) j rest is = let same = left_same (json.number s) j ts rest is in subst (ArrayWithin (suc (length ts))) same tt
with_bounds a o bound (token.boolean b ∷ ts) j rest is = let same = left_same (json.boolean b) j ts rest is in subst (ArrayWithin (suc (length ts))) same tt
with_bounds a o bound (token.null ∷ ts) j rest is = let same = left_same json.null j ts rest is in subst (ArrayWithin (suc (length ts))) same tt
with_bounds a o bound (token.bad ∷ ts) j rest is = absurd (cc)

value_bounds : (depth : ℕ) → Bounds (json.value depth)
unfolding json.value
value_bounds zero = with_bounds (λ ts. None) (λ ts. None) (λ ts js rest is. absurd (cc))
value_bounds (suc depth) =
    with_bounds (λ ts. json.items (json.value depth) (length ts) ts) (λ ts. json.members (json.value depth) (length ts) ts) (λ ts js rest is. items_turns (json.value depth) (length ts) ts js rest is)

members_bounds : (v : Parse Json) → Shrinks v → Bounds v → (most n : ℕ) (ts : List Token) (ms : json.Members) (rest : List Token) → json.members v n ts ≡ Some (ms, rest) → length ts ≤ most → EachWithin most ms
unfolding json.members
members_bounds v shrinks bounds most zero ts ms rest read le = absurd (cc)
members_bounds v shrinks bounds most (suc n) ts ms rest read le = by_key (λ ts ms rest e le. members_bounds v shrinks bounds most n ts ms rest e le) (read_key ts) refl read
  where
    by_value : ((ts : List Token) (ms : json.Members) (rest : List Token) → json.members v n ts ≡ Some (ms, rest) → length ts ≤ most → EachWithin most ms) → (k : List ℕ) (after : List Token) → suc (length after) ≤ length ts → (first : Option (Json × List Token)) → v after ≡ first
        → option_and_then (λ p. parse_map (json.member k p.0) (json.members v n p.1)) first ≡ Some (ms, rest) → EachWithin most ms
    by_value again k after less None was is = absurd (cc)
    by_value again k after less (Some p) was is =
        let more = unmapped (json.member k p.0) (json.members v n p.1) ms rest is in
        let first = shrinks after p.0 p.1 was in
        let here = array_more (length after) most p.0 (omega arith) (bounds after p.0 p.1 was) in
        subst (EachWithin most) more.2 (here, again p.1 more.0 rest more.1 (omega arith))

    by_name : ((ts : List Token) (ms : json.Members) (rest : List Token) → json.members v n ts ≡ Some (ms, rest) → length ts ≤ most → EachWithin most ms) → (k : Option (List ℕ)) (after : List Token) → suc (length after) ≤ length ts → members_step v (json.members v n) k after ≡ Some (ms, rest) → EachWithin most ms
    by_name again None after less is = let same = left_same json.no_members ms after rest is in subst (EachWithin most) same tt
    by_name again (Some k) after less is = by_value again k after less (v after) refl is

    by_key : ((ts : List Token) (ms : json.Members) (rest : List Token) → json.members v n ts ≡ Some (ms, rest) → length ts ≤ most → EachWithin most ms) → (found : Option (Option (List ℕ) × List Token)) → read_key ts ≡ found → option_and_then (λ p. members_step v (json.members v n) p.0 p.1) found ≡ Some (ms, rest) → EachWithin most ms
    by_key again None was is = absurd (cc)
    by_key again (Some p) was is = by_name again p.0 p.1 (key_shrinks ts p.0 p.1 was) is

-- an object: its arrays have at most as many items as tokens stand behind its bracket
abbrev ObjectWithin : ℕ → Json → Type 0
ObjectWithin n json.null = ⊤
ObjectWithin n (json.boolean b) = ⊤
ObjectWithin n (json.number s) = ⊤
ObjectWithin n (json.string s) = ⊤
ObjectWithin n (json.array js) = ⊤
ObjectWithin n (json.object ms) = EachWithin n ms

with_object : (a : Parse json.Items) (o : Parse json.Members) (most : ℕ) → ((ts : List Token) (ms : json.Members) (rest : List Token) → o ts ≡ Some (ms, rest) → length ts ≤ most → EachWithin most ms)
    → (ts : List Token) (j : Json) (rest : List Token) → value_with a o ts ≡ Some (j, rest) → length ts ≤ suc most → ObjectWithin most j
with_object a o most each [] j rest is le = absurd (cc)
with_object a o most each (token.begin_object ∷ ts) j rest is le = let inner = unmapped json.object (o ts) j rest is in subst (ObjectWithin most) inner.2 (each ts inner.0 rest inner.1 (omega arith))
with_object a o most each (token.end_object ∷ ts) j rest is le = absurd (cc)
with_object a o most each (token.begin_array ∷ ts) j rest is le = let inner = unmapped json.array (a ts) j rest is in subst (ObjectWithin most) inner.2 tt
with_object a o most each (token.end_array ∷ ts) j rest is le = absurd (cc)
with_object a o most each (token.key s ∷ ts) j rest is le = absurd (cc)
with_object a o most each (token.string s ∷ ts) j rest is le = let same = left_same (json.string s) j ts rest is in subst (ObjectWithin most) same tt
with_object a o most each (token.number s ∷ ts) j rest is le = let same = left_same (json.number s) j ts rest is in subst (ObjectWithin most) same tt
with_object a o most each (token.boolean b ∷ ts) j rest is le = let same = left_same (json.boolean b) j ts rest is in subst (ObjectWithin most) same tt
with_object a o most each (token.null ∷ ts) j rest is le = let same = left_same json.null j ts rest is in subst (ObjectWithin most) same tt
with_object a o most each (token.bad ∷ ts) j rest is le = absurd (cc)

value_object : (depth most : ℕ) (ts : List Token) (j : Json) (rest : List Token) → json.value depth ts ≡ Some (j, rest) → length ts ≤ suc most → ObjectWithin most j
unfolding json.value
value_object zero most ts j rest is le = with_object (λ ts. None) (λ ts. None) most (λ ts ms rest is le. absurd (cc)) ts j rest is le
value_object (suc depth) most ts j rest is le =
    with_object (λ ts. json.items (json.value depth) (length ts) ts) (λ ts. json.members (json.value depth) (length ts) ts) most
    (λ ts ms rest is le. members_bounds (json.value depth) (value_shrinks depth) (value_bounds depth) most (length ts) ts ms rest is le) ts j rest is le

-- ---- the value that is made of it

abbrev DataWithin : ℕ → Data → Type 0
DataWithin n data_of.null = ⊤
DataWithin n (data_of.boolean b) = ⊤
DataWithin n (data_of.number x) = ⊤
DataWithin n (data_of.string s) = ⊤
DataWithin n (array ds) = length (item_list ds) ≤ n
DataWithin n (data_of.object ms) = ⊤

abbrev DataEach : ℕ → Members → Type 0
DataEach n no_members = ⊤
DataEach n (member k d ms) = DataWithin n d × DataEach n ms

put_each : (n : ℕ) (k : List ℕ) (d : Data) (ms : Members) → DataWithin n d → DataEach n ms → DataEach n (put k d ms)
put_each n k d no_members here each = (here, tt)
put_each n k d (member l e ms) here each = by (put_each n k d ms here each.1) (slice_cmp nat_cmp k l)
  where
    by : DataEach n (put k d ms) → (o : Ordering) → DataEach n (match_ordering o (member k d (member l e ms)) (member l d ms) (member l e (put k d ms)))
    by rest Less = (here, each)
    by rest Equal = (here, each.1)
    by rest Greater = (each.0, rest)

of_items_len : (js : json.Items) (ds : Items) → reading.of_items js ≡ Some ds → length (item_list ds) ≡ json_len js
of_items_len json.no_items ds is = let same : no_items ≡ ds = cc in ap (λ l. length (item_list l)) (sym same)
of_items_len (json.item j js) ds is = by (λ ds e. of_items_len js ds e) (reading.of_json j) (reading.of_items js) refl is
  where
    by : ((ds : Items) → reading.of_items js ≡ Some ds → length (item_list ds) ≡ json_len js) → (first : Option Data) (rest : Option Items) → reading.of_items js ≡ rest → option_and_then (λ d. option_map (item d) rest) first ≡ Some ds → length (item_list ds) ≡ suc (json_len js)
    by again None rest was is = absurd (cc)
    by again (Some d) None was is = absurd (cc)
    by again (Some d) (Some more) was is =
        let same : item d more ≡ ds = cc in
        ap (λ l. length (item_list l)) (sym same) ∙ ap suc (again more was)

of_json_within : (n : ℕ) (j : Json) (d : Data) → reading.of_json j ≡ Some d → ArrayWithin n j → DataWithin n d
of_json_within n json.null d is within = let same : data_of.null ≡ d = cc in subst (DataWithin n) same tt
of_json_within n (json.boolean b) d is within = let same : data_of.boolean b ≡ d = cc in subst (DataWithin n) same tt
of_json_within n (json.number s) d is within = by (reading.number_of s) is
  where
    by : (x : Option data_of.Num) → option_map data_of.number x ≡ Some d → DataWithin n d
    by None is = absurd (cc)
    by (Some x) is = let same : data_of.number x ≡ d = cc in subst (DataWithin n) same tt
of_json_within n (json.string s) d is within = let same : data_of.string s ≡ d = cc in subst (DataWithin n) same tt
of_json_within n (json.array js) d is within = by (reading.of_items js) refl is
  where
    by : (ds : Option Items) → reading.of_items js ≡ ds → option_map array ds ≡ Some d → DataWithin n d
    by None was is = absurd (cc)
    by (Some ds) was is = let same : array ds ≡ d = cc in let long = of_items_len js ds was in subst (DataWithin n) same (omega arith)
of_json_within n (json.object ms) d is within = by (reading.of_members ms no_members) is
  where
    by : (out : Option Members) → option_map data_of.object out ≡ Some d → DataWithin n d
    by None is = absurd (cc)
    by (Some out) is = let same : data_of.object out ≡ d = cc in subst (DataWithin n) same tt

of_members_each : (n : ℕ) (ms : json.Members) (found out : Members) → reading.of_members ms found ≡ Some out → EachWithin n ms → DataEach n found → DataEach n out
of_members_each n json.no_members found out is each had = let same : found ≡ out = cc in subst (DataEach n) same had
of_members_each n (json.member k j ms) found out is each had = by (λ found out e had. of_members_each n ms found out e each.1 had) (reading.of_json j) refl is
  where
    by : ((found out : Members) → reading.of_members ms found ≡ Some out → DataEach n found → DataEach n out) → (first : Option Data) → reading.of_json j ≡ first → option_and_then (λ d. reading.of_members ms (put k d found)) first ≡ Some out → DataEach n out
    by again None was is = absurd (cc)
    by again (Some d) was is = again (put k d found) out is (put_each n k d found (of_json_within n j d was each.0) had)

get_each : (n : ℕ) (k : List ℕ) (ms : Members) (ds : Items) → get_member k ms ≡ Some (array ds) → DataEach n ms → length (item_list ds) ≤ n
get_each n k no_members ds is each = absurd (cc)
get_each n k (member l e ms) ds is each = by (λ found. get_each n k ms ds found each.1) (slice_cmp nat_cmp k l) is
  where
    by : (get_member k ms ≡ Some (array ds) → length (item_list ds) ≤ n) → (o : Ordering) → match_ordering o (get_member k ms) (Some e) (get_member k ms) ≡ Some (array ds) → length (item_list ds) ≤ n
    by later Less is = later is
    by later Equal is = let same : e ≡ array ds = cc in subst (DataWithin n) same each.0
    by later Greater is = later is

-- an array that is a member of what was made of a value
found_within : (n : ℕ) (j : Json) (d : Data) (k : List ℕ) (ds : Items) → reading.of_json j ≡ Some d → ObjectWithin n j → get k d ≡ Some (array ds) → length (item_list ds) ≤ n
found_within n json.null d k ds is within found = let same : data_of.null ≡ d = cc in let none : None ≡ Some (array ds) = ap (get k) same ∙ found in absurd (cc)
found_within n (json.boolean b) d k ds is within found = let same : data_of.boolean b ≡ d = cc in let none : None ≡ Some (array ds) = ap (get k) same ∙ found in absurd (cc)
found_within n (json.number s) d k ds is within found = by (reading.number_of s) is
  where
    by : (x : Option data_of.Num) → option_map data_of.number x ≡ Some d → length (item_list ds) ≤ n
    by None is = absurd (cc)
    by (Some x) is = let same : data_of.number x ≡ d = cc in let none : None ≡ Some (array ds) = ap (get k) same ∙ found in absurd (cc)
found_within n (json.string s) d k ds is within found = let same : data_of.string s ≡ d = cc in let none : None ≡ Some (array ds) = ap (get k) same ∙ found in absurd (cc)
found_within n (json.array js) d k ds is within found = by (reading.of_items js) is
  where
    by : (items : Option Items) → option_map array items ≡ Some d → length (item_list ds) ≤ n
    by None is = absurd (cc)
    by (Some items) is = let same : array items ≡ d = cc in let none : None ≡ Some (array ds) = ap (get k) same ∙ found in absurd (cc)
found_within n (json.object ms) d k ds is within found = by (reading.of_members ms no_members) refl is
  where
    by : (out : Option Members) → reading.of_members ms no_members ≡ out → option_map data_of.object out ≡ Some d → length (item_list ds) ≤ n
    by None was is = absurd (cc)
    by (Some out) was is =
        let same : data_of.object out ≡ d = cc in
        get_each n k out ds (ap (get k) same ∙ found) (of_members_each n ms no_members out was within tt)

pub is_array : (d : Data) (ds : Items) → as_array d ≡ Some ds → d ≡ array ds
is_array data_of.null ds is = absurd (cc)
is_array (data_of.boolean b) ds is = absurd (cc)
is_array (data_of.number x) ds is = absurd (cc)
is_array (data_of.string s) ds is = absurd (cc)
is_array (array es) ds is = cc
is_array (data_of.object ms) ds is = absurd (cc)

-- a list that is a member of a text's object has at most as many items as the text has bytes
pub member_within : (text name : List ℕ) (d : Data) (ds : Items) → reading.read text ≡ Some d → get name d ≡ Some (array ds) → length (item_list ds) ≤ length text
member_within text name d ds reads found = by_value (json.value reading.max_depth (tokens text)) refl reads
  where
    by_last : (j : Json) (rest : List Token) → json.value reading.max_depth (tokens text) ≡ Some (j, rest) → option_and_then reading.of_json (if_last j rest) ≡ Some d → length (item_list ds) ≤ length text
    by_last j [] was is = found_within (length text) j d name ds is (value_object reading.max_depth (length text) (tokens text) j [] was (tokens_size text)) found
    by_last j (t ∷ ts) was is = absurd (cc)

    by_value : (first : Option (Json × List Token)) → json.value reading.max_depth (tokens text) ≡ first → option_and_then reading.of_json (option_and_then (λ p. if_last p.0 p.1) first) ≡ Some d → length (item_list ds) ≤ length text
    by_value None was is = absurd (cc)
    by_value (Some p) was is = by_last p.0 p.1 was is
