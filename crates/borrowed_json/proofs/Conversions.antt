-- Items and members that are converted, one after another.
use Rattle.std.proofs.Common.{◌≡◌, ◌≤◌, ℕ, List, [], length, arith, ◌∷◌, ◌++◌, Option, Some, None, option_map, refl, sym, ap, ◌∙◌, Bor, Global}
use Rattle.std.specs.BTreeMap.{insert_entry}
use Rattle.json.specs.Json as json
use Rattle.json.specs.Value.{value_view, items_view as read_items, members_view as read_members}
use Rattle.json.specs.declared.value.Value.{Value}
use Rattle.json.specs.Tree.{depth, items_depth, members_depth}
use Rattle.serde_json.specs.Data.{Data, Items, no_items, item, Members, no_members, put}
use Rattle.serde_json.specs.Read.{of_json, of_items, of_members}
use Rattle.borrowed_json.specs.View.{view, items_view, members_view}
use Rattle.borrowed_json.specs.declared.value.JsonValue.{JsonValue}
use Rattle.borrowed_json.proofs.Views.{Entry, name_cmp, inserted}

-- further items behind those that are made
abbrev pub behind : List JsonValue → Items → Items
behind [] rest = rest
behind (v ∷ made) rest = item (view v) (behind made rest)

pub behind-snoc : (made : List JsonValue) (v : JsonValue) (rest : Items) → behind (made ++ v ∷ []) rest ≡ behind made (item (view v) rest)
behind-snoc [] v rest = refl
behind-snoc (x ∷ made) v rest = ap (item (view x)) (behind-snoc made v rest)

pub behind-none : (made : List JsonValue) → behind made no_items ≡ items_view made
behind-none [] = refl
behind-none (x ∷ made) = ap (item (view x)) (behind-none made)

pub none_made : (found : Option Items) → found ≡ option_map (behind []) found
none_made None = refl
none_made (Some rest) = refl

-- one item more
pub item_made : (made : List JsonValue) (v : JsonValue) (rest : json.Items) (j : json.Json) → of_json j ≡ Some (view v)
    → option_map (behind made) (of_items (json.item j rest)) ≡ option_map (behind (made ++ v ∷ [])) (of_items rest)
item_made made v rest j is = rw is (at (of_items rest))
  where
    at : (found : Option Items) → option_map (behind made) (option_map (item (view v)) found) ≡ option_map (behind (made ++ v ∷ [])) found
    at None = refl
    at (Some rest) = ap Some (sym (behind-snoc made v rest))

pub item_refused : (made : List JsonValue) (rest : json.Items) (j : json.Json) → of_json j ≡ None → option_map (behind made) (of_items (json.item j rest)) ≡ None
item_refused made rest j is = rw is

-- the items behind an item are made behind it
pub items_kept : (first taken rest : List (Value Global)) (x : Value Global) (made more : List JsonValue) (v : JsonValue) → taken ≡ x ∷ rest
    → of_items (read_items first) ≡ option_map (behind made) (of_items (read_items taken)) → of_json (value_view x) ≡ Some (view v) → more ≡ made ++ v ∷ []
    → of_items (read_items first) ≡ option_map (behind more) (of_items (read_items rest))
items_kept first taken rest x made more v steps reads here pushed =
    reads ∙ ap (λ vs. option_map (behind made) (of_items (read_items vs))) steps ∙ item_made made v (read_items rest) (value_view x) here
    ∙ ap (λ vs. option_map (behind vs) (of_items (read_items rest))) (sym pushed)

pub items_done : (first rest : List (Value Global)) (made : List JsonValue) → length rest ≡ 0 → of_items (read_items first) ≡ option_map (behind made) (of_items (read_items rest))
    → of_items (read_items first) ≡ Some (items_view made)
items_done first [] made none reads = reads ∙ ap Some (behind-none made)
items_done first (x ∷ rest) made none reads = absurd (omega arith)

pub items_shallow : (taken rest : List (Value Global)) (x : Value Global) → taken ≡ x ∷ rest → (depth (value_view x) ≤ items_depth (read_items taken)) × (items_depth (read_items rest) ≤ items_depth (read_items taken))
items_shallow taken rest x steps = rw steps (omega arith, omega arith)

-- one member more
member_made : (name : List ℕ) (d : Data) (rest : json.Members) (j : json.Json) (found : Members) → of_json j ≡ Some d → of_members (json.member name j rest) found ≡ of_members rest (put name d found)
member_made name d rest j found is = rw is

pub member_refused : (name : List ℕ) (rest : json.Members) (j : json.Json) (found : Members) → of_json j ≡ None → of_members (json.member name j rest) found ≡ None
member_refused name rest j found is = rw is

pub members_kept : (first taken rest : List (Bor (List ℕ) × Value Global)) (name : Bor (List ℕ)) (x : Value Global) (made more : List Entry) (v : JsonValue) → taken ≡ (name, x) ∷ rest
    → of_members (read_members first) no_members ≡ of_members (read_members taken) (members_view made) → of_json (value_view x) ≡ Some (view v) → more ≡ insert_entry name_cmp made name v
    → of_members (read_members first) no_members ≡ of_members (read_members rest) (members_view more)
members_kept first taken rest name x made more v steps reads here put_in =
    reads ∙ ap (λ ms. of_members (read_members ms) (members_view made)) steps ∙ member_made name.now (view v) (read_members rest) (value_view x) (members_view made) here
    ∙ ap (of_members (read_members rest)) (sym (ap members_view put_in ∙ inserted made name v))

pub members_done : (first rest : List (Bor (List ℕ) × Value Global)) (made : List Entry) → length rest ≡ 0 → of_members (read_members first) no_members ≡ of_members (read_members rest) (members_view made)
    → of_members (read_members first) no_members ≡ Some (members_view made)
members_done first [] made none reads = reads
members_done first (x ∷ rest) made none reads = absurd (omega arith)

pub members_shallow : (taken rest : List (Bor (List ℕ) × Value Global)) (name : Bor (List ℕ)) (x : Value Global) → taken ≡ (name, x) ∷ rest
    → (depth (value_view x) ≤ members_depth (read_members taken)) × (members_depth (read_members rest) ≤ members_depth (read_members taken))
members_shallow taken rest name x steps = rw steps (omega arith, omega arith)
