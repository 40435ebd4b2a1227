-- A tree that is read of a text has its numbers in the range of those that a JSON value can hold.
use Rattle.std.proofs.Common.{ℕ, zero, suc, ◌<◌, ◌≤◌, ◌^◌, pos, neg_ℤ, Bool, true, false, ◌&&◌, List, [], ◌∷◌, drop, Option, Some, None, IfSome, option_map, option_and_then, nat_cmp, Ordering, Less, Equal, Greater, inl, inr, subst, arith}
use Rattle.std.specs.Prelude.{⊤, slice_index, nat_lt, nat_le, ◌==◌}
use Rattle.std.specs.Cmp.Lexicographic.{slice_cmp}
use Rattle.std.specs.Float.{binary64, float_is_finite}
use Rattle.std.specs.Float.Numeral.{minus, Parts, scan_numeral as scan, numeral_digits as digits_of, nearest_float as nearest}
use Rattle.std.specs.List.{All}
use Rattle.std.specs.Ordering.{match_ordering}
use Rattle.std.proofs.lemmas.Bool.{and_parts, cond_both, ltb-true, leb-true}
use Rattle.std.proofs.lemmas.Int.{ints}
use Rattle.std.proofs.lemmas.List.Elements.{All-nil, All-cons}
use Rattle.json.specs.Json as json
use Rattle.json.specs.Lex.{tokens}
use Rattle.serde_json.specs.Data.{Num, unsigned, negative, float, Data, null as json_null, boolean, number, string, array, object, Items, no_items, item, Members, no_members, member, put}
use Rattle.serde_json.specs.Read.{float_of, is_integer, max_depth, number_from, number_of, of_items, of_json, of_members, read}
use Rattle.base_types.specs.Meaning.{Meaning, items, members, kid, field}
use Rattle.base_types.specs.Values as tree
use Rattle.base_types.specs.Values.{IsInteger, InRange, KidsInRange, FieldsInRange}
use Rattle.setup_file.specs.Reading.{IsTreeOf}
use Rattle.cluster_setup.specs.Refusing.{AreTrees}

-- ---- the numbers of a JSON value

abbrev NumFits : Num → Type 0
NumFits (unsigned n) = IsInteger (pos n)
NumFits (negative z) = IsInteger z
NumFits (float x) = ⊤

abbrev mutual
  DataFits : Data → Type 0
  DataFits json_null = ⊤
  DataFits (boolean b) = ⊤
  DataFits (number n) = NumFits n
  DataFits (string s) = ⊤
  DataFits (array ds) = ItemsFit ds
  DataFits (object ms) = MembersFit ms

  ItemsFit : Items → Type 0
  ItemsFit no_items = ⊤
  ItemsFit (item d ds) = DataFits d × ItemsFit ds

  MembersFit : Members → Type 0
  MembersFit no_members = ⊤
  MembersFit (member k d ms) = DataFits d × MembersFit ms

-- ---- what is made of what is there

mapped : {A B : Type 0} (P : A → Type 0) (Q : B → Type 0) (f : A → B) (o : Option A) → ((a : A) → P a → Q (f a)) → IfSome o P → IfSome (option_map f o) Q
mapped P Q f None each all = tt
mapped P Q f (Some a) each all = each a all

chained : {A B : Type 0} (P : A → Type 0) (Q : B → Type 0) (f : A → Option B) (o : Option A) → ((a : A) → P a → IfSome (f a) Q) → IfSome o P → IfSome (option_and_then f o) Q
chained P Q f None each all = tt
chained P Q f (Some a) each all = each a all

whatever : {A : Type 0} (o : Option A) → IfSome o (λ a. ⊤)
whatever None = tt
whatever (Some a) = tt

-- ---- a number that is read

unsigned_fits : (n : ℕ) → n < 2 ^ 64 → IsInteger (pos n)
unsigned_fits n below = inl (omega (arith, ints), omega (arith, ints))

negative_fits : (n : ℕ) → n ≤ 2 ^ 63 → IsInteger (neg_ℤ (pos n))
negative_fits zero upto = inr (record { sfits = omega arith })
negative_fits (suc n) upto = inr (record { sfits = omega arith })

float_fits : (sign : Bool) (p : Parts) → IfSome (float_of sign p) NumFits
float_fits sign p =
    cond_both (float_is_finite (nearest binary64 sign p)) (Some (float (nearest binary64 sign p))) None (λ o. IfSome o NumFits) (λ finite. tt) (λ infinite. tt)

from_fits : (sign : Bool) (p : Parts) → IfSome (number_from sign p) NumFits
from_fits false p =
    cond_both (is_integer p && nat_lt (digits_of p) (2 ^ 64)) (Some (unsigned (digits_of p))) (float_of false p) (λ o. IfSome o NumFits)
    (λ is. unsigned_fits (digits_of p) (ltb-true (digits_of p) (2 ^ 64) (and_parts (is_integer p) (nat_lt (digits_of p) (2 ^ 64)) is).1)) (λ not. float_fits false p)
from_fits true p =
    cond_both (is_integer p && nat_lt 0 (digits_of p) && nat_le (digits_of p) (2 ^ 63)) (Some (negative (neg_ℤ (pos (digits_of p))))) (float_of true p) (λ o. IfSome o NumFits)
    (λ is. negative_fits (digits_of p) (leb-true (digits_of p) (2 ^ 63) (and_parts _ _ is).1)) (λ not. float_fits true p)

number_fits : (s : List ℕ) → IfSome (number_of s) NumFits
unfolding number_of
number_fits s =
    cond_both (slice_index s 0 == minus) (number_from true (scan (drop 1 s))) (number_from false (scan s)) (λ o. IfSome o NumFits)
    (λ below. from_fits true (scan (drop 1 s))) (λ above. from_fits false (scan s))

-- ---- a value that is read

chosen : (o : Ordering) (a b c : Members) → MembersFit a → MembersFit b → MembersFit c → MembersFit (match_ordering o a b c)
chosen Less a b c p q r = p
chosen Equal a b c p q r = q
chosen Greater a b c p q r = r

put_fits : (k : List ℕ) (d : Data) (ms : Members) → DataFits d → MembersFit ms → MembersFit (put k d ms)
put_fits k d no_members here others = (here, tt)
put_fits k d (member l e ms) here others =
    chosen (slice_cmp nat_cmp k l) (member k d (member l e ms)) (member l d ms) (member l e (put k d ms))
    (here, others) (here, others.1) (others.0, put_fits k d ms here others.1)

mutual
  value_fits : (j : json.Json) → IfSome (of_json j) DataFits
  value_fits json.null = tt
  value_fits (json.boolean b) = tt
  value_fits (json.number s) = mapped NumFits DataFits number (number_of s) (λ n fits. fits) (number_fits s)
  value_fits (json.string s) = tt
  value_fits (json.array js) = mapped ItemsFit DataFits array (of_items js) (λ ds fits. fits) (items_fit js)
  value_fits (json.object ms) = mapped MembersFit DataFits object (of_members ms no_members) (λ found fits. fits) (members_fit ms no_members tt)

  items_fit : (js : json.Items) → IfSome (of_items js) ItemsFit
  items_fit json.no_items = tt
  items_fit (json.item j js) =
      let rest = items_fit js in
      chained DataFits ItemsFit (λ d. option_map (item d) (of_items js)) (of_json j) (λ d here. mapped ItemsFit ItemsFit (item d) (of_items js) (λ ds fit. (here, fit)) rest) (value_fits j)

  members_fit : (ms : json.Members) (found : Members) → MembersFit found → IfSome (of_members ms found) MembersFit
  members_fit json.no_members found fit = fit
  members_fit (json.member k j ms) found fit =
      chained DataFits MembersFit (λ d. of_members ms (put k d found)) (of_json j) (λ d here. members_fit ms (put k d found) (put_fits k d found here fit)) (value_fits j)

read_fits : (bytes : List ℕ) → IfSome (read bytes) DataFits
read_fits bytes =
    let parsed : Option json.Json = option_and_then (λ p. json.if_last p.0 p.1) (json.value max_depth (tokens bytes)) in
    chained (λ j. ⊤) DataFits of_json parsed (λ j any. value_fits j) (whatever parsed)

-- ---- the tree of a value

num_in_range : (n : Num) → NumFits n → IfSome (tree.of_number n) InRange
num_in_range (unsigned n) fits = fits
num_in_range (negative z) fits = fits
num_in_range (float x) fits = tt

mutual
  data_in_range : (d : Data) → DataFits d → IfSome (tree.of_data d) InRange
  data_in_range json_null fits = tt
  data_in_range (boolean b) fits = tt
  data_in_range (number n) fits = num_in_range n fits
  data_in_range (string s) fits = tt
  data_in_range (array ds) fits = mapped KidsInRange InRange items (tree.of_items ds) (λ ts range. range) (kids_in_range ds fits)
  data_in_range (object ms) fits = mapped FieldsInRange InRange members (tree.of_members ms) (λ ts range. range) (fields_in_range ms fits)

  kids_in_range : (ds : Items) → ItemsFit ds → IfSome (tree.of_items ds) KidsInRange
  kids_in_range no_items fits = tt
  kids_in_range (item d ds) fits =
      let rest = kids_in_range ds fits.1 in
      chained InRange KidsInRange (λ t. option_map (kid t) (tree.of_items ds)) (tree.of_data d) (λ t here. mapped KidsInRange KidsInRange (kid t) (tree.of_items ds) (λ ts range. (here, range)) rest) (data_in_range d fits.0)

  fields_in_range : (ms : Members) → MembersFit ms → IfSome (tree.of_members ms) FieldsInRange
  fields_in_range no_members fits = tt
  fields_in_range (member k d ms) fits =
      let rest = fields_in_range ms fits.1 in
      chained InRange FieldsInRange (λ t. option_map (field k t) (tree.of_members ms)) (tree.of_data d) (λ t here. mapped FieldsInRange FieldsInRange (field k t) (tree.of_members ms) (λ ts range. (here, range)) rest) (data_in_range d fits.0)

pub tree_in_range : (bytes : List ℕ) (t : Meaning) → IsTreeOf bytes t → InRange t
tree_in_range bytes t is =
    let value = is.1.0 in
    let fits : DataFits value = subst (λ o. IfSome o DataFits) is.1.1 (read_fits bytes) in
    subst (λ o. IfSome o InRange) is.1.2 (data_in_range value fits)

pub trees_in_range : (files : List (List ℕ)) (trees : List Meaning) → AreTrees files trees → All InRange trees
trees_in_range [] [] read = All-nil InRange
trees_in_range [] (t ∷ ts) read = absurd read
trees_in_range (f ∷ fs) [] read = absurd read
trees_in_range (f ∷ fs) (t ∷ ts) read = All-cons InRange t ts (tree_in_range f t read.0) (trees_in_range fs ts read.1)
