-- What a text spells is what the reader finds.
use Rattle.std.proofs.Common.{◌≡◌, ◌≢◌, ℕ, zero, suc, ◌+◌, ◌<◌, Bool, true, false, List, [], ◌∷◌, ◌++◌, length, Option, Some, None, refl, sym, ap, subst, ◌∙◌, inl, inr, ◌⊎◌, ◌==◌, if◌then◌else◌, bytes_eq, codes, arith, append_assoc, append-nil, length-append}
use Rattle.std.specs.List.{list_all}
use Rattle.std.proofs.lemmas.Bool.{false_from_ne_true}
use Rattle.std.proofs.lemmas.Bool.Decides.{Decides-eqb}
use Rattle.std.proofs.lemmas.Slice.Eq.{bytes_eq-Decides}
use Rattle.base_types.specs.Texts.{◌>>=◌}
use Rattle.label_select.specs.Bytes.{is_in_class, front, behind, after}
use Rattle.label_select.specs.Grammar.{spaces, IsKey, IsValue, SpellsValue, SpellsItems, SpellsValues, SpellsList, SpellsTest, SpellsMissing, SpellsTested, SpellsBy, SpellsRequirement, SpellsJoined, Spells}
use Rattle.label_select.specs.Readings.{choose, is_empty, is_key, key_at, value_at, values_in, list_at, test_by, test_at, requirement_by, requirement_at, joined_by, selector_in, selector_of}
use Rattle.label_select.specs.declared.bytes.Class.{Class}
use Rattle.label_select.specs.declared.bytes.Class.TheVariants.{Space, Value, Key}
use Rattle.label_select.specs.declared.selector.Test.{Test}
use Rattle.label_select.specs.declared.selector.Test.TheVariants.{Exists, Missing, Is, IsNot, In, NotIn}
use Rattle.label_select.specs.declared.selector.Requirement.{Requirement}
use Rattle.label_select.proofs.Fronts.{Stops, front-stopped, behind-stopped, front-append, behind-append, behind-spaces, after-append, first_passes, filled_from}
use Rattle.label_select.proofs.Sound.{same_some}
use Rattle.label_select.proofs.Steps.{values_from}

-- a byte of a class isn't one outside it
differs_by : (class : Class) (b other : ℕ) → is_in_class class other ≡ false → is_in_class class b ≡ true → (v : Bool) → (b == other) ≡ v → v ≡ false
differs_by class b other out is true same = let no : is_in_class class b ≡ false = ap (is_in_class class) ((Decides-eqb b other).0 same) ∙ out in absurd (cc)
differs_by class b other out is false same = refl

byte_differs : (class : Class) (b other : ℕ) → is_in_class class other ≡ false → is_in_class class b ≡ true → (b == other) ≡ false
byte_differs class b other out is = differs_by class b other out is (b == other) refl

-- the text doesn't begin with this byte
abbrev NotFirst : ℕ → List ℕ → Type 0
NotFirst other [] = Unit {0}
NotFirst other (b ∷ text) = (b == other) ≡ false

word_first : (class : Class) (other : ℕ) (word rest : List ℕ) → is_in_class class other ≡ false → list_all (is_in_class class) word ≡ true → word ≢ [] → NotFirst other (word ++ rest)
word_first class other [] rest out all some = absurd (some refl)
word_first class other (b ∷ word) rest out all some = byte_differs class b other out (first_passes (is_in_class class) b word all)

not_space : (text : List ℕ) → NotFirst 32 text → Stops Space text
not_space [] first = tt
not_space (b ∷ text) first = first

spaces_stop : (class : Class) (b n : ℕ) (rest : List ℕ) → is_in_class class 32 ≡ false → is_in_class class b ≡ false → Stops class (spaces n ++ (b ∷ rest))
spaces_stop class b zero rest space out = out
spaces_stop class b (suc n) rest space out = space

-- what may stand behind a requirement
abbrev pub Ends : List ℕ → Type 0
Ends tail = (tail ≡ []) ⊎ ((m : ℕ) × (rest : List ℕ) × (tail ≡ spaces m ++ (44 ∷ rest)))

ends_stop : (class : Class) (tail : List ℕ) → is_in_class class 32 ≡ false → is_in_class class 44 ≡ false → Ends tail → Stops class tail
ends_stop class tail space comma ends = elim ends [
  | inl none ↦ subst (Stops class) (sym none) tt
  | inr some ↦ subst (Stops class) (sym some.2) (spaces_stop class 44 some.0 some.1 space comma)
]

-- the end of the text, or a comma
abbrev IsEnd : List ℕ → Type 0
IsEnd text = (text ≡ []) ⊎ ((rest : List ℕ) × (text ≡ 44 ∷ rest))

ends_by : (tail : List ℕ) → Ends tail → IsEnd (behind Space tail)
ends_by tail ends = elim ends [
  | inl none ↦ inl (ap (behind Space) none)
  | inr some ↦ inr (some.1, ap (behind Space) some.2 ∙ behind-spaces some.0 (44 ∷ some.1))
]

end_stops : (class : Class) (text : List ℕ) → is_in_class class 44 ≡ false → IsEnd text → Stops class text
end_stops class text comma end = elim end [
  | inl none ↦ subst (Stops class) (sym none) tt
  | inr some ↦ subst (Stops class) (sym some.1) comma
]

-- a value, and what is behind it
value_word : (n : ℕ) (value rest : List ℕ) → IsValue value → value ≢ [] → Stops Value rest → value_at (spaces n ++ (value ++ rest)) ≡ (value, rest)
value_word n value rest all some stops =
    let begun : behind Space (spaces n ++ (value ++ rest)) ≡ value ++ rest =
    behind-spaces n (value ++ rest) ∙ behind-stopped Space (value ++ rest) (not_space (value ++ rest) (word_first Value 32 value rest refl all some)) in
    ap (λ (l : List ℕ). (front Value l, behind Value l)) begun
    ∙ ap (λ (l : List ℕ). (l, behind Value (value ++ rest))) (front-append Value value rest all stops)
    ∙ ap (λ (l : List ℕ). (value, l)) (behind-append Value value rest all stops)

value_none : (n : ℕ) (rest : List ℕ) → Stops Value (behind Space rest) → value_at (spaces n ++ rest) ≡ ([], behind Space rest)
value_none n rest stops =
    ap (λ (l : List ℕ). (front Value l, behind Value l)) (behind-spaces n rest)
    ∙ ap (λ (l : List ℕ). (l, behind Value (behind Space rest))) (front-stopped Value (behind Space rest) stops)
    ∙ ap (λ (l : List ℕ). ([], l)) (behind-stopped Value (behind Space rest) stops)

-- what is left: all behind the requirement, or the spaces are gone
abbrev IsLeft : List ℕ → List ℕ → Type 0
IsLeft tail left = (left ≡ tail) ⊎ (left ≡ behind Space tail)

value_before : (n : ℕ) (value tail : List ℕ) → IsValue value → Ends tail → (left : List ℕ) × (value_at (spaces n ++ (value ++ tail)) ≡ (value, left)) × IsLeft tail left
value_before n [] tail all ends = (behind Space tail, value_none n tail (end_stops Value (behind Space tail) refl (ends_by tail ends)), inr refl)
value_before n (b ∷ value) tail all ends = (tail, value_word n (b ∷ value) tail all (λ e. absurd (cc)) (ends_stop Value tail refl refl ends), inl refl)

-- the values of a list
last_items : (n m k : ℕ) (value tail : List ℕ) → IsValue value → value ≢ [] → values_in (suc n) (spaces m ++ (value ++ (spaces k ++ (41 ∷ tail)))) ≡ Some (value ∷ [], tail)
last_items n m k value tail all some =
    let rest = spaces k ++ (41 ∷ tail) in
    values_from n (spaces m ++ (value ++ rest)) value rest (Some tail) (after (codes ",") (behind Space rest)) (value_word m value rest all some (spaces_stop Value 41 k tail refl refl)) (filled_from value some)
    (ap (after (codes ")")) (behind-spaces k (41 ∷ tail)) ∙ after-append (codes ")") tail) refl

other_items : (n m k : ℕ) (value next tail : List ℕ) (values : List (List ℕ)) → IsValue value → value ≢ [] → values_in n next ≡ Some (values, tail)
    → values_in (suc n) (spaces m ++ (value ++ (spaces k ++ (44 ∷ next)))) ≡ Some (value ∷ values, tail)
other_items n m k value next tail values all some others =
    let rest = spaces k ++ (44 ∷ next) in
    values_from n (spaces m ++ (value ++ rest)) value rest None (Some next) (value_word m value rest all some (spaces_stop Value 44 k next refl refl)) (filled_from value some)
    (ap (after (codes ")")) (behind-spaces k (44 ∷ next))) (ap (after (codes ",")) (behind-spaces k (44 ∷ next)) ∙ after-append (codes ",") next)
    ∙ ap (λ o. o >>= λ found. Some (value ∷ found.0, found.1)) others

shorter : (m k n : ℕ) (text value rest : List ℕ) → text ≡ spaces m ++ (value ++ (spaces k ++ (codes "," ++ rest))) → length text < suc n → length rest < n
shorter m k n text value rest e below =
    let whole = ap length e ∙ length-append (spaces m) (value ++ (spaces k ++ (codes "," ++ rest))) in
    let behind_spaces = length-append value (spaces k ++ (codes "," ++ rest)) in
    let behind_value = length-append (spaces k) (codes "," ++ rest) in
    let behind_comma = length-append (codes ",") rest in
    omega arith

pub values_complete : (n : ℕ) (value : List ℕ) (values : List (List ℕ)) (text tail : List ℕ) → length text < n → SpellsItems value values text → values_in n (text ++ tail) ≡ Some (value ∷ values, tail)
values_complete zero value values text tail below spelled = absurd (omega arith)
values_complete (suc n) value [] text tail below spelled =
    let whole : text ++ tail ≡ spaces spelled.0 ++ (value ++ (spaces spelled.1 ++ (41 ∷ tail))) = ap (λ l. l ++ tail) spelled.2 ∙ simp append_assoc in
    ap (values_in (suc n)) whole ∙ last_items n spelled.0 spelled.1 value tail spelled.3 spelled.4
values_complete (suc n) value (next ∷ values) text tail below spelled =
    let whole : text ++ tail ≡ spaces spelled.0 ++ (value ++ (spaces spelled.1 ++ (44 ∷ (spelled.2 ++ tail)))) = ap (λ l. l ++ tail) spelled.3 ∙ simp append_assoc in
    ap (values_in (suc n)) whole
    ∙ other_items n spelled.0 spelled.1 value (spelled.2 ++ tail) tail (next ∷ values) spelled.4 spelled.5
    (values_complete n next values spelled.2 tail (shorter spelled.0 spelled.1 n text value spelled.2 spelled.3 below) spelled.6)

list_by : (n : ℕ) (values : List (List ℕ)) (items tail : List ℕ) → SpellsValues values items → list_at (spaces n ++ (40 ∷ (items ++ tail))) ≡ Some (values, tail)
list_by n [] items tail spelled = absurd spelled
list_by n (value ∷ values) items tail spelled =
    ap (λ l. after (codes "(") l >>= λ inner. values_in (length inner + 1) inner) (behind-spaces n (40 ∷ (items ++ tail)))
    ∙ ap (λ o. o >>= λ inner. values_in (length inner + 1) inner) (after-append (codes "(") (items ++ tail))
    ∙ values_complete (length (items ++ tail) + 1) value values items tail (omega (arith, length-append items tail)) spelled

-- the steps of a choice
choose_none : {A : Type 0} (o : Option (List ℕ)) (made : List ℕ → A) (other : A) → o ≡ None → choose o made other ≡ other
choose_none o made other none = ap (λ o. choose o made other) none

no_equals : (text : List ℕ) → NotFirst 61 text → after (codes "==") (61 ∷ text) ≡ None
no_equals [] first = refl
no_equals (b ∷ text) first = rw first refl

comma_first : (m : ℕ) (rest : List ℕ) → NotFirst 61 (spaces m ++ (44 ∷ rest))
comma_first zero rest = refl
comma_first (suc m) rest = refl

begins_after_equal : (n : ℕ) (value tail : List ℕ) → IsValue value → Ends tail → NotFirst 61 (spaces n ++ (value ++ tail))
begins_after_equal (suc n) value tail all ends = refl
begins_after_equal zero (b ∷ value) tail all ends = byte_differs Value b 61 refl (first_passes (is_in_class Value) b value all)
begins_after_equal zero [] tail all ends = elim ends [
  | inl none ↦ subst (NotFirst 61) (sym none) tt
  | inr some ↦ subst (NotFirst 61) (sym some.2) (comma_first some.0 some.1)
]

pub record TestFound (test : Test) (text tail : List ℕ) : Type 0 where
  pub left : List ℕ
  pub found : test_at text ≡ Some (test, left)
  pub is_left : IsLeft tail left

is_by : (m n : ℕ) (value tail : List ℕ) → IsValue value → Ends tail → TestFound (Is value) (spaces m ++ (61 ∷ (spaces n ++ (value ++ tail)))) tail
is_by m n value tail all ends =
    let rest = spaces n ++ (value ++ tail) in
    let text = spaces m ++ (61 ∷ rest) in
    let parts = value_before n value tail all ends in record {
      left = parts.0;
      found =
          ap (λ o. test_by o text) (behind-spaces m (61 ∷ rest))
          ∙ choose_none (after (codes "==") (61 ∷ rest)) _ _ (no_equals rest (begins_after_equal n value tail all ends))
          ∙ ap (λ (p : List ℕ × List ℕ). Some (Is p.0, p.1)) parts.1;
      is_left = parts.2;
    }

is_by_two : (m n : ℕ) (value tail : List ℕ) → IsValue value → Ends tail → TestFound (Is value) (spaces m ++ (61 ∷ (61 ∷ (spaces n ++ (value ++ tail))))) tail
is_by_two m n value tail all ends =
    let rest = spaces n ++ (value ++ tail) in
    let text = spaces m ++ (61 ∷ (61 ∷ rest)) in
    let parts = value_before n value tail all ends in record {
      left = parts.0;
      found = ap (λ o. test_by o text) (behind-spaces m (61 ∷ (61 ∷ rest))) ∙ ap (λ (p : List ℕ × List ℕ). Some (Is p.0, p.1)) parts.1;
      is_left = parts.2;
    }

is_not_by : (m n : ℕ) (value tail : List ℕ) → IsValue value → Ends tail → TestFound (IsNot value) (spaces m ++ (33 ∷ (61 ∷ (spaces n ++ (value ++ tail))))) tail
is_not_by m n value tail all ends =
    let rest = spaces n ++ (value ++ tail) in
    let text = spaces m ++ (33 ∷ (61 ∷ rest)) in
    let parts = value_before n value tail all ends in record {
      left = parts.0;
      found = ap (λ o. test_by o text) (behind-spaces m (33 ∷ (61 ∷ rest))) ∙ ap (λ (p : List ℕ × List ℕ). Some (IsNot p.0, p.1)) parts.1;
      is_left = parts.2;
    }

in_by : (m n : ℕ) (values : List (List ℕ)) (items tail : List ℕ) → SpellsValues values items → TestFound (In values) (spaces m ++ (105 ∷ (110 ∷ (spaces n ++ (40 ∷ (items ++ tail)))))) tail
in_by m n values items tail spelled =
    let rest = spaces n ++ (40 ∷ (items ++ tail)) in
    let text = spaces m ++ (105 ∷ (110 ∷ rest)) in record {
      left = tail;
      found = ap (λ o. test_by o text) (behind-spaces m (105 ∷ (110 ∷ rest))) ∙ ap (λ o. o >>= λ list. Some (In list.0, list.1)) (list_by n values items tail spelled);
      is_left = inl refl;
    }

not_in_by : (m n : ℕ) (values : List (List ℕ)) (items tail : List ℕ) → SpellsValues values items
    → TestFound (NotIn values) (spaces m ++ (110 ∷ (111 ∷ (116 ∷ (105 ∷ (110 ∷ (spaces n ++ (40 ∷ (items ++ tail))))))))) tail
not_in_by m n values items tail spelled =
    let rest = spaces n ++ (40 ∷ (items ++ tail)) in
    let text = spaces m ++ (110 ∷ (111 ∷ (116 ∷ (105 ∷ (110 ∷ rest))))) in record {
      left = tail;
      found = ap (λ o. test_by o text) (behind-spaces m (110 ∷ (111 ∷ (116 ∷ (105 ∷ (110 ∷ rest)))))) ∙ ap (λ o. o >>= λ list. Some (NotIn list.0, list.1)) (list_by n values items tail spelled);
      is_left = inl refl;
    }

exists_by : (tail operator : List ℕ) → behind Space tail ≡ operator → IsEnd operator → test_at tail ≡ Some (Exists, tail)
exists_by tail operator is end = ap (λ o. test_by o tail) is ∙ elim end [
  | inl none ↦ ap (λ o. test_by o tail) none
  | inr some ↦ ap (λ o. test_by o tail) some.1
]

test_complete : (test : Test) (text tail : List ℕ) → SpellsTest test text → Ends tail → TestFound test (text ++ tail) tail
test_complete Exists text tail spelled ends =
    subst (λ l. TestFound Exists (l ++ tail) tail) (sym spelled) (record { left = tail; found = exists_by tail (behind Space tail) refl (ends_by tail ends); is_left = inl refl })
test_complete Missing text tail spelled ends = absurd spelled
test_complete (Is value) text tail spelled ends = elim spelled [
  | inl one ↦
      let whole : text ++ tail ≡ spaces one.0 ++ (61 ∷ (spaces one.1 ++ (value ++ tail))) = ap (λ l. l ++ tail) one.2 ∙ simp append_assoc in
      subst (λ l. TestFound (Is value) l tail) (sym whole) (is_by one.0 one.1 value tail one.3 ends)
  | inr two ↦
      let whole : text ++ tail ≡ spaces two.0 ++ (61 ∷ (61 ∷ (spaces two.1 ++ (value ++ tail)))) = ap (λ l. l ++ tail) two.2 ∙ simp append_assoc in
      subst (λ l. TestFound (Is value) l tail) (sym whole) (is_by_two two.0 two.1 value tail two.3 ends)
]
test_complete (IsNot value) text tail spelled ends =
    let whole : text ++ tail ≡ spaces spelled.0 ++ (33 ∷ (61 ∷ (spaces spelled.1 ++ (value ++ tail)))) = ap (λ l. l ++ tail) spelled.2 ∙ simp append_assoc in
    subst (λ l. TestFound (IsNot value) l tail) (sym whole) (is_not_by spelled.0 spelled.1 value tail spelled.3 ends)
test_complete (In values) text tail spelled ends =
    let whole : text ++ tail ≡ spaces (suc spelled.0) ++ (105 ∷ (110 ∷ (spaces spelled.1 ++ (40 ∷ (spelled.2 ++ tail))))) = ap (λ l. l ++ tail) spelled.3 ∙ simp append_assoc in
    subst (λ l. TestFound (In values) l tail) (sym whole) (in_by (suc spelled.0) spelled.1 values spelled.2 tail spelled.4)
test_complete (NotIn values) text tail spelled ends =
    let whole : text ++ tail ≡ spaces (suc spelled.0) ++ (110 ∷ (111 ∷ (116 ∷ (105 ∷ (110 ∷ (spaces spelled.1 ++ (40 ∷ (spelled.2 ++ tail)))))))) = ap (λ l. l ++ tail) spelled.3 ∙ simp append_assoc in
    subst (λ l. TestFound (NotIn values) l tail) (sym whole) (not_in_by (suc spelled.0) spelled.1 values spelled.2 tail spelled.4)

-- no test begins with a byte of keys
value_stops : (operator : List ℕ) (b : ℕ) (value text tail : List ℕ) → is_in_class Key b ≡ false → SpellsValue (b ∷ operator) value text → Stops Key (text ++ tail)
value_stops operator b value text tail out spelled =
    let whole : text ++ tail ≡ spaces spelled.0 ++ (b ∷ (operator ++ (spaces spelled.1 ++ (value ++ tail)))) = ap (λ l. l ++ tail) spelled.2 ∙ simp append_assoc in
    subst (Stops Key) (sym whole) (spaces_stop Key b spelled.0 (operator ++ (spaces spelled.1 ++ (value ++ tail))) refl out)

list_stops : (operator : List ℕ) (values : List (List ℕ)) (text tail : List ℕ) → SpellsList operator values text → Stops Key (text ++ tail)
list_stops operator values text tail spelled = subst (λ l. Stops Key (l ++ tail)) (sym spelled.3) refl

test_stops : (test : Test) (text tail : List ℕ) → SpellsTest test text → Ends tail → Stops Key (text ++ tail)
test_stops Exists text tail spelled ends = subst (λ l. Stops Key (l ++ tail)) (sym spelled) (ends_stop Key tail refl refl ends)
test_stops Missing text tail spelled ends = absurd spelled
test_stops (Is value) text tail spelled ends = elim spelled [
  | inl one ↦ value_stops [] 61 value text tail refl one
  | inr two ↦ value_stops (61 ∷ []) 61 value text tail refl two
]
test_stops (IsNot value) text tail spelled ends = value_stops (61 ∷ []) 33 value text tail refl spelled
test_stops (In values) text tail spelled ends = list_stops (codes "in") values text tail spelled
test_stops (NotIn values) text tail spelled ends = list_stops (codes "notin") values text tail spelled

-- keys
is_key_from : (key : List ℕ) → IsKey key → is_key key ≡ true
is_key_from key is =
    let filled : is_empty key ≡ false = filled_from key is.some in
    let one : bytes_eq key (codes "in") ≡ false = false_from_ne_true _ (λ e. absurd (is.not_in ((bytes_eq-Decides key (codes "in")).0 e))) in
    let two : bytes_eq key (codes "notin") ≡ false = false_from_ne_true _ (λ e. absurd (is.not_notin ((bytes_eq-Decides key (codes "notin")).0 e))) in
    rw (filled, one, two) refl

abbrev taken : Bool → List ℕ → List ℕ → Option (List ℕ × List ℕ)
taken v key rest = if v then Some (key, rest) else None

key_complete : (key rest : List ℕ) → IsKey key → Stops Key rest → key_at (key ++ rest) ≡ Some (key, rest)
key_complete key rest is stops =
    ap (λ k. taken (is_key k) k (behind Key (key ++ rest))) (front-append Key key rest is.bytes stops)
    ∙ ap (λ l. taken (is_key key) key l) (behind-append Key key rest is.bytes stops)
    ∙ ap (λ v. taken v key rest) (is_key_from key is)

no_mark : (text : List ℕ) → NotFirst 33 text → after (codes "!") text ≡ None
no_mark [] first = refl
no_mark (b ∷ text) first = rw first refl

pub record RequirementFound (requirement : Requirement) (text tail : List ℕ) : Type 0 where
  pub left : List ℕ
  pub found : requirement_at text ≡ Some (requirement, left)
  pub is_left : IsLeft tail left

missing_complete : (key text tail : List ℕ) → IsKey key → SpellsMissing key text → Ends tail → RequirementFound (record { key = key; test = Missing }) (text ++ tail) tail
missing_complete key text tail is spelled ends =
    let whole : text ++ tail ≡ 33 ∷ (spaces spelled.0 ++ (key ++ tail)) = ap (λ l. l ++ tail) spelled.1 ∙ simp append_assoc in
    let begun : behind Space (spaces spelled.0 ++ (key ++ tail)) ≡ key ++ tail =
    behind-spaces spelled.0 (key ++ tail) ∙ behind-stopped Space (key ++ tail) (not_space (key ++ tail) (word_first Key 32 key tail refl is.bytes is.some)) in record {
      left = tail;
      found =
          ap requirement_at whole
          ∙ ap (λ o. choose o (λ rest. key_at (behind Space rest) >>= λ key. Some (requirement_by key.0 (Missing, key.1))) (key_at (33 ∷ (spaces spelled.0 ++ (key ++ tail))) >>= λ key. test_at key.1 >>= λ test. Some (requirement_by key.0 test))) (after-append (codes "!") (spaces spelled.0 ++ (key ++ tail)))
          ∙ ap (λ l. key_at l >>= λ key. Some (requirement_by key.0 (Missing, key.1))) begun
          ∙ ap (λ o. o >>= λ key. Some (requirement_by key.0 (Missing, key.1))) (key_complete key tail is (ends_stop Key tail refl refl ends));
      is_left = inl refl;
    }

tested_complete : (key : List ℕ) (test : Test) (text tail : List ℕ) → IsKey key → SpellsTested key test text → Ends tail → RequirementFound (record { key = key; test = test }) (text ++ tail) tail
tested_complete key test text tail is spelled ends =
    let rest = spelled.0 ++ tail in
    let whole : text ++ tail ≡ key ++ rest = ap (λ l. l ++ tail) spelled.1 ∙ append_assoc key spelled.0 tail in
    let parts = test_complete test spelled.0 tail spelled.2 ends in record {
      left = parts.left;
      found =
          ap requirement_at whole
          ∙ choose_none (after (codes "!") (key ++ rest)) _ _ (no_mark (key ++ rest) (word_first Key 33 key rest refl is.bytes is.some))
          ∙ ap (λ o. o >>= λ key. test_at key.1 >>= λ test. Some (requirement_by key.0 test)) (key_complete key rest is (test_stops test spelled.0 tail spelled.2 ends))
          ∙ ap (λ o. o >>= λ test. Some (requirement_by key test)) parts.found;
      is_left = parts.is_left;
    }

by_complete : (key : List ℕ) (test : Test) (text tail : List ℕ) → IsKey key → SpellsBy key test text → Ends tail → RequirementFound (record { key = key; test = test }) (text ++ tail) tail
by_complete key Missing text tail is spelled ends = missing_complete key text tail is spelled ends
by_complete key Exists text tail is spelled ends = tested_complete key Exists text tail is spelled ends
by_complete key (Is value) text tail is spelled ends = tested_complete key (Is value) text tail is spelled ends
by_complete key (IsNot value) text tail is spelled ends = tested_complete key (IsNot value) text tail is spelled ends
by_complete key (In values) text tail is spelled ends = tested_complete key (In values) text tail is spelled ends
by_complete key (NotIn values) text tail is spelled ends = tested_complete key (NotIn values) text tail is spelled ends

requirement_complete : (requirement : Requirement) (text tail : List ℕ) → SpellsRequirement requirement text → Ends tail → RequirementFound requirement (text ++ tail) tail
requirement_complete requirement text tail spelled ends = by_complete requirement.key requirement.test text tail spelled.0 spelled.1 ends

-- a requirement begins with its key, or with `!`
tested_first : (key front_rest text rest : List ℕ) → IsKey key → text ≡ key ++ front_rest → Stops Space (text ++ rest)
tested_first key front_rest text rest is e =
    subst (Stops Space) (sym (ap (λ l. l ++ rest) e ∙ append_assoc key front_rest rest)) (not_space (key ++ (front_rest ++ rest)) (word_first Key 32 key (front_rest ++ rest) refl is.bytes is.some))

by_first : (key : List ℕ) (test : Test) (text rest : List ℕ) → IsKey key → SpellsBy key test text → Stops Space (text ++ rest)
by_first key Missing text rest is spelled = subst (λ l. Stops Space (l ++ rest)) (sym spelled.1) refl
by_first key Exists text rest is spelled = tested_first key spelled.0 text rest is spelled.1
by_first key (Is value) text rest is spelled = tested_first key spelled.0 text rest is spelled.1
by_first key (IsNot value) text rest is spelled = tested_first key spelled.0 text rest is spelled.1
by_first key (In values) text rest is spelled = tested_first key spelled.0 text rest is spelled.1
by_first key (NotIn values) text rest is spelled = tested_first key spelled.0 text rest is spelled.1

joined_first : (requirement : Requirement) (others : List Requirement) (text : List ℕ) → SpellsJoined requirement others text → Stops Space text
joined_first requirement [] text spelled = subst (Stops Space) (append-nil text) (by_first requirement.key requirement.test text [] spelled.0 spelled.1)
joined_first requirement (next ∷ others) text spelled =
    subst (Stops Space) (sym spelled.4) (by_first requirement.key requirement.test spelled.2 (spaces spelled.0 ++ (codes "," ++ (spaces spelled.1 ++ spelled.3))) spelled.5.0 spelled.5.1)

-- the requirements joined by commas
left_empty : (left : List ℕ) → IsLeft [] left → left ≡ []
left_empty left is = elim is [ inl same ↦ same | inr gone ↦ gone ]

last_requirement : (n : ℕ) (requirement : Requirement) (text : List ℕ) → RequirementFound requirement text [] → selector_in (suc n) text ≡ Some (requirement ∷ [])
last_requirement n requirement text parts =
    ap (λ o. o >>= λ found. joined_by found (after (codes ",") (behind Space found.1) >>= λ next. selector_in n (behind Space next))) parts.found
    ∙ ap (λ (l : List ℕ). joined_by (requirement, l) (after (codes ",") (behind Space l) >>= λ next. selector_in n (behind Space next))) (left_empty parts.left parts.is_left)

no_spaces : (m : ℕ) (rest : List ℕ) → spaces m ++ (44 ∷ rest) ≡ [] → ⊥
no_spaces zero rest e = absurd (cc)
no_spaces (suc m) rest e = absurd (cc)

joined_filled : (requirement : Requirement) (left : List ℕ) (others : List Requirement) → is_empty left ≡ false → joined_by (requirement, left) (Some others) ≡ Some (requirement ∷ others)
joined_filled requirement left others filled = rw filled refl

left_comma : (m : ℕ) (rest left : List ℕ) → IsLeft (spaces m ++ (44 ∷ rest)) left → (behind Space left ≡ 44 ∷ rest) × (left ≢ [])
left_comma m rest left is = elim is [
  | inl same ↦ (ap (behind Space) same ∙ behind-spaces m (44 ∷ rest), λ e. no_spaces m rest (sym same ∙ e))
  | inr gone ↦ (let at = gone ∙ behind-spaces m (44 ∷ rest) in (ap (behind Space) at, λ e. let none : 44 ∷ rest ≡ [] = sym at ∙ e in absurd (cc)))
]

other_requirements : (n m k : ℕ) (requirement : Requirement) (others : List Requirement) (text rest : List ℕ) → RequirementFound requirement text (spaces m ++ (44 ∷ (spaces k ++ rest))) → Stops Space rest
    → selector_in n rest ≡ Some others → selector_in (suc n) text ≡ Some (requirement ∷ others)
other_requirements n m k requirement others text rest parts stops more =
    let at = left_comma m (spaces k ++ rest) parts.left parts.is_left in
    let comma : after (codes ",") (behind Space parts.left) ≡ Some (spaces k ++ rest) = ap (after (codes ",")) at.0 ∙ after-append (codes ",") (spaces k ++ rest) in
    let next : behind Space (spaces k ++ rest) ≡ rest = behind-spaces k rest ∙ behind-stopped Space rest stops in
    ap (λ o. o >>= λ found. joined_by found (after (codes ",") (behind Space found.1) >>= λ next. selector_in n (behind Space next))) parts.found
    ∙ ap (λ c. joined_by (requirement, parts.left) (c >>= λ next. selector_in n (behind Space next))) comma
    ∙ ap (λ l. joined_by (requirement, parts.left) (selector_in n l)) next
    ∙ ap (λ o. joined_by (requirement, parts.left) o) more
    ∙ joined_filled requirement parts.left others (filled_from parts.left at.1)

joined_shorter : (m k n : ℕ) (text first rest : List ℕ) → text ≡ first ++ (spaces m ++ (codes "," ++ (spaces k ++ rest))) → length text < suc n → length rest < n
joined_shorter m k n text first rest e below =
    let whole = ap length e ∙ length-append first (spaces m ++ (codes "," ++ (spaces k ++ rest))) in
    let behind_first = length-append (spaces m) (codes "," ++ (spaces k ++ rest)) in
    let behind_comma = length-append (codes ",") (spaces k ++ rest) in
    let behind_spaces = length-append (spaces k) rest in
    omega arith

joined_complete : (n : ℕ) (requirement : Requirement) (others : List Requirement) (text : List ℕ) → length text < n → SpellsJoined requirement others text → selector_in n text ≡ Some (requirement ∷ others)
joined_complete zero requirement others text below spelled = absurd (omega arith)
joined_complete (suc n) requirement [] text below spelled =
    last_requirement n requirement text (subst (λ l. RequirementFound requirement l []) (append-nil text) (requirement_complete requirement text [] spelled (inl refl)))
joined_complete (suc n) requirement (next ∷ others) text below spelled =
    let tail = spaces spelled.0 ++ (44 ∷ (spaces spelled.1 ++ spelled.3)) in
    other_requirements n spelled.0 spelled.1 requirement (next ∷ others) text spelled.3
    (subst (λ l. RequirementFound requirement l tail) (sym spelled.4) (requirement_complete requirement spelled.2 tail spelled.5 (inr (spelled.0, spaces spelled.1 ++ spelled.3, refl))))
    (joined_first next others spelled.3 spelled.6)
    (joined_complete n next others spelled.3 (joined_shorter spelled.0 spelled.1 n text spelled.2 spelled.3 spelled.4 below) spelled.6)

pub selector_complete : (selector : List Requirement) (text : List ℕ) → Spells selector text → selector_of text ≡ Some selector
selector_complete [] text spelled = absurd spelled
selector_complete (requirement ∷ others) text spelled = joined_complete (length text + 1) requirement others text (omega arith) spelled

-- a text spells one selector at most
pub spelled_once : (a b : List Requirement) (text : List ℕ) → Spells a text → Spells b text → a ≡ b
spelled_once a b text first second = same_some a b (sym (selector_complete a text first) ∙ selector_complete b text second)
