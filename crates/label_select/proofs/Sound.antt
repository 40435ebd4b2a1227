-- What the reader finds is what the text spells.
use Rattle.std.proofs.Common.{◌≡◌, ◌≢◌, ℕ, zero, suc, ◌+◌, Bool, true, false, List, [], ◌∷◌, ◌++◌, length, Option, Some, None, refl, sym, ap, subst, ◌∙◌, inl, inr, if◌then◌else◌, codes, arith, append_assoc, append-nil}
use Rattle.std.specs.List.{list_all}
use Rattle.std.proofs.lemmas.Bool.Decides.{Decides-eqb}
use Rattle.base_types.specs.Texts.{◌>>=◌}
use Rattle.label_select.specs.Bytes.{is_in_class, front, behind, after}
use Rattle.label_select.specs.Grammar.{spaces, IsKey, IsValue, SpellsValue, SpellsItems, SpellsValues, SpellsList, SpellsTest, SpellsBy, SpellsRequirement, Spells}
use Rattle.label_select.specs.Readings.{choose, is_empty, is_key, key_at, value_at, values_in, list_at, test_at, requirement_by, requirement_at, joined_by, selector_in}
use Rattle.label_select.specs.declared.bytes.Class.TheVariants.{Space, Value, Key}
use Rattle.label_select.specs.declared.selector.Test.{Test}
use Rattle.label_select.specs.declared.selector.Test.TheVariants.{Exists, Missing, Is, IsNot, In, NotIn}
use Rattle.label_select.specs.declared.selector.Requirement.{Requirement}
use Rattle.label_select.proofs.Fronts.{Stops, cut, front-all, behind-stops, spaces-cut, after-is}

-- how a step found something
pub bind_some : {A B : Type 0} (o : Option A) (f : A → Option B) (y : B) → (o >>= f) ≡ Some y → (x : A) × (o ≡ Some x) × (f x ≡ Some y)
bind_some None f y e = absurd (cc)
bind_some (Some x) f y e = (x, refl, e)

pub choose_cases : {A : Type 0} (P : Type 0) (o : Option (List ℕ)) (made : List ℕ → A) (other target : A) → choose o made other ≡ target
    → ((rest : List ℕ) → o ≡ Some rest → made rest ≡ target → P) → (o ≡ None → other ≡ target → P) → P
choose_cases P None made other target e found none = none refl e
choose_cases P (Some rest) made other target e found none = found rest refl e

pub same_some : {A : Type 0} (x y : A) → Some x ≡ Some y → x ≡ y
same_some x y e = cc

pub not_empty : (xs : List ℕ) → is_empty xs ≡ false → xs ≢ []
not_empty xs filled e = let empty : is_empty xs ≡ true = ap is_empty e in absurd (cc)

pub value_sound : (text : List ℕ) → (n : ℕ) × (text ≡ spaces n ++ ((value_at text).0 ++ (value_at text).1)) × IsValue (value_at text).0
value_sound text =
    let begun = spaces-cut text in
    (begun.0, begun.1 ∙ ap (λ l. spaces begun.0 ++ l) (cut Value (behind Space text)), front-all Value (behind Space text))

-- behind a value: spaces, and what stands there
pub value_then : (text token rest : List ℕ) → after token (behind Space (value_at text).1) ≡ Some rest
    → (m : ℕ) × (n : ℕ) × (text ≡ spaces m ++ ((value_at text).0 ++ (spaces n ++ (token ++ rest)))) × IsValue (value_at text).0
value_then text token rest e =
    let begun = value_sound text in
    let gap = spaces-cut (value_at text).1 in
    let more : (value_at text).1 ≡ spaces gap.0 ++ (token ++ rest) = gap.1 ∙ ap (λ l. spaces gap.0 ++ l) (after-is token (behind Space (value_at text).1) rest e) in
    (begun.0, gap.0, begun.1 ∙ ap (λ l. spaces begun.0 ++ ((value_at text).0 ++ l)) more, begun.2)

pub record ValuesSound (text : List ℕ) (found : List (List ℕ) × List ℕ) : Type 0 where
  pub value : List ℕ
  pub values : List (List ℕ)
  pub items : List ℕ
  pub are : found.0 ≡ value ∷ values
  pub cut : text ≡ items ++ found.1
  pub spelled : SpellsItems value values items

last_value : (text left : List ℕ) → is_empty (value_at text).0 ≡ false → after (codes ")") (behind Space (value_at text).1) ≡ Some left → ValuesSound text ((value_at text).0 ∷ [], left)
last_value text left filled e =
    let parts = value_then text (codes ")") left e in
    let v = (value_at text).0 in record {
      value = v;
      values = [];
      items = spaces parts.0 ++ (v ++ (spaces parts.1 ++ codes ")"));
      are = refl;
      cut = parts.2 ∙ sym (simp append_assoc);
      spelled = (parts.0, parts.1, refl, parts.3, not_empty v filled);
    }

more_values : (text next : List ℕ) (others : List (List ℕ) × List ℕ) → is_empty (value_at text).0 ≡ false → after (codes ",") (behind Space (value_at text).1) ≡ Some next → ValuesSound next others
    → ValuesSound text ((value_at text).0 ∷ others.0, others.1)
more_values text next others filled e rest =
    let parts = value_then text (codes ",") next e in
    let v = (value_at text).0 in record {
      value = v;
      values = rest.value ∷ rest.values;
      items = spaces parts.0 ++ (v ++ (spaces parts.1 ++ (codes "," ++ rest.items)));
      are = ap (λ l. v ∷ l) rest.are;
      cut = parts.2 ∙ ap (λ l. spaces parts.0 ++ (v ++ (spaces parts.1 ++ (codes "," ++ l)))) rest.cut ∙ sym (simp append_assoc);
      spelled = (parts.0, parts.1, rest.items, refl, parts.3, not_empty v filled, rest.spelled);
    }

values_step : (n : ℕ) (text : List ℕ) (found : List (List ℕ) × List ℕ) → ((next : List ℕ) (others : List (List ℕ) × List ℕ) → values_in n next ≡ Some others → ValuesSound next others)
    → (empty : Bool) → is_empty (value_at text).0 ≡ empty
    → (if empty then None else choose (after (codes ")") (behind Space (value_at text).1)) (λ left. Some ((value_at text).0 ∷ [], left)) ((after (codes ",") (behind Space (value_at text).1) >>= λ next. values_in n next) >>= λ others. Some ((value_at text).0 ∷ others.0, others.1))) ≡ Some found
    → ValuesSound text found
values_step n text found below true is e = absurd (cc)
values_step n text found below false is e =
    choose_cases (ValuesSound text found) (after (codes ")") (behind Space (value_at text).1)) (λ left. Some ((value_at text).0 ∷ [], left))
    ((after (codes ",") (behind Space (value_at text).1) >>= λ next. values_in n next) >>= λ others. Some ((value_at text).0 ∷ others.0, others.1)) (Some found) e
    (λ left closed made. subst (ValuesSound text) (same_some ((value_at text).0 ∷ [], left) found made) (last_value text left is closed))
    (λ none made.
    let others = bind_some (after (codes ",") (behind Space (value_at text).1) >>= λ next. values_in n next) (λ others. Some ((value_at text).0 ∷ others.0, others.1)) found made in
    let next = bind_some (after (codes ",") (behind Space (value_at text).1)) (λ next. values_in n next) others.0 others.1 in
    subst (ValuesSound text) (same_some ((value_at text).0 ∷ others.0.0, others.0.1) found others.2) (more_values text next.0 others.0 is next.1 (below next.0 others.0 next.2)))

pub values_sound : (n : ℕ) (text : List ℕ) (found : List (List ℕ) × List ℕ) → values_in n text ≡ Some found → ValuesSound text found
values_sound zero text found e = absurd (cc)
values_sound (suc n) text found e = values_step n text found (values_sound n) (is_empty (value_at text).0) refl e

-- a key, and a word that is none
pub is_key-IsKey : (word : List ℕ) → list_all (is_in_class Key) word ≡ true → is_key word ≡ true → IsKey word
is_key-IsKey word bytes is = record {
  bytes = bytes;
  some = λ e. let none : is_key word ≡ false = ap is_key e in absurd (cc);
  not_in = λ e. let none : is_key word ≡ false = ap is_key e in absurd (cc);
  not_notin = λ e. let none : is_key word ≡ false = ap is_key e in absurd (cc);
}

key_step : (text : List ℕ) (key : List ℕ × List ℕ) (v : Bool) → is_key (front Key text) ≡ v → (if v then Some (front Key text, behind Key text) else None) ≡ Some key → IsKey key.0 × (text ≡ key.0 ++ key.1) × Stops Key key.1
key_step text key true is e =
    subst (λ (k : List ℕ × List ℕ). IsKey k.0 × (text ≡ k.0 ++ k.1) × Stops Key k.1) (same_some (front Key text, behind Key text) key e)
    (is_key-IsKey (front Key text) (front-all Key text) is, cut Key text, behind-stops Key text)
key_step text key false is e = absurd (cc)

pub key_sound : (text : List ℕ) (key : List ℕ × List ℕ) → key_at text ≡ Some key → IsKey key.0 × (text ≡ key.0 ++ key.1) × Stops Key key.1
key_sound text key e = key_step text key (is_key (front Key text)) refl e

pub record TestSound (text : List ℕ) (found : Test × List ℕ) : Type 0 where
  pub first : List ℕ
  pub cut : text ≡ first ++ found.1
  pub spelled : SpellsTest found.0 first

value_found : (operator text rest : List ℕ) → after operator (behind Space text) ≡ Some rest
    → (first : List ℕ) × (text ≡ first ++ (value_at rest).1) × SpellsValue operator (value_at rest).0 first
value_found operator text rest e =
    let gap = spaces-cut text in
    let begun = value_sound rest in
    let v = (value_at rest).0 in
    let whole : text ≡ spaces gap.0 ++ (operator ++ (spaces begun.0 ++ (v ++ (value_at rest).1))) =
    gap.1 ∙ ap (λ l. spaces gap.0 ++ l) (after-is operator (behind Space text) rest e) ∙ ap (λ l. spaces gap.0 ++ (operator ++ l)) begun.1 in (
      spaces gap.0 ++ (operator ++ (spaces begun.0 ++ v)),
      whole ∙ sym (simp append_assoc),
      (gap.0, begun.0, refl, begun.2),
    )

-- behind a key, an operator that begins with a byte of keys has a space before it
spaced : (m b : ℕ) (text rest : List ℕ) → is_in_class Key b ≡ true → Stops Key text → text ≡ spaces m ++ (b ∷ rest) → (k : ℕ) × (text ≡ spaces (suc k) ++ (b ∷ rest))
spaced zero b text rest is stops e = let stop : is_in_class Key b ≡ false = subst (Stops Key) e stops in absurd (cc)
spaced (suc k) b text rest is stops e = (k, e)

list_found : (b : ℕ) (operator text rest : List ℕ) (list : List (List ℕ) × List ℕ) → is_in_class Key b ≡ true → Stops Key text → after (b ∷ operator) (behind Space text) ≡ Some rest → list_at rest ≡ Some list
    → (first : List ℕ) × (text ≡ first ++ list.1) × SpellsList (b ∷ operator) list.0 first
list_found b operator text rest list is stops e listed =
    let gap = spaces-cut text in
    let before = spaced gap.0 b text (operator ++ rest) is stops (gap.1 ∙ ap (λ l. spaces gap.0 ++ l) (after-is (b ∷ operator) (behind Space text) rest e)) in
    let opened = bind_some (after (codes "(") (behind Space rest)) (λ items. values_in (length items + 1) items) list listed in
    let inner = spaces-cut rest in
    let found = values_sound (length opened.0 + 1) opened.0 list opened.2 in
    let rest_is : rest ≡ spaces inner.0 ++ (codes "(" ++ (found.items ++ list.1)) =
    inner.1 ∙ ap (λ l. spaces inner.0 ++ l) (after-is (codes "(") (behind Space rest) opened.0 opened.1) ∙ ap (λ l. spaces inner.0 ++ (codes "(" ++ l)) found.cut in
    let spelled : SpellsValues list.0 found.items = subst (λ (l : List (List ℕ)). SpellsValues l found.items) (sym found.are) found.spelled in (
      spaces (suc before.0) ++ ((b ∷ operator) ++ (spaces inner.0 ++ (codes "(" ++ found.items))),
      before.1 ∙ ap (λ l. spaces (suc before.0) ++ (b ∷ (operator ++ l))) rest_is ∙ sym (simp append_assoc),
      (before.0, inner.0, found.items, refl, spelled),
    )

pub test_sound : (text : List ℕ) (found : Test × List ℕ) → Stops Key text → test_at text ≡ Some found → TestSound text found
test_sound text found stops e =
    let operator = behind Space text in
    choose_cases (TestSound text found) (after (codes "==") operator) _ _ (Some found) e
    (λ rest at made. let parts = value_found (codes "==") text rest at in
    subst (TestSound text) (same_some (Is (value_at rest).0, (value_at rest).1) found made) (record { first = parts.0; cut = parts.1; spelled = inr parts.2 }))
    (λ none e1. choose_cases (TestSound text found) (after (codes "=") operator) _ _ (Some found) e1
    (λ rest at made. let parts = value_found (codes "=") text rest at in
    subst (TestSound text) (same_some (Is (value_at rest).0, (value_at rest).1) found made) (record { first = parts.0; cut = parts.1; spelled = inl parts.2 }))
    (λ none e2. choose_cases (TestSound text found) (after (codes "!=") operator) _ _ (Some found) e2
    (λ rest at made. let parts = value_found (codes "!=") text rest at in
    subst (TestSound text) (same_some (IsNot (value_at rest).0, (value_at rest).1) found made) (record { first = parts.0; cut = parts.1; spelled = parts.2 }))
    (λ none e3. choose_cases (TestSound text found) (after (codes "in") operator) _ _ (Some found) e3
    (λ rest at made.
    let list = bind_some (list_at rest) (λ list. Some (In list.0, list.1)) found made in
    let parts = list_found 105 (110 ∷ []) text rest list.0 refl stops at list.1 in
    subst (TestSound text) (same_some (In list.0.0, list.0.1) found list.2) (record { first = parts.0; cut = parts.1; spelled = parts.2 }))
    (λ none e4. choose_cases (TestSound text found) (after (codes "notin") operator) _ _ (Some found) e4
    (λ rest at made.
    let list = bind_some (list_at rest) (λ list. Some (NotIn list.0, list.1)) found made in
    let parts = list_found 110 (111 ∷ 116 ∷ 105 ∷ 110 ∷ []) text rest list.0 refl stops at list.1 in
    subst (TestSound text) (same_some (NotIn list.0.0, list.0.1) found list.2) (record { first = parts.0; cut = parts.1; spelled = parts.2 }))
    (λ none e5. subst (TestSound text) (same_some (Exists, text) found e5) (record { first = []; cut = refl; spelled = refl }))))))

spells_by : (key : List ℕ) (test : Test) (first : List ℕ) → SpellsTest test first → SpellsBy key test (key ++ first)
spells_by key Missing first spelled = absurd spelled
spells_by key Exists first spelled = (first, refl, spelled)
spells_by key (Is value) first spelled = (first, refl, spelled)
spells_by key (IsNot value) first spelled = (first, refl, spelled)
spells_by key (In values) first spelled = (first, refl, spelled)
spells_by key (NotIn values) first spelled = (first, refl, spelled)

pub record RequirementSound (text : List ℕ) (found : Requirement × List ℕ) : Type 0 where
  pub first : List ℕ
  pub cut : text ≡ first ++ found.1
  pub spelled : SpellsRequirement found.0 first

missing_sound : (text rest : List ℕ) (key : List ℕ × List ℕ) → after (codes "!") text ≡ Some rest → key_at (behind Space rest) ≡ Some key → RequirementSound text (requirement_by key.0 (Missing, key.1))
missing_sound text rest key at keyed =
    let gap = spaces-cut rest in
    let sound = key_sound (behind Space rest) key keyed in record {
      first = codes "!" ++ (spaces gap.0 ++ key.0);
      cut = after-is (codes "!") text rest at ∙ ap (λ l. codes "!" ++ l) gap.1 ∙ ap (λ l. codes "!" ++ (spaces gap.0 ++ l)) sound.1 ∙ sym (simp append_assoc);
      spelled = (sound.0, (gap.0, refl));
    }

tested_sound : (text : List ℕ) (key : List ℕ × List ℕ) (test : Test × List ℕ) → key_at text ≡ Some key → test_at key.1 ≡ Some test → RequirementSound text (requirement_by key.0 test)
tested_sound text key test keyed tested =
    let sound = key_sound text key keyed in
    let found = test_sound key.1 test sound.2 tested in record {
      first = key.0 ++ found.first;
      cut = sound.1 ∙ ap (λ l. key.0 ++ l) found.cut ∙ sym (append_assoc key.0 found.first test.1);
      spelled = (sound.0, spells_by key.0 test.0 found.first found.spelled);
    }

pub requirement_sound : (text : List ℕ) (found : Requirement × List ℕ) → requirement_at text ≡ Some found → RequirementSound text found
requirement_sound text found e =
    choose_cases (RequirementSound text found) (after (codes "!") text) _ _ (Some found) e
    (λ rest at made.
    let key = bind_some (key_at (behind Space rest)) (λ key. Some (requirement_by key.0 (Missing, key.1))) found made in
    subst (RequirementSound text) (same_some (requirement_by key.0.0 (Missing, key.0.1)) found key.2) (missing_sound text rest key.0 at key.1))
    (λ none made.
    let key = bind_some (key_at text) (λ key. test_at key.1 >>= λ test. Some (requirement_by key.0 test)) found made in
    let test = bind_some (test_at key.0.1) (λ test. Some (requirement_by key.0.0 test)) found key.2 in
    subst (RequirementSound text) (same_some (requirement_by key.0.0 test.0) found test.2) (tested_sound text key.0 test.0 key.1 test.1))

empty_is : (text : List ℕ) → is_empty text ≡ true → text ≡ []
empty_is [] e = refl
empty_is (b ∷ text) e = let none : length (b ∷ text) ≡ 0 = (Decides-eqb (length (b ∷ text)) 0).0 e in absurd (omega arith)

one_more : (text : List ℕ) (requirement : Requirement) (others : List Requirement) (m n : ℕ) (first rest : List ℕ) → text ≡ first ++ (spaces m ++ (codes "," ++ (spaces n ++ rest)))
    → SpellsRequirement requirement first → Spells others rest → Spells (requirement ∷ others) text
one_more text requirement [] m n first rest whole spelled others = absurd others
one_more text requirement (next ∷ more) m n first rest whole spelled others = (m, n, first, rest, whole, spelled, others)

joined_step : (n : ℕ) (text : List ℕ) (found : Requirement × List ℕ) (selector : List Requirement) → RequirementSound text found
    → ((next : List ℕ) (others : List Requirement) → selector_in n next ≡ Some others → Spells others next)
    → (empty : Bool) → is_empty found.1 ≡ empty
    → (if empty then Some (found.0 ∷ []) else ((after (codes ",") (behind Space found.1) >>= λ next. selector_in n (behind Space next)) >>= λ rest. Some (found.0 ∷ rest))) ≡ Some selector
    → Spells selector text
joined_step n text found selector sound below true is e =
    let whole : sound.first ≡ text = sym (append-nil sound.first) ∙ ap (λ l. sound.first ++ l) (sym (empty_is found.1 is)) ∙ sym sound.cut in
    subst (λ (l : List Requirement). Spells l text) (same_some (found.0 ∷ []) selector e) (subst (SpellsRequirement found.0) whole sound.spelled)
joined_step n text found selector sound below false is e =
    let rest = bind_some (after (codes ",") (behind Space found.1) >>= λ next. selector_in n (behind Space next)) (λ rest. Some (found.0 ∷ rest)) selector e in
    let next = bind_some (after (codes ",") (behind Space found.1)) (λ next. selector_in n (behind Space next)) rest.0 rest.1 in
    let gap = spaces-cut found.1 in
    let gap_2 = spaces-cut next.0 in
    let whole : text ≡ sound.first ++ (spaces gap.0 ++ (codes "," ++ (spaces gap_2.0 ++ behind Space next.0))) =
    sound.cut ∙ ap (λ l. sound.first ++ l) (gap.1 ∙ ap (λ l. spaces gap.0 ++ l) (after-is (codes ",") (behind Space found.1) next.0 next.1 ∙ ap (λ l. codes "," ++ l) gap_2.1)) in
    subst (λ (l : List Requirement). Spells l text) (same_some (found.0 ∷ rest.0) selector rest.2)
    (one_more text found.0 rest.0 gap.0 gap_2.0 sound.first (behind Space next.0) whole sound.spelled (below (behind Space next.0) rest.0 next.2))

pub selector_sound : (n : ℕ) (text : List ℕ) (selector : List Requirement) → selector_in n text ≡ Some selector → Spells selector text
selector_sound zero text selector e = absurd (cc)
selector_sound (suc n) text selector e =
    let found = bind_some (requirement_at text) (λ found. joined_by found (after (codes ",") (behind Space found.1) >>= λ next. selector_in n (behind Space next))) selector e in
    joined_step n text found.0 selector (requirement_sound text found.0 found.1) (selector_sound n) (is_empty found.0.1) refl found.2
