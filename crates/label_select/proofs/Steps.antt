-- The loops of the reader, step by step.
use Rattle.std.proofs.Common.{◌≡◌, ℕ, zero, suc, ◌<◌, true, false, List, [], ◌∷◌, ◌++◌, length, Option, Some, None, refl, sym, ap, ◌∙◌, codes, arith, append_assoc, length-append}
use Rattle.base_types.specs.Texts.{◌>>=◌}
use Rattle.label_select.specs.Bytes.{is_in_class, front, behind, after}
use Rattle.label_select.specs.Readings.{choose, is_empty, value_at, values_by, values_in, requirement_at, joined_by, selector_in}
use Rattle.label_select.specs.declared.bytes.Class.{Class}
use Rattle.label_select.specs.declared.bytes.Class.TheVariants.{Space, Value, Key}
use Rattle.label_select.specs.declared.selector.Requirement.{Requirement}
use Rattle.std.specs.Str.{IsAscii}
use Rattle.std.specs.List.{list_all}
use Rattle.std.proofs.lemmas.Str.Ascii.{IsAscii-nil, IsAscii-cons}
use Rattle.std.proofs.lemmas.Bool.Decides.{nat_tests}
use Rattle.label_select.proofs.Fronts.{behind-length, after-length, front-all, first_passes, others_pass}
use Rattle.label_select.proofs.Sound.{requirement_sound}

-- the bytes of words are below 128
small : (class : Class) (b : ℕ) → is_in_class class b ≡ true → b < 128
small Space b is = grind (arith, nat_tests)
small Value b is = grind (arith, nat_tests)
small Key b is = grind (arith, nat_tests)

word_ascii : (class : Class) (word : List ℕ) → list_all (is_in_class class) word ≡ true → IsAscii word
word_ascii class [] all = IsAscii-nil
word_ascii class (b ∷ word) all = IsAscii-cons b word (small class b (first_passes (is_in_class class) b word all)) (word_ascii class word (others_pass (is_in_class class) b word all))

pub front-ascii : (class : Class) (text : List ℕ) → IsAscii (front class text)
front-ascii class text = word_ascii class (front class text) (front-all class text)

-- values that were read, before the others
abbrev pub prefixed : List (List ℕ) → Option (List (List ℕ) × List ℕ) → Option (List (List ℕ) × List ℕ)
prefixed values None = None
prefixed values (Some found) = Some (values ++ found.0, found.1)

pub prefixed_none : (found : Option (List (List ℕ) × List ℕ)) → found ≡ prefixed [] found
prefixed_none None = refl
prefixed_none (Some found) = refl

one_more : (values : List (List ℕ)) (value : List ℕ) (found : Option (List (List ℕ) × List ℕ)) → prefixed values (found >>= λ f. Some (value ∷ f.0, f.1)) ≡ prefixed (values ++ value ∷ []) found
one_more values value None = refl
one_more values value (Some found) = ap (λ l. Some (l, found.1)) (sym (append_assoc values (value ∷ []) found.0))

unrolled : (n : ℕ) (text value more : List ℕ) → value_at text ≡ (value, more)
    → values_in (suc n) text ≡ values_by value (after (codes ")") (behind Space more)) (after (codes ",") (behind Space more) >>= λ next. values_in n next)
unrolled n text value more is =
    ap (λ (p : List ℕ × List ℕ). values_by p.0 (after (codes ")") (behind Space p.1)) (after (codes ",") (behind Space p.1) >>= λ next. values_in n next)) is

filled_values : (value : List ℕ) (closed : Option (List ℕ)) (others : Option (List (List ℕ) × List ℕ)) → is_empty value ≡ false
    → values_by value closed others ≡ choose closed (λ left. Some (value ∷ [], left)) (others >>= λ found. Some (value ∷ found.0, found.1))
filled_values value closed others filled = rw filled refl

no_value : (value : List ℕ) (closed : Option (List ℕ)) (others : Option (List (List ℕ) × List ℕ)) → is_empty value ≡ true → values_by value closed others ≡ None
no_value value closed others empty = rw empty refl

-- what comes of the text from a value on
pub values_from : (n : ℕ) (text value more : List ℕ) (closed comma : Option (List ℕ)) → value_at text ≡ (value, more) → is_empty value ≡ false
    → after (codes ")") (behind Space more) ≡ closed → after (codes ",") (behind Space more) ≡ comma
    → values_in (suc n) text ≡ choose closed (λ left. Some (value ∷ [], left)) ((comma >>= λ next. values_in n next) >>= λ found. Some (value ∷ found.0, found.1))
values_from n text value more closed comma is filled close next =
    unrolled n text value more is
    ∙ ap (λ c. values_by value c (after (codes ",") (behind Space more) >>= λ next. values_in n next)) close
    ∙ ap (λ o. values_by value closed (o >>= λ next. values_in n next)) next
    ∙ filled_values value closed (comma >>= λ next. values_in n next) filled

pub value_shorter : (text value more next : List ℕ) → value_at text ≡ (value, more) → after (codes ",") (behind Space more) ≡ Some next → length next < length text
value_shorter text value more next is at =
    let left : behind Value (behind Space text) ≡ more = ap (λ (p : List ℕ × List ℕ). p.1) is in
    let long = ap length left in
    let inner = behind-length Value (behind Space text) in
    let outer = behind-length Space text in
    let gap = behind-length Space more in
    let cut = after-length (codes ",") (behind Space more) next at in
    omega arith

pub values_preserved : (n : ℕ) (text value more next : List ℕ) (values : List (List ℕ)) → length text < n → value_at text ≡ (value, more) → is_empty value ≡ false
    → after (codes ")") (behind Space more) ≡ None → after (codes ",") (behind Space more) ≡ Some next
    → (k : ℕ) × (length next < k) × (prefixed values (values_in n text) ≡ prefixed (values ++ value ∷ []) (values_in k next)) × (length next < length text)
values_preserved zero text value more next values below is filled close at = absurd (omega arith)
values_preserved (suc k) text value more next values below is filled close at =
    let shorter = value_shorter text value more next is at in
    (k, omega arith, ap (prefixed values) (values_from k text value more None (Some next) is filled close at) ∙ one_more values value (values_in k next), shorter)

-- the exits
pub values_last : (n : ℕ) (text value more left : List ℕ) (values : List (List ℕ)) → length text < n → value_at text ≡ (value, more) → is_empty value ≡ false
    → after (codes ")") (behind Space more) ≡ Some left → prefixed values (values_in n text) ≡ Some (values ++ value ∷ [], left)
values_last zero text value more left values below is filled close = absurd (omega arith)
values_last (suc k) text value more left values below is filled close =
    ap (prefixed values) (values_from k text value more (Some left) (after (codes ",") (behind Space more)) is filled close refl)

pub values_broken : (n : ℕ) (text value more : List ℕ) (values : List (List ℕ)) → length text < n → value_at text ≡ (value, more) → is_empty value ≡ false
    → after (codes ")") (behind Space more) ≡ None → after (codes ",") (behind Space more) ≡ None → prefixed values (values_in n text) ≡ None
values_broken zero text value more values below is filled close comma = absurd (omega arith)
values_broken (suc k) text value more values below is filled close comma = ap (prefixed values) (values_from k text value more None None is filled close comma)

pub values_empty : (n : ℕ) (text value more : List ℕ) (values : List (List ℕ)) → length text < n → value_at text ≡ (value, more) → is_empty value ≡ true → prefixed values (values_in n text) ≡ None
values_empty zero text value more values below is empty = absurd (omega arith)
values_empty (suc k) text value more values below is empty = ap (prefixed values) (unrolled k text value more is ∙ no_value value (after (codes ")") (behind Space more)) (after (codes ",") (behind Space more) >>= λ next. values_in k next) empty)

-- requirements that were read, before the others
abbrev pub joined : List Requirement → Option (List Requirement) → Option (List Requirement)
joined selector None = None
joined selector (Some found) = Some (selector ++ found)

pub joined_none : (found : Option (List Requirement)) → found ≡ joined [] found
joined_none None = refl
joined_none (Some found) = refl

more_joined : (selector : List Requirement) (requirement : Requirement) (found : Option (List Requirement)) → joined selector (found >>= λ f. Some (requirement ∷ f)) ≡ joined (selector ++ requirement ∷ []) found
more_joined selector requirement None = refl
more_joined selector requirement (Some found) = ap Some (sym (append_assoc selector (requirement ∷ []) found))

last_joined : (requirement : Requirement) (left : List ℕ) (others : Option (List Requirement)) → is_empty left ≡ true → joined_by (requirement, left) others ≡ Some (requirement ∷ [])
last_joined requirement left others empty = rw empty refl

others_joined : (requirement : Requirement) (left : List ℕ) (others : Option (List Requirement)) → is_empty left ≡ false → joined_by (requirement, left) others ≡ (others >>= λ rest. Some (requirement ∷ rest))
others_joined requirement left others filled = rw filled refl

selector_from : (n : ℕ) (text : List ℕ) (requirement : Requirement) (left : List ℕ) (comma : Option (List ℕ)) → requirement_at text ≡ Some (requirement, left) → after (codes ",") (behind Space left) ≡ comma
    → selector_in (suc n) text ≡ joined_by (requirement, left) (comma >>= λ next. selector_in n (behind Space next))
selector_from n text requirement left comma is at =
    ap (λ o. o >>= λ found. joined_by found (after (codes ",") (behind Space found.1) >>= λ next. selector_in n (behind Space next))) is
    ∙ ap (λ c. joined_by (requirement, left) (c >>= λ next. selector_in n (behind Space next))) at

pub requirement_shorter : (text : List ℕ) (requirement : Requirement) (left next : List ℕ) → requirement_at text ≡ Some (requirement, left) → after (codes ",") (behind Space left) ≡ Some next → length (behind Space next) < length text
requirement_shorter text requirement left next is at =
    let sound = requirement_sound text (requirement, left) is in
    let whole = ap length sound.cut ∙ length-append sound.first left in
    let gap = behind-length Space left in
    let cut = after-length (codes ",") (behind Space left) next at in
    let after_gap = behind-length Space next in
    omega arith

pub selector_preserved : (n : ℕ) (text : List ℕ) (requirement : Requirement) (left next : List ℕ) (selector : List Requirement) → length text < n → requirement_at text ≡ Some (requirement, left) → is_empty left ≡ false
    → after (codes ",") (behind Space left) ≡ Some next
    → (k : ℕ) × (length (behind Space next) < k) × (joined selector (selector_in n text) ≡ joined (selector ++ requirement ∷ []) (selector_in k (behind Space next)))
selector_preserved zero text requirement left next selector below is filled at = absurd (omega arith)
selector_preserved (suc k) text requirement left next selector below is filled at =
    let shorter = requirement_shorter text requirement left next is at in
    (k, omega arith, ap (joined selector) (selector_from k text requirement left (Some next) is at ∙ others_joined requirement left (selector_in k (behind Space next)) filled) ∙ more_joined selector requirement (selector_in k (behind Space next)))

pub selector_last : (n : ℕ) (text : List ℕ) (requirement : Requirement) (left : List ℕ) (selector : List Requirement) → length text < n → requirement_at text ≡ Some (requirement, left) → is_empty left ≡ true
    → joined selector (selector_in n text) ≡ Some (selector ++ requirement ∷ [])
selector_last zero text requirement left selector below is empty = absurd (omega arith)
selector_last (suc k) text requirement left selector below is empty =
    ap (joined selector) (selector_from k text requirement left (after (codes ",") (behind Space left)) is refl
    ∙ last_joined requirement left (after (codes ",") (behind Space left) >>= λ next. selector_in k (behind Space next)) empty)

pub selector_broken : (n : ℕ) (text : List ℕ) (requirement : Requirement) (left : List ℕ) (selector : List Requirement) → length text < n → requirement_at text ≡ Some (requirement, left) → is_empty left ≡ false
    → after (codes ",") (behind Space left) ≡ None → joined selector (selector_in n text) ≡ None
selector_broken zero text requirement left selector below is filled comma = absurd (omega arith)
selector_broken (suc k) text requirement left selector below is filled comma =
    ap (joined selector) (selector_from k text requirement left None is comma ∙ others_joined requirement left None filled)

pub selector_none : (n : ℕ) (text : List ℕ) (selector : List Requirement) → length text < n → requirement_at text ≡ None → joined selector (selector_in n text) ≡ None
selector_none zero text selector below is = absurd (omega arith)
selector_none (suc k) text selector below is = ap (joined selector) (ap (λ o. o >>= λ found. joined_by found (after (codes ",") (behind Space found.1) >>= λ next. selector_in k (behind Space next))) is)
