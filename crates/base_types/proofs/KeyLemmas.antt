-- A key's text is cut at its first three slashes in one way.
use Rattle.std.proofs.Common.{◌≡◌, ◌≢◌, ℕ, ◌<◌, List, [], ◌∷◌, ◌++◌, length, refl, sym, ap, ◌∙◌, arith}
use Rattle.std.specs.Prelude.{Option, Some, None, IfSome, IfNone}
use Rattle.std.specs.Borrow.{Bor}
use Rattle.std.proofs.lemmas.Str.Pattern.{IsSplitOnceResult, split_parts}
use Rattle.std.proofs.lemmas.List.Elements.{All-head, All-tail, All-from_get_or}
use Rattle.base_types.specs.declared.kubernetes.key.ObjectKey.{ObjectKey}
use Rattle.base_types.specs.Escapes.{escaped}
use Rattle.base_types.specs.Keys.{HasNoSlash, IsCut, IsJoined, key_spelling}
use Rattle.base_types.proofs.EscapeLemmas.{no_slash-escaped, escaped_injective, escaped_nonempty, escaped-nil}

-- keys with the same four parts are one
pub key_from_parts : (a b : ObjectKey) → a.group ≡ b.group → a.resource ≡ b.resource → a.namespace ≡ b.namespace → a.name ≡ b.name → a ≡ b
key_from_parts a b group resource namespace name = rw (group, resource, namespace, name) refl

abbrev Other : ℕ → Type 0
Other b = b ≢ 47

-- the front before the first slash is one alone
pub first_slash : (a c : List ℕ) (b d : List ℕ) → HasNoSlash a → HasNoSlash c → a ++ (47 ∷ b) ≡ c ++ (47 ∷ d) → (a ≡ c) × (b ≡ d)
first_slash [] [] b d na nc e = (refl, cc)
first_slash [] (y ∷ c) b d na nc e = absurd (All-head Other y c nc (cc))
first_slash (x ∷ a) [] b d na nc e = absurd (All-head Other x a na (cc))
first_slash (x ∷ a) (y ∷ c) b d na nc e =
    let rest = first_slash a c b d (All-tail Other x a na) (All-tail Other y c nc) (cc) in
    let same : x ≡ y = cc in
    (cc, rest.1)

-- a word without a slash isn't cut
pub no_cut : (word a b : List ℕ) → HasNoSlash word → word ≢ a ++ (47 ∷ b)
no_cut [] [] b none e = cc
no_cut [] (x ∷ a) b none e = cc
no_cut (y ∷ word) [] b none e = All-head Other y word none (cc)
no_cut (y ∷ word) (x ∷ a) b none e = no_cut word a b (All-tail Other y word none) (cc)

-- what `split_once` says of a slash
pub cut_from_split : (word : List ℕ) (r : Option (Bor (List ℕ) × Bor (List ℕ))) → IsSplitOnceResult 47 word r → IfSome r (λ parts. IsCut word parts.0.now parts.1.now)
cut_from_split word None h = tt
cut_from_split word (Some parts) h =
    let split = split_parts 47 word (Some parts) h (omega arith) in
    record { joined = split.0; whole = All-from_get_or Other parts.0.now 0 split.1 }

pub whole_from_split : (word : List ℕ) (r : Option (Bor (List ℕ) × Bor (List ℕ))) → IsSplitOnceResult 47 word r → IfNone r (HasNoSlash word)
whole_from_split word None h = All-from_get_or Other word 0 (split_parts 47 word None h (omega arith))
whole_from_split word (Some parts) h = tt

-- a word with fewer than three slashes is no key's
pub no_key_0 : (word : List ℕ) → HasNoSlash word → (key : ObjectKey) → word ≢ key_spelling key
no_key_0 word none key e = no_cut word (escaped key.group) _ none e

pub no_key_1 : (word g rest : List ℕ) → IsCut word g rest → HasNoSlash rest → (key : ObjectKey) → word ≢ key_spelling key
no_key_1 word g rest is none key e =
    let first = first_slash g (escaped key.group) _ _ is.whole (no_slash-escaped key.group) (sym is.joined ∙ e) in
    no_cut rest (escaped key.resource) _ none first.1

pub no_key_2 : (word g rest r more : List ℕ) → IsCut word g rest → IsCut rest r more → HasNoSlash more → (key : ObjectKey) → word ≢ key_spelling key
no_key_2 word g rest r more is next none key e =
    let first = first_slash g (escaped key.group) _ _ is.whole (no_slash-escaped key.group) (sym is.joined ∙ e) in
    let second = first_slash r (escaped key.resource) _ _ next.whole (no_slash-escaped key.resource) (sym next.joined ∙ first.1) in
    no_cut more (escaped key.namespace) _ none second.1

pub joined_from_cuts : (word g rest r more s n : List ℕ) → IsCut word g rest → IsCut rest r more → IsCut more s n → IsJoined word g r s n
joined_from_cuts word g rest r more s n first second third = record {
  joined = first.joined ∙ ap (λ l. g ++ (47 ∷ l)) (second.joined ∙ ap (λ l. r ++ (47 ∷ l)) third.joined);
  first_whole = first.whole;
  second_whole = second.whole;
  third_whole = third.whole;
}

pub none_anyway : {X : Type 0} (r : Option X) (P : Type 0) → P → IfNone r P
none_anyway None P p = p
none_anyway (Some x) P p = tt

-- the four words of a key's text are its parts
pub record SameParts (first second third last : List ℕ) (key : ObjectKey) : Type 0 where
  pub group : first ≡ escaped key.group
  pub resource : second ≡ escaped key.resource
  pub namespace : third ≡ escaped key.namespace
  pub name : last ≡ escaped key.name

pub same_parts : (word g r s n : List ℕ) (key : ObjectKey) → IsJoined word g r s n → word ≡ key_spelling key → SameParts g r s n key
same_parts word g r s n key is e =
    let whole : g ++ (47 ∷ (r ++ (47 ∷ (s ++ (47 ∷ n))))) ≡ escaped key.group ++ (47 ∷ (escaped key.resource ++ (47 ∷ (escaped key.namespace ++ (47 ∷ escaped key.name))))) = sym is.joined ∙ e in
    let first = first_slash g (escaped key.group) _ _ is.first_whole (no_slash-escaped key.group) whole in
    let second = first_slash r (escaped key.resource) _ _ is.second_whole (no_slash-escaped key.resource) first.1 in
    let third = first_slash s (escaped key.namespace) _ _ is.third_whole (no_slash-escaped key.namespace) second.1 in
    record { group = first.0; resource = second.0; namespace = third.0; name = third.1 }

pub joined_spelling : (key : ObjectKey) → IsJoined (key_spelling key) (escaped key.group) (escaped key.resource) (escaped key.namespace) (escaped key.name)
joined_spelling key = record { joined = refl; first_whole = no_slash-escaped key.group; second_whole = no_slash-escaped key.resource; third_whole = no_slash-escaped key.namespace }

abbrev whole_key : (g r s n : List ℕ) → ObjectKey
whole_key g r s n = record { group = g; resource = r; namespace = s; name = n }

pub key_spelling_injective : (a b : ObjectKey) → key_spelling a ≡ key_spelling b → a ≡ b
key_spelling_injective a b e =
    let parts = same_parts (key_spelling a) _ _ _ _ b (joined_spelling a) e in
    let group : a.group ≡ b.group = escaped_injective a.group b.group parts.group in
    let resource : a.resource ≡ b.resource = escaped_injective a.resource b.resource parts.resource in
    let namespace : a.namespace ≡ b.namespace = escaped_injective a.namespace b.namespace parts.namespace in
    let name : a.name ≡ b.name = escaped_injective a.name b.name parts.name in
    ap (λ g. whole_key g a.resource a.namespace a.name) group ∙ ap (λ r. whole_key b.group r a.namespace a.name) resource
    ∙ ap (λ s. whole_key b.group b.resource s a.name) namespace ∙ ap (λ n. whole_key b.group b.resource b.namespace n) name

pub spelled_by : (word g r s n : List ℕ) (key : ObjectKey) → IsJoined word g r s n → SameParts g r s n key → word ≡ key_spelling key
spelled_by word g r s n key is same = rw (sym same.group, sym same.resource, sym same.namespace, sym same.name) is.joined

-- a part that isn't empty is written as a word that isn't
pub word_some : (word part : List ℕ) → word ≡ escaped part → part ≢ [] → 0 < length word
word_some [] part same some = absurd (some (escaped_nonempty part (sym same)))
word_some (x ∷ word) part same some = omega arith

pub part_some : (word part : List ℕ) → word ≡ escaped part → 0 < length word → part ≢ []
part_some word part same some none =
    let empty : word ≡ [] = same ∙ ap escaped none ∙ escaped-nil in
    omega (arith, ap length empty)
