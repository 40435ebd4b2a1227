-- What is found among codes with their texts.
use Rattle.std.proofs.Common.{◌≡◌, ℕ, zero, suc, List, [], ◌∷◌, ◌++◌, length, Option, Some, None, Bool, true, false, Contains, IsSome, option_map, bytes_eq, nat_eq, codes, if◌then◌else◌, drop, refl, sym, ◌∙◌, ap, inl, inr, arith}
use Rattle.std.specs.List.{find, starts_with}
use Rattle.std.specs.Prelude.{map}
use Rattle.std.specs.Option.{option_or}
use Rattle.std.proofs.lemmas.Bool.Decides.{Decides-eqb}
use Rattle.std.proofs.lemmas.List.Elements.{Contains-append_cases, Contains-append_left, Contains-append_right}
use Rattle.std.proofs.lemmas.Option.{same_Some}
use Rattle.std.proofs.lemmas.Slice.Eq.{bytes_eq-Decides, starts_is}
use Rattle.code_guide.specs.declared.guide.Guide.{Guide as AnyGuide}
use Rattle.code_guide.specs.Listed.{guide_of, is_named}
use Rattle.code_guide.specs.Texts.{Guide, text_in}

-- the text of the guide that a search finds
text_found_here : (first : AnyGuide) (others : List AnyGuide) (name : List ℕ) (test : Bool)
    → option_map (λ guide. guide.text.now) (find (is_named name) others) ≡ text_in (map guide_of others) name
    → option_map (λ guide. guide.text.now) (if test then Some first else find (is_named name) others) ≡ (if test then Some first.text.now else text_in (map guide_of others) name)
text_found_here first others name true below = refl
text_found_here first others name false below = below

pub text_found : (guides : List AnyGuide) (name : List ℕ) → option_map (λ guide. guide.text.now) (find (is_named name) guides) ≡ text_in (map guide_of guides) name
text_found [] name = refl
text_found (first ∷ others) name = text_found_here first others name (is_named name first) (text_found others name)

abbrev pub names_in : List Guide → List (List ℕ)
names_in [] = []
names_in (first ∷ others) = first.name ∷ names_in others

only_one : (x y : List ℕ) → Contains (x ∷ []) y → x ≡ y
only_one x y (zero, below, is) = is
only_one x y (suc k, below, is) = absurd (omega (arith, below))

-- where a text is found, its name is there
named_here : (first : Guide) (others : List Guide) (name text : List ℕ) (test : Bool) → bytes_eq name first.name ≡ test
    → (text_in others name ≡ Some text → Contains (names_in others) name)
    → (if test then Some first.text else text_in others name) ≡ Some text → Contains (first.name ∷ names_in others) name
named_here first others name text true same below is =
    Contains-append_left (first.name ∷ []) (names_in others) name (0, omega arith, sym ((bytes_eq-Decides name first.name).0 same))
named_here first others name text false differs below is = Contains-append_right (first.name ∷ []) (names_in others) name (below is)

pub named : (guides : List Guide) (name text : List ℕ) → text_in guides name ≡ Some text → Contains (names_in guides) name
named [] name text is = absurd (let no : None ≡ Some text = is in cc)
named (first ∷ others) name text is = named_here first others name text (bytes_eq name first.name) refl (named others name text) is

-- a text is found of a name that is there
found_here : (first : Guide) (others : List Guide) (name : List ℕ) (test : Bool) → bytes_eq name first.name ≡ test
    → (Contains (names_in others) name → IsSome (text_in others name))
    → Contains (first.name ∷ names_in others) name → IsSome (if test then Some first.text else text_in others name)
found_here first others name true same below among = refl
found_here first others name false differs below among =
    elim (Contains-append_cases (first.name ∷ []) (names_in others) name among) [
      | inl one ↦ absurd (let same = (bytes_eq-Decides name first.name).1 (sym (only_one first.name name one)) in let no : true ≡ false = sym same ∙ differs in cc)
      | inr rest ↦ below rest
    ]

pub found : (guides : List Guide) (name : List ℕ) → Contains (names_in guides) name → IsSome (text_in guides name)
found [] name (k, below, is) = absurd (omega (arith, below))
found (first ∷ others) name among = found_here first others name (bytes_eq name first.name) refl (found others name) among

-- what is found in one list or in the next
joined_here : (first : Guide) (others back : List Guide) (name : List ℕ) (test : Bool)
    → text_in (others ++ back) name ≡ option_or (text_in others name) (text_in back name)
    → (if test then Some first.text else text_in (others ++ back) name) ≡ option_or (if test then Some first.text else text_in others name) (text_in back name)
joined_here first others back name true below = refl
joined_here first others back name false below = below

pub joined : (front back : List Guide) (name : List ℕ) → text_in (front ++ back) name ≡ option_or (text_in front name) (text_in back name)
joined [] back name = refl
joined (first ∷ others) back name = joined_here first others back name (bytes_eq name first.name) (joined others back name)

pub either : {X : Type 0} (value : X → List ℕ) (front back : List Guide) (name : List ℕ) (first second : Option X)
    → option_map value first ≡ text_in front name → option_map value second ≡ text_in back name
    → option_map value (option_or first second) ≡ text_in (front ++ back) name
either value front back name None second is other =
    other ∙ ap (λ found. option_or found (text_in back name)) is ∙ sym (joined front back name)
either value front back name (Some x) second is other =
    ap (λ found. option_or found (text_in back name)) is ∙ sym (joined front back name)

-- each text begins with a front, its name, a colon and a space
abbrev pub is_begun : List ℕ → Guide → Bool
is_begun front guide = starts_with nat_eq guide.text (front ++ (guide.name ++ codes ": "))

abbrev pub are_begun : List ℕ → List Guide → Bool
are_begun front [] = true
are_begun front (first ∷ others) = if is_begun front first then are_begun front others else false

begun_here : (front : List ℕ) (first : Guide) (others : List Guide) (name text : List ℕ) (begun test : Bool) → is_begun front first ≡ begun → bytes_eq name first.name ≡ test
    → (are_begun front others ≡ true → text_in others name ≡ Some text → (rest : List ℕ) × (text ≡ (front ++ (name ++ codes ": ")) ++ rest))
    → (if begun then are_begun front others else false) ≡ true → (if test then Some first.text else text_in others name) ≡ Some text
    → (rest : List ℕ) × (text ≡ (front ++ (name ++ codes ": ")) ++ rest)
begun_here front first others name text false test begins same below all is = absurd (let no : false ≡ true = all in cc)
begun_here front first others name text true false begins same below all is = below all is
begun_here front first others name text true true begins same below all is =
    let told = starts_is Decides-eqb first.text (front ++ (first.name ++ codes ": ")) (is_begun front first) refl in
    let named : first.name ≡ name = sym ((bytes_eq-Decides name first.name).0 same) in (
      drop (length (front ++ (first.name ++ codes ": "))) first.text,
      sym (same_Some first.text text is) ∙ told.0 begins ∙ ap (λ n. (front ++ (n ++ codes ": ")) ++ drop (length (front ++ (first.name ++ codes ": "))) first.text) named,
    )

pub begun : (front : List ℕ) (guides : List Guide) (name text : List ℕ) → are_begun front guides ≡ true → text_in guides name ≡ Some text
    → (rest : List ℕ) × (text ≡ (front ++ (name ++ codes ": ")) ++ rest)
begun front [] name text all is = absurd (let no : None ≡ Some text = is in cc)
begun front (first ∷ others) name text all is = begun_here front first others name text (is_begun front first) (bytes_eq name first.name) refl refl (begun front others name text) all is

-- each name and text passes a test
abbrev pub all_pass : (List ℕ → List ℕ → Bool) → List Guide → Bool
all_pass test [] = true
all_pass test (first ∷ others) = if test first.name first.text then all_pass test others else false

passed_here : (test : List ℕ → List ℕ → Bool) (first : Guide) (others : List Guide) (name text : List ℕ) (passes same : Bool) → test first.name first.text ≡ passes → bytes_eq name first.name ≡ same
    → (all_pass test others ≡ true → text_in others name ≡ Some text → test name text ≡ true)
    → (if passes then all_pass test others else false) ≡ true → (if same then Some first.text else text_in others name) ≡ Some text → test name text ≡ true
passed_here test first others name text false same fails is_same below all is = absurd (let no : false ≡ true = all in cc)
passed_here test first others name text true false passes differs below all is = below all is
passed_here test first others name text true true passes same below all is =
    ap (λ n. test n text) ((bytes_eq-Decides name first.name).0 same) ∙ ap (test first.name) (sym (same_Some first.text text is)) ∙ passes

-- so does a text that is found
pub passed : (test : List ℕ → List ℕ → Bool) (guides : List Guide) (name text : List ℕ) → all_pass test guides ≡ true → text_in guides name ≡ Some text → test name text ≡ true
passed test [] name text all is = absurd (let no : None ≡ Some text = is in cc)
passed test (first ∷ others) name text all is =
    passed_here test first others name text (test first.name first.text) (bytes_eq name first.name) refl refl (passed test others name text) all is
