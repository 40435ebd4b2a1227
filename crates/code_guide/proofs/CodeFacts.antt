-- The codes of the program: each has a text, which begins with its words.
use Rattle.std.proofs.Common.{◌≡◌, ◌↔◌, ℕ, List, [], ◌∷◌, Option, Some, None, Bool, true, false, Contains, IfSome, IsSome, option_map, bytes_eq, codes, if◌then◌else◌, refl, sym, subst}
use Rattle.std.proofs.lemmas.Slice.Eq.{bytes_eq-Decides}
use Rattle.code_guide.specs.Guides.{guides_of, text_of, word_guides}
use Rattle.code_guide.specs.FileGuides.{file_guides}
use Rattle.code_guide.specs.LimitGuides.{limit_guides}
use Rattle.code_guide.specs.LogGuides.{log_guides}
use Rattle.code_guide.specs.MakingGuides.{making_guides}
use Rattle.code_guide.specs.Names.{IsCode, file_names, limit_names, making_names, names_of, status_names, word_names}
use Rattle.code_guide.specs.Paragraphs.{IsWhole, TellsLimit, is_whole, tells_most}
use Rattle.code_guide.specs.SetupGuides.{setup_guides}
use Rattle.code_guide.specs.StatusGuides.{status_guides}
use Rattle.code_guide.specs.Texts.{Begins, Guide, text_in}
use Rattle.code_guide.specs.VerdictGuides.{verdict_guides}
use Rattle.code_guide.proofs.FoundTexts.{all_pass, are_begun, begun, found, named, names_in, passed}

word_names_are : names_in word_guides ≡ word_names
unfolding log_guides setup_guides verdict_guides
word_names_are = refl

status_names_are : names_in status_guides ≡ status_names
unfolding status_guides
status_names_are = refl

limit_names_are : names_in limit_guides ≡ limit_names
unfolding limit_guides
limit_names_are = refl

words_begun : are_begun [] word_guides ≡ true
unfolding log_guides setup_guides verdict_guides
words_begun = refl

statuses_begun : are_begun (codes "status ") status_guides ≡ true
unfolding status_guides
statuses_begun = refl

limits_begun : are_begun (codes "limit ") limit_guides ≡ true
unfolding limit_guides
limits_begun = refl

making_names_are : names_in making_guides ≡ making_names
unfolding making_guides
making_names_are = refl

file_names_are : names_in file_guides ≡ file_names
unfolding file_guides
file_names_are = refl

makings_begun : are_begun (codes "setup ") making_guides ≡ true
unfolding making_guides
makings_begun = refl

files_begun : are_begun (codes "file ") file_guides ≡ true
unfolding file_guides
files_begun = refl

-- the names of each family
family_names_in : (is_status is_limit is_making is_file : Bool)
    → names_in (if is_status then status_guides else if is_limit then limit_guides else if is_making then making_guides else if is_file then file_guides else [])
    ≡ (if is_status then status_names else if is_limit then limit_names else if is_making then making_names else if is_file then file_names else [])
family_names_in true is_limit is_making is_file = status_names_are
family_names_in false true is_making is_file = limit_names_are
family_names_in false false true is_file = making_names_are
family_names_in false false false true = file_names_are
family_names_in false false false false = refl

family_names_are : (family : List ℕ) → names_in (guides_of family) ≡ names_of family
family_names_are family =
    family_names_in (bytes_eq family (codes "status")) (bytes_eq family (codes "limit")) (bytes_eq family (codes "setup")) (bytes_eq family (codes "file"))

exactly : (guides : List Guide) (names : List (List ℕ)) (name : List ℕ) → names_in guides ≡ names → IsSome (text_in guides name) ↔ Contains names name
exactly guides names name are = (
  (λ some. subst (λ ns. Contains ns name) are (there (text_in guides name) refl some)),
  λ among. found guides name (subst (λ ns. Contains ns name) (sym are) among),
)
  where
    there : (text : Option (List ℕ)) → text_in guides name ≡ text → IsSome text → Contains (names_in guides) name
    there (Some text) is some = named guides name text is
    there None is some = absurd (let no : false ≡ true = some in cc)

some_of : (words : List (List ℕ)) → IsSome (text_of words) ↔ IsCode words
some_of [] = ((λ some. let no : false ≡ true = some in absurd cc), λ code. absurd code)
some_of (code ∷ []) = exactly word_guides word_names code word_names_are
some_of (family ∷ code ∷ []) = exactly (guides_of family) (names_of family) code (family_names_are family)
some_of (family ∷ code ∷ other ∷ others) = ((λ some. let no : false ≡ true = some in absurd cc), λ code. absurd code)

-- the words of a family of two words, in front of a colon
as_family : (word family code text : List ℕ) → bytes_eq family word ≡ true → Begins (word ∷ code ∷ []) text → Begins (family ∷ code ∷ []) text
as_family word family code text same begins = subst (λ f. Begins (f ∷ code ∷ []) text) (sym ((bytes_eq-Decides family word).0 same)) begins

family_begins : (family code text : List ℕ) (is_status is_limit is_making is_file : Bool)
    → bytes_eq family (codes "status") ≡ is_status → bytes_eq family (codes "limit") ≡ is_limit → bytes_eq family (codes "setup") ≡ is_making → bytes_eq family (codes "file") ≡ is_file
    → text_in (if is_status then status_guides else if is_limit then limit_guides else if is_making then making_guides else if is_file then file_guides else []) code ≡ Some text
    → Begins (family ∷ code ∷ []) text
family_begins family code text true is_limit is_making is_file same a b c is = as_family (codes "status") family code text same (begun (codes "status ") status_guides code text statuses_begun is)
family_begins family code text false true is_making is_file a same b c is = as_family (codes "limit") family code text same (begun (codes "limit ") limit_guides code text limits_begun is)
family_begins family code text false false true is_file a b same c is = as_family (codes "setup") family code text same (begun (codes "setup ") making_guides code text makings_begun is)
family_begins family code text false false false true a b c same is = as_family (codes "file") family code text same (begun (codes "file ") file_guides code text files_begun is)
family_begins family code text false false false false a b c d is = absurd (let no : None ≡ Some text = is in cc)

begins_of : (words : List (List ℕ)) (text : List ℕ) → text_of words ≡ Some text → Begins words text
begins_of [] text is = absurd (let no : None ≡ Some text = is in cc)
begins_of (code ∷ []) text is = begun [] word_guides code text words_begun is
begins_of (family ∷ code ∷ []) text is =
    family_begins family code text (bytes_eq family (codes "status")) (bytes_eq family (codes "limit")) (bytes_eq family (codes "setup")) (bytes_eq family (codes "file")) refl refl refl refl is
begins_of (family ∷ code ∷ other ∷ others) text is = absurd (let no : None ≡ Some text = is in cc)

-- each text has its paragraphs
abbrev whole_of : List ℕ → List ℕ → Bool
whole_of name text = is_whole text

words_whole : all_pass whole_of word_guides ≡ true
unfolding log_guides setup_guides verdict_guides
words_whole = refl

statuses_whole : all_pass whole_of status_guides ≡ true
unfolding status_guides
statuses_whole = refl

limits_whole : all_pass whole_of limit_guides ≡ true
unfolding limit_guides
limits_whole = refl

makings_whole : all_pass whole_of making_guides ≡ true
unfolding making_guides
makings_whole = refl

files_whole : all_pass whole_of file_guides ≡ true
unfolding file_guides
files_whole = refl

family_whole_in : (is_status is_limit is_making is_file : Bool)
    → all_pass whole_of (if is_status then status_guides else if is_limit then limit_guides else if is_making then making_guides else if is_file then file_guides else []) ≡ true
family_whole_in true is_limit is_making is_file = statuses_whole
family_whole_in false true is_making is_file = limits_whole
family_whole_in false false true is_file = makings_whole
family_whole_in false false false true = files_whole
family_whole_in false false false false = refl

family_whole : (family : List ℕ) → all_pass whole_of (guides_of family) ≡ true
family_whole family =
    family_whole_in (bytes_eq family (codes "status")) (bytes_eq family (codes "limit")) (bytes_eq family (codes "setup")) (bytes_eq family (codes "file"))

whole_text : (words : List (List ℕ)) (text : List ℕ) → text_of words ≡ Some text → IsWhole text
whole_text [] text is = absurd (let no : None ≡ Some text = is in cc)
whole_text (code ∷ []) text is = passed whole_of word_guides code text words_whole is
whole_text (family ∷ code ∷ []) text is = passed whole_of (guides_of family) code text (family_whole family) is
whole_text (family ∷ code ∷ other ∷ others) text is = absurd (let no : None ≡ Some text = is in cc)

-- each text of a limit has its number
limits_told : all_pass tells_most limit_guides ≡ true
unfolding limit_guides
limits_told = refl

limit_text : (words : List (List ℕ)) (text : List ℕ) → text_of words ≡ Some text → TellsLimit words text
limit_text words text is name spelled =
    let found : text_in limit_guides name ≡ Some text = subst (λ ws. text_of ws ≡ Some text) spelled is in
    passed tells_most limit_guides name text limits_told found

-- the same of what a call answers
module _ {X : Type 0} (value : X → List ℕ) (words : List (List ℕ)) where
  pub explained_some : (found : Option X) → option_map value found ≡ text_of words → IsSome found ↔ IsCode words
  explained_some None is = subst (λ t. IsSome t ↔ IsCode words) (sym is) (some_of words)
  explained_some (Some x) is = subst (λ t. IsSome t ↔ IsCode words) (sym is) (some_of words)

  pub explained_begins : (found : Option X) → option_map value found ≡ text_of words → IfSome found (λ text. Begins words (value text))
  explained_begins None is = tt
  explained_begins (Some x) is = begins_of words (value x) (sym is)

  pub explained_whole : (found : Option X) → option_map value found ≡ text_of words → IfSome found (λ text. IsWhole (value text))
  explained_whole None is = tt
  explained_whole (Some x) is = whole_text words (value x) (sym is)

  pub explained_limit : (found : Option X) → option_map value found ≡ text_of words → IfSome found (λ text. TellsLimit words (value text))
  explained_limit None is = tt
  explained_limit (Some x) is = limit_text words (value x) (sym is)
