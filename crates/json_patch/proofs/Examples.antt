-- Worked examples: RFC 6902 appendix A, and the causes.
use Rattle.std.proofs.Common.{◌≡◌, ℕ, List, [], ◌∷◌, Ok, Err, codes, refl, pos}
use Rattle.base_types.specs.Meaning.{Meaning, null, whole, words, items, members, no_kids, kid, no_fields, field, kids_of}
use Rattle.json_patch.specs.declared.fault.ApplyCause.TheVariants.{IntoItself, NoValue, NoParent, BadIndex, Differs}
use Rattle.json_patch.specs.declared.fault.ApplyFault.TheVariants.{Operation}
use Rattle.json_patch.specs.declared.fault.PatchFault.TheVariants.{NotList, BadOperation}
use Rattle.json_patch.specs.declared.op.Op.TheVariants.{Add, Remove, Replace, Move, Copy, Test}
use Rattle.json_patch.specs.Effects.{effect}
use Rattle.json_patch.specs.Limits.{depth, values}
use Rattle.json_patch.specs.Patches.{applied}
use Rattle.json_patch.specs.Reading.{patch_of}

abbrev foo : List ℕ
foo = codes "foo"

abbrev bar : List ℕ
bar = codes "bar"

abbrev baz : List ℕ
baz = codes "baz"

abbrev qux : List ℕ
qux = codes "qux"

abbrev no_members : Meaning
no_members = members no_fields

abbrev just : List ℕ → Meaning → Meaning
just name value = members (field name value no_fields)

abbrev two : List ℕ → Meaning → List ℕ → Meaning → Meaning
two name value other more = members (field name value (field other more no_fields))

abbrev three : List ℕ → Meaning → List ℕ → Meaning → List ℕ → Meaning → Meaning
three a x b y c z = members (field a x (field b y (field c z no_fields)))

abbrev texts : List (List ℕ) → Meaning
texts [] = items no_kids
texts (s ∷ ss) = items (kids_of (words s ∷ more ss))
  where
    more : List (List ℕ) → List Meaning
    more [] = []
    more (t ∷ ts) = words t ∷ more ts

abbrev number_at : ℕ → Meaning
number_at n = whole (pos n)

abbrev at : List ℕ → List (List ℕ)
at name = name ∷ []

abbrev below : List ℕ → List ℕ → List (List ℕ)
below name other = name ∷ other ∷ []

-- A.1 to A.14
added_member : effect (Add (at baz) (words qux)) (just foo (words bar)) ≡ Ok (two baz (words qux) foo (words bar))
added_member = refl

added_item : effect (Add (below foo (codes "1")) (words qux)) (just foo (texts (bar ∷ baz ∷ []))) ≡ Ok (just foo (texts (bar ∷ qux ∷ baz ∷ [])))
added_item = refl

removed_member : effect (Remove (at baz)) (two baz (words qux) foo (words bar)) ≡ Ok (just foo (words bar))
removed_member = refl

removed_item : effect (Remove (below foo (codes "1"))) (just foo (texts (bar ∷ qux ∷ baz ∷ []))) ≡ Ok (just foo (texts (bar ∷ baz ∷ [])))
removed_item = refl

replaced_value : effect (Replace (at baz) (words (codes "boo"))) (two baz (words qux) foo (words bar)) ≡ Ok (two baz (words (codes "boo")) foo (words bar))
replaced_value = refl

moved_value : effect (Move (below foo (codes "waldo")) (below qux (codes "thud"))) (two foo (two bar (words baz) (codes "waldo") (words (codes "fred"))) qux (just (codes "corge") (words (codes "grault"))))
    ≡ Ok (two foo (just bar (words baz)) qux (two (codes "corge") (words (codes "grault")) (codes "thud") (words (codes "fred"))))
moved_value = refl

moved_item : effect (Move (below foo (codes "1")) (below foo (codes "3"))) (just foo (texts (codes "all" ∷ codes "grass" ∷ codes "cows" ∷ codes "eat" ∷ [])))
    ≡ Ok (just foo (texts (codes "all" ∷ codes "cows" ∷ codes "eat" ∷ codes "grass" ∷ [])))
moved_item = refl

test_that_holds : effect (Test (below foo (codes "1")) (words bar)) (just foo (texts (baz ∷ bar ∷ []))) ≡ Ok (just foo (texts (baz ∷ bar ∷ [])))
test_that_holds = refl

test_that_fails : effect (Test (at baz) (words bar)) (just baz (words qux)) ≡ Err Differs
test_that_fails = refl

added_object : effect (Add (at (codes "child")) (just (codes "grandchild") no_members)) (just foo (words bar)) ≡ Ok (two (codes "child") (just (codes "grandchild") no_members) foo (words bar))
added_object = refl

no_parent : effect (Add (below baz (codes "bat")) (words qux)) (just foo (words bar)) ≡ Err NoParent
no_parent = refl

text_is_no_number : effect (Test (at (codes "~1")) (words (codes "10"))) (two (codes "/") (number_at 9) (codes "~1") (number_at 10)) ≡ Err Differs
text_is_no_number = refl

added_at_the_end : effect (Add (below foo (codes "-")) (texts (codes "abc" ∷ codes "def" ∷ []))) (just foo (items (kid (words bar) no_kids)))
    ≡ Ok (just foo (items (kid (words bar) (kid (texts (codes "abc" ∷ codes "def" ∷ [])) no_kids))))
added_at_the_end = refl

copied_value : effect (Copy (at foo) (at bar)) (just foo (words baz)) ≡ Ok (two bar (words baz) foo (words baz))
copied_value = refl

-- the root
root_replaced : effect (Replace [] null) (just foo (words bar)) ≡ Ok null
root_replaced = refl

root_stays : effect (Remove []) (just foo (words bar)) ≡ Err NoParent
root_stays = refl

into_itself : effect (Move (at foo) (below foo bar)) (just foo no_members) ≡ Err IntoItself
into_itself = refl

root_into_itself : effect (Move [] (at foo)) no_members ≡ Err IntoItself
root_into_itself = refl

moved_onto_itself : effect (Move (at foo) (at foo)) (just foo (words bar)) ≡ Ok (just foo (words bar))
moved_onto_itself = refl

nothing_to_remove : effect (Remove (at bar)) (just foo no_members) ≡ Err NoValue
nothing_to_remove = refl

nothing_to_copy : effect (Copy (at bar) (below (codes "no") (codes "where"))) (just foo no_members) ≡ Err NoValue
nothing_to_copy = refl

past_the_end : effect (Add (at (codes "2")) null) (texts (bar ∷ [])) ≡ Err BadIndex
past_the_end = refl

leading_zero : effect (Add (at (codes "00")) null) (texts (bar ∷ [])) ≡ Err BadIndex
leading_zero = refl

behind_the_last : effect (Remove (at (codes "-"))) (texts (bar ∷ [])) ≡ Err NoValue
behind_the_last = refl

-- lists of operations
second_fails : applied 0 (Add (at (codes "a")) (number_at 1) ∷ Remove (at (codes "b")) ∷ []) no_members ≡ Err (Operation 1 NoValue)
second_fails = refl

both_done : applied 0 (Test (at (codes "k")) (words (codes "x")) ∷ Replace (at (codes "k")) (words (codes "y")) ∷ []) (just (codes "k") (words (codes "x"))) ≡ Ok (just (codes "k") (words (codes "y")))
both_done = refl

first_fails : applied 0 (Test (at (codes "k")) (words (codes "z")) ∷ Replace (at (codes "k")) (words (codes "y")) ∷ []) (just (codes "k") (words (codes "x"))) ≡ Err (Operation 0 Differs)
first_fails = refl

-- depth and number of values
flat : depth (texts (bar ∷ baz ∷ [])) ≡ 1
flat = refl

three_values : values (texts (bar ∷ baz ∷ [])) ≡ 3
three_values = refl

-- reading
read_one : patch_of (items (kid (two (codes "op") (words (codes "remove")) (codes "path") (words (codes "/a~1b/0"))) no_kids)) ≡ Ok (Remove (below (codes "a/b") (codes "0")) ∷ [])
read_one = refl

no_list : patch_of (two (codes "op") (words (codes "remove")) (codes "path") (words (codes "/a"))) ≡ Err NotList
no_list = refl

no_value_member : patch_of (items (kid (two (codes "op") (words (codes "add")) (codes "path") (words (codes "/a"))) no_kids)) ≡ Err (BadOperation 0)
no_value_member = refl

null_value : patch_of (items (kid (three (codes "op") (words (codes "add")) (codes "path") (words (codes "/a")) (codes "value") null) no_kids)) ≡ Ok (Add (at (codes "a")) null ∷ [])
null_value = refl
