-- The table of RFC 7386, now RFC 7396, appendix A, and its section 3.
use Rattle.std.proofs.Common.{◌≡◌, ℕ, List, Some, None, codes, refl, pos}
use Rattle.base_types.specs.Meaning.{Meaning, null, whole, words, items, members, no_kids, kid, no_fields, field}
use Rattle.merge_patch.specs.Merging.{merged}

abbrev text : List ℕ → Meaning
text s = words s

abbrev a : List ℕ
a = codes "a"

abbrev b : List ℕ
b = codes "b"

abbrev c : List ℕ
c = codes "c"

abbrev no_members : Meaning
no_members = members no_fields

abbrev just : List ℕ → Meaning → Meaning
just name value = members (field name value no_fields)

abbrev two : List ℕ → Meaning → List ℕ → Meaning → Meaning
two name value other more = members (field name value (field other more no_fields))

abbrev list_of : Meaning → Meaning
list_of t = items (kid t no_kids)

abbrev list_of_two : Meaning → Meaning → Meaning
list_of_two t u = items (kid t (kid u no_kids))

abbrev number_at : ℕ → Meaning
number_at n = whole (pos n)

replaced_value : merged (Some (just a (text b))) (just a (text c)) ≡ just a (text c)
replaced_value = refl

added : merged (Some (just a (text b))) (just b (text c)) ≡ two a (text b) b (text c)
added = refl

removed : merged (Some (just a (text b))) (just a null) ≡ no_members
removed = refl

removed_beside : merged (Some (two a (text b) b (text c))) (just a null) ≡ just b (text c)
removed_beside = refl

list_replaced : merged (Some (just a (list_of (text b)))) (just a (text c)) ≡ just a (text c)
list_replaced = refl

replaced_by_list : merged (Some (just a (text c))) (just a (list_of (text b))) ≡ just a (list_of (text b))
replaced_by_list = refl

below : merged (Some (just a (just b (text c)))) (just a (two b (text (codes "d")) c null)) ≡ just a (just b (text (codes "d")))
below = refl

lists_are_not_merged : merged (Some (just a (list_of (just b (text c))))) (just a (list_of (number_at 1))) ≡ just a (list_of (number_at 1))
lists_are_not_merged = refl

list_for_list : merged (Some (list_of_two (text a) (text b))) (list_of_two (text c) (text (codes "d"))) ≡ list_of_two (text c) (text (codes "d"))
list_for_list = refl

list_for_object : merged (Some (just a (text b))) (list_of (text c)) ≡ list_of (text c)
list_for_object = refl

null_for_object : merged (Some (just a (text (codes "foo")))) null ≡ null
null_for_object = refl

text_for_object : merged (Some (just a (text (codes "foo")))) (text (codes "bar")) ≡ text (codes "bar")
text_for_object = refl

null_that_was_there : merged (Some (just (codes "e") null)) (just a (number_at 1)) ≡ two a (number_at 1) (codes "e") null
null_that_was_there = refl

object_for_list : merged (Some (list_of_two (number_at 1) (number_at 2))) (two a (text b) c null) ≡ just a (text b)
object_for_list = refl

nulls_far_below : merged (Some no_members) (just a (just (codes "bb") (just (codes "ccc") null))) ≡ just a (just (codes "bb") no_members)
nulls_far_below = refl

-- a target that isn't there
no_target : merged None (two a null b (number_at 1)) ≡ just b (number_at 1)
no_target = refl

-- one member removed, one left, one made of nulls
nothing_but_nulls : merged (Some (two a (number_at 1) b (number_at 2))) (two a null c (just (codes "d") null)) ≡ two b (number_at 2) c no_members
nothing_but_nulls = refl
