-- Worked examples of the definitions.
use Rattle.std.proofs.Common.{◌≡◌, ℕ, pos, negsuc, true, false, List, [], ◌∷◌, Option, Some, None, option_and_then, codes, refl}
use Rattle.serde_json.specs.Data.{number, array, object, no_items, item, no_members, member, unsigned, negative, null as json_null}
use Rattle.base_types.specs.Edits.{put}
use Rattle.base_types.specs.Meaning.{Meaning, null, flag, whole, words, items, members, no_kids, kid, no_fields, field}
use Rattle.base_types.specs.Pointers.{index_of, pointed, pointer_of, pointer_text}
use Rattle.base_types.specs.Stored.{stored}
use Rattle.base_types.specs.Values.{of_data}

abbrev number_at : ℕ → Meaning
number_at n = whole (pos n)

-- the document of RFC 6901 section 5, its members by name
abbrev document : Meaning
document = members (field [] (number_at 0) (field (codes " ") (number_at 7) (field (codes "a/b") (number_at 1) (field (codes "c%d") (number_at 2) (field (codes "e^f") (number_at 3)
    (field (codes "foo") (items (kid (words (codes "bar")) (kid (words (codes "baz")) no_kids)))
    (field (codes "g|h") (number_at 4) (field (codes "i\\j") (number_at 5) (field (codes "k\"l") (number_at 6) (field (codes "m~n") (number_at 8) no_fields))))))))))

abbrev look : List ℕ → Option Meaning
look text = option_and_then (λ tokens. pointed tokens document) (pointer_of text)

-- its table of pointers
whole_document : look [] ≡ Some document
whole_document = refl

a_list : look (codes "/foo") ≡ Some (items (kid (words (codes "bar")) (kid (words (codes "baz")) no_kids)))
a_list = refl

an_item : look (codes "/foo/0") ≡ Some (words (codes "bar"))
an_item = refl

empty_name : look (codes "/") ≡ Some (number_at 0)
empty_name = refl

slash_in_name : look (codes "/a~1b") ≡ Some (number_at 1)
slash_in_name = refl

percent : look (codes "/c%d") ≡ Some (number_at 2)
percent = refl

caret : look (codes "/e^f") ≡ Some (number_at 3)
caret = refl

bar : look (codes "/g|h") ≡ Some (number_at 4)
bar = refl

backslash : look (codes "/i\\j") ≡ Some (number_at 5)
backslash = refl

quote : look (codes "/k\"l") ≡ Some (number_at 6)
quote = refl

space : look (codes "/ ") ≡ Some (number_at 7)
space = refl

tilde_in_name : look (codes "/m~0n") ≡ Some (number_at 8)
tilde_in_name = refl

-- what leads nowhere: the item behind the last, an index with a leading zero, a step below a text
behind : look (codes "/foo/-") ≡ None
behind = refl

leading_zero : look (codes "/foo/00") ≡ None
leading_zero = refl

past : look (codes "/foo/2") ≡ None
past = refl

below_text : look (codes "/foo/0/0") ≡ None
below_text = refl

-- section 4: `~01` is `~1`, and never `/`
order_of_escapes : pointer_of (codes "/~01") ≡ Some (codes "~1" ∷ [])
order_of_escapes = refl

no_slash : pointer_of (codes "a") ≡ None
no_slash = refl

bare_tilde : pointer_of (codes "/a~2") ≡ None
bare_tilde = refl

ending_tilde : pointer_of (codes "/a~") ≡ None
ending_tilde = refl

written : pointer_text (codes "a/b" ∷ [] ∷ codes "m~n" ∷ []) ≡ codes "/a~1b//m~0n"
written = refl

an_index : index_of (codes "10") ≡ Some 10
an_index = refl

no_digits : index_of [] ≡ None
no_digits = refl

a_sign : index_of (codes "+1") ≡ None
a_sign = refl

-- the stored form of an object
stored_object :
    stored (members (field (codes "apiVersion") (words (codes "v1")) (field (codes "data") (members (field (codes "kind") (words (codes "x")) no_fields)) (field (codes "kind") (words (codes "ConfigMap"))
    (field (codes "metadata") (members (field (codes "managedFields") (items no_kids) (field (codes "name") (words (codes "a")) no_fields))) no_fields)))))
    ≡ members (field (codes "data") (members (field (codes "kind") (words (codes "x")) no_fields)) (field (codes "metadata") (members (field (codes "name") (words (codes "a")) no_fields)) no_fields))
stored_object = refl

stored_text : stored (words (codes "kind")) ≡ words (codes "kind")
stored_text = refl

-- a JSON value and back
read : of_data (object (member (codes "a") (array (item (number (unsigned 1)) (item (number (negative (negsuc 0))) (item json_null no_items)))) no_members))
    ≡ Some (members (field (codes "a") (items (kid (number_at 1) (kid (whole (negsuc 0)) (kid null no_kids)))) no_fields))
read = refl

-- a member that is put goes to its place by name, or in place of the one there
put_new : put (codes "b") null (field (codes "a") (flag true) (field (codes "c") (flag false) no_fields)) ≡ field (codes "a") (flag true) (field (codes "b") null (field (codes "c") (flag false) no_fields))
put_new = refl

put_there : put (codes "c") null (field (codes "a") (flag true) (field (codes "c") (flag false) no_fields)) ≡ field (codes "a") (flag true) (field (codes "c") null no_fields)
put_there = refl
