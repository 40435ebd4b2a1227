-- The stored form of a value: it is sound, and its bytes are put member by member.
use Rattle.std.proofs.Common.{◌≡◌, ℕ, Bool, true, false, List, [], ◌∷◌, ◌++◌, Some, None, refl, sym, ap, subst, ◌∙◌, append_assoc}
use Rattle.std.specs.Prelude.{codes, bytes_eq, filter, if◌then◌else◌}
use Rattle.std.specs.Ordering.{nat_cmp}
use Rattle.std.specs.Cmp.Lexicographic.{slice_cmp}
use Rattle.std.specs.List.Sorted.{IsStrictlySortedBy}
use Rattle.base_types.specs.Meaning.{Meaning, null, flag, whole, words, items, members, Fields, no_fields, field, fields_of, fields_list}
use Rattle.base_types.specs.Names.{names, AreSorted}
use Rattle.base_types.specs.Parts.{members_of}
use Rattle.base_types.specs.Stored.{stored, without, with, is_other, fields_without, fields_with}
use Rattle.base_types.proofs.Lists.{fields_list-fields_of}
use Rattle.base_types.proofs.Removing.{sorted_others, fields_of-filter}
use Rattle.packed_tree.specs.Encoding.{encode, encode_fields}
use Rattle.packed_tree.specs.Frames.{framed}
use Rattle.packed_tree.specs.Sound.{IsSound, AreFieldsSound}
use Rattle.packed_tree.specs.StoredBytes.{member_bytes, other_bytes, changed_bytes, stored_bytes, stored_fields}
use Rattle.packed_tree.proofs.Steps.{fields_of-fields_list}

-- ---- it is sound

without_filter : (name : List ℕ) (ms : Fields) → fields_list (fields_without name ms) ≡ filter (is_other name) (fields_list ms)
without_filter name ms =
    sym (ap (λ fs. fields_list (fields_without name fs)) (fields_of-fields_list ms)) ∙ sym (ap fields_list (fields_of-filter name (fields_list ms))) ∙ fields_list-fields_of (filter (is_other name) (fields_list ms))

without_sorted : (name : List ℕ) (ms : Fields) → AreSorted (fields_list ms) → AreSorted (fields_list (fields_without name ms))
without_sorted name ms s = subst AreSorted (sym (without_filter name ms)) (sorted_others name (fields_list ms) s)

with_names : (name : List ℕ) (change : Meaning → Meaning) (ms : Fields) → names (fields_list (fields_with name change ms)) ≡ names (fields_list ms)
with_names name change no_fields = refl
with_names name change (field k t ms) = ap (λ ns. k ∷ ns) (with_names name change ms)

with_sorted : (name : List ℕ) (change : Meaning → Meaning) (ms : Fields) → AreSorted (fields_list ms) → AreSorted (fields_list (fields_with name change ms))
with_sorted name change ms s = subst (IsStrictlySortedBy (slice_cmp nat_cmp)) (sym (with_names name change ms)) s

fields_without_sound : (name : List ℕ) (ms : Fields) → AreFieldsSound ms → AreFieldsSound (fields_without name ms)
fields_without_sound name no_fields s = tt
fields_without_sound name (field k t ms) s = by (bytes_eq k name) (fields_without_sound name ms s.2)
  where
    by : (b : Bool) → AreFieldsSound (fields_without name ms) → AreFieldsSound (if b then fields_without name ms else field k t (fields_without name ms))
    by true rest = rest
    by false rest = (s.0, s.1, rest)

without_sound : (name : List ℕ) (t : Meaning) → IsSound t → IsSound (without name t)
without_sound name null s = s
without_sound name (flag b) s = s
without_sound name (whole z) s = s
without_sound name (words t) s = s
without_sound name (items ts) s = s
without_sound name (members ms) s = (fields_without_sound name ms s.0, without_sorted name ms s.1)

fields_with_sound : (name : List ℕ) (change : Meaning → Meaning) → ((t : Meaning) → IsSound t → IsSound (change t)) → (ms : Fields) → AreFieldsSound ms → AreFieldsSound (fields_with name change ms)
fields_with_sound name change keeps no_fields s = tt
fields_with_sound name change keeps (field k t ms) s = (s.0, by (bytes_eq k name), fields_with_sound name change keeps ms s.2)
  where
    by : (b : Bool) → IsSound (if b then change t else t)
    by true = keeps t s.1
    by false = s.1

with_sound : (name : List ℕ) (change : Meaning → Meaning) → ((t : Meaning) → IsSound t → IsSound (change t)) → (t : Meaning) → IsSound t → IsSound (with name change t)
with_sound name change keeps null s = s
with_sound name change keeps (flag b) s = s
with_sound name change keeps (whole z) s = s
with_sound name change keeps (words t) s = s
with_sound name change keeps (items ts) s = s
with_sound name change keeps (members ms) s = (fields_with_sound name change keeps ms s.0, with_sorted name change ms s.1)

pub stored_sound : (t : Meaning) → IsSound t → IsSound (stored t)
stored_sound t s =
    let named = without_sound (codes "apiVersion") t s in
    let kept = without_sound (codes "kind") (without (codes "apiVersion") t) named in
    with_sound (codes "metadata") (without (codes "managedFields")) (without_sound (codes "managedFields")) (without (codes "kind") (without (codes "apiVersion") t)) kept

-- ---- of a value that is no object, and of one that is

pub without_flat : (name : List ℕ) (t : Meaning) → None ≡ members_of t → without name t ≡ t
without_flat name null e = refl
without_flat name (flag b) e = refl
without_flat name (whole z) e = refl
without_flat name (words s) e = refl
without_flat name (items ts) e = refl
without_flat name (members ms) e = absurd (cc)

pub stored_flat : (t : Meaning) → None ≡ members_of t → stored t ≡ t
stored_flat null e = refl
stored_flat (flag b) e = refl
stored_flat (whole z) e = refl
stored_flat (words s) e = refl
stored_flat (items ts) e = refl
stored_flat (members ms) e = absurd (cc)

is_object : (t : Meaning) (ms : List (List ℕ × Meaning)) → Some ms ≡ members_of t → members (fields_of ms) ≡ t
is_object null ms e = absurd (cc)
is_object (flag b) ms e = absurd (cc)
is_object (whole z) ms e = absurd (cc)
is_object (words s) ms e = absurd (cc)
is_object (items ts) ms e = absurd (cc)
is_object (members fs) ms e =
    let same : ms ≡ fields_list fs = cc in
    ap (λ l. members (fields_of l)) same ∙ ap members (fields_of-fields_list fs)

pub object_without : (name : List ℕ) (t : Meaning) (ms : List (List ℕ × Meaning)) (old mid : List ℕ) → Some ms ≡ members_of t → mid ≡ old ++ 7 ∷ []
    → mid ++ encode_fields (fields_without name (fields_of ms)) ≡ old ++ encode (without name t)
object_without name t ms old mid is put =
    let more = encode_fields (fields_without name (fields_of ms)) in
    ap (λ xs. xs ++ more) put ∙ append_assoc old (7 ∷ []) more ∙ ap (λ u. old ++ encode (without name u)) (is_object t ms is)

pub object_stored : (t : Meaning) (ms : List (List ℕ × Meaning)) (old mid : List ℕ) → Some ms ≡ members_of t → mid ≡ old ++ 7 ∷ []
    → mid ++ encode_fields (stored_fields (fields_of ms)) ≡ old ++ encode (stored t)
object_stored t ms old mid is put =
    let more = encode_fields (stored_fields (fields_of ms)) in
    ap (λ xs. xs ++ more) put ∙ append_assoc old (7 ∷ []) more ∙ ap (λ u. old ++ encode (stored u)) (is_object t ms is)

-- ---- the bytes of its first member

member_first : (k : List ℕ) (t : Meaning) (ms : Fields) → encode_fields (field k t ms) ≡ member_bytes k t ++ encode_fields ms
member_first k t ms = sym (append_assoc (framed k) (framed (encode t)) (encode_fields ms))

pub others_first : (name k : List ℕ) (t : Meaning) (ms : Fields) → encode_fields (fields_without name (field k t ms)) ≡ other_bytes name k t ++ encode_fields (fields_without name ms)
others_first name k t ms = by (bytes_eq k name)
  where
    by : (b : Bool) → encode_fields (if b then fields_without name ms else field k t (fields_without name ms)) ≡ (if b then [] else member_bytes k t) ++ encode_fields (fields_without name ms)
    by true = refl
    by false = member_first k t (fields_without name ms)

abbrev changed : Fields → Fields
changed ms = fields_with (codes "metadata") (without (codes "managedFields")) ms

metadata_first : (k : List ℕ) (t : Meaning) (ms : Fields) (b : Bool)
    → encode_fields (field k (if b then without (codes "managedFields") t else t) ms) ≡ (if b then member_bytes k (without (codes "managedFields") t) else member_bytes k t) ++ encode_fields ms
metadata_first k t ms true = member_first k (without (codes "managedFields") t) ms
metadata_first k t ms false = member_first k t ms

kind_first : (k : List ℕ) (t : Meaning) (ms : Fields) (b : Bool) → encode_fields (changed (if b then ms else field k t ms)) ≡ (if b then [] else changed_bytes k t) ++ encode_fields (changed ms)
kind_first k t ms true = refl
kind_first k t ms false = metadata_first k t (changed ms) (bytes_eq k (codes "metadata"))

version_first : (k : List ℕ) (t : Meaning) (ms : Fields) (b : Bool)
    → encode_fields (changed (fields_without (codes "kind") (if b then ms else field k t ms))) ≡ (if b then [] else (if bytes_eq k (codes "kind") then [] else changed_bytes k t)) ++ encode_fields (changed (fields_without (codes "kind") ms))
version_first k t ms true = refl
version_first k t ms false = kind_first k t (fields_without (codes "kind") ms) (bytes_eq k (codes "kind"))

pub stored_first : (k : List ℕ) (t : Meaning) (ms : Fields) → encode_fields (stored_fields (field k t ms)) ≡ stored_bytes k t ++ encode_fields (stored_fields ms)
stored_first k t ms = version_first k t (fields_without (codes "apiVersion") ms) (bytes_eq k (codes "apiVersion"))

-- a piece that is put is one of those that were still to be put
pub piece_put : (full out new piece all more : List ℕ) → full ≡ out ++ all → all ≡ piece ++ more → new ≡ out ++ piece → full ≡ new ++ more
piece_put full out new piece all more is first put =
    is ∙ ap (λ xs. out ++ xs) first ∙ sym (append_assoc out piece more) ∙ ap (λ xs. xs ++ more) (sym put)
