-- The bytes of an object's stored form, member by member.
use Rattle.std.specs.Prelude.{ℕ, List, [], ◌++◌, codes, bytes_eq, if◌then◌else◌}
use Rattle.base_types.specs.Meaning.{Meaning, Fields}
use Rattle.base_types.specs.Stored.{without, fields_without, fields_with}
use Rattle.packed_tree.specs.Encoding.{encode}
use Rattle.packed_tree.specs.Frames.{framed}

abbrev pub member_bytes : List ℕ → Meaning → List ℕ
member_bytes k t = framed k ++ framed (encode t)

-- a member where those of this name are left out
abbrev pub other_bytes : List ℕ → List ℕ → Meaning → List ℕ
other_bytes name k t = if bytes_eq k name then [] else member_bytes k t

-- a member that the stored form has
abbrev pub changed_bytes : List ℕ → Meaning → List ℕ
changed_bytes k t =
    if bytes_eq k (codes "metadata") then member_bytes k (without (codes "managedFields") t) else member_bytes k t

-- a member, or nothing where the stored form lacks it
abbrev pub stored_bytes : List ℕ → Meaning → List ℕ
stored_bytes k t =
    if bytes_eq k (codes "apiVersion") then []
    else (if bytes_eq k (codes "kind") then [] else changed_bytes k t)

-- the members of an object's stored form
abbrev pub stored_fields : Fields → Fields
stored_fields ms =
    fields_with (codes "metadata") (without (codes "managedFields")) (fields_without (codes "kind") (fields_without (codes "apiVersion") ms))
