-- The orders of keys and of texts, by which they are kept in maps.
use Rattle.std.specs.Prelude.{ℕ, List}
use Rattle.std.specs.Cmp.Lexicographic.{slice_cmp}
use Rattle.std.specs.Ordering.{nat_cmp}
use Rattle.std.specs.declared.cmp.Ordering.{Ordering}
use Rattle.base_types.specs.contracts.kubernetes.key.ObjectKeyOrd.TheImpl as key_ord
use Rattle.base_types.specs.declared.kubernetes.key.ObjectKey.{ObjectKey}

-- keys by their four parts
abbrev pub key_order : ObjectKey → ObjectKey → Ordering
key_order = (key_ord.ghosts).cmp

-- texts by their bytes
abbrev pub text_order : List ℕ → List ℕ → Ordering
text_order = slice_cmp nat_cmp
