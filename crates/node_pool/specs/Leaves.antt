-- Values that have nothing within them.
use Rattle.std.specs.Prelude.{Option, Some, None}
use Rattle.base_types.specs.Meaning.{Meaning, null, flag, whole, words, items, members}
use Rattle.node_pool.specs.Flat.{Flat, flat_null, flat_flag, flat_whole, flat_words}

-- the level of such a value
abbrev pub leaf_of : Meaning → Option Flat
leaf_of null = Some flat_null
leaf_of (flag b) = Some (flat_flag b)
leaf_of (whole z) = Some (flat_whole z)
leaf_of (words s) = Some (flat_words s)
leaf_of (items ts) = None
leaf_of (members ms) = None
