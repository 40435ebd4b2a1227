-- What one level of a tree stands for.
use Rattle.base_types.specs.Meaning.{Meaning, null, flag, whole, words, items, members, kids_of, fields_of}
use Rattle.base_types.specs.declared.json.tree.Node.{Node}
use Rattle.base_types.specs.declared.json.tree.Node.TheVariants.{Null, Flag, Whole, Words, Items, Members}

abbrev pub meaning_of : Node → Meaning
meaning_of Null = null
meaning_of (Flag b) = flag b
meaning_of (Whole z) = whole z
meaning_of (Words s) = words s
meaning_of (Items ts) = items (kids_of ts)
meaning_of (Members ms) = members (fields_of ms)
