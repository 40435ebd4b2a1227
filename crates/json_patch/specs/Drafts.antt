-- What one level of a draft stands for: the same as that of a tree.
use Rattle.base_types.specs.Meaning.{Meaning, null, flag, whole, words, items, members, kids_of, fields_of}
use Rattle.json_patch.specs.declared.draft.DraftNode.{DraftNode}
use Rattle.json_patch.specs.declared.draft.DraftNode.TheVariants.{Null, Flag, Whole, Words, Items, Members}

abbrev pub drafted : DraftNode → Meaning
drafted Null = null
drafted (Flag b) = flag b
drafted (Whole z) = whole z
drafted (Words s) = words s
drafted (Items ts) = items (kids_of ts)
drafted (Members ms) = members (fields_of ms)
