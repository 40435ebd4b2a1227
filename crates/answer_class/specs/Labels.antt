-- Which objects a list with a label selector has (Kubernetes "Labels and Selectors").
use Rattle.std.specs.Prelude.{Bool, true, List, Option, Some, None, codes}
use Rattle.base_types.specs.Meaning.{Meaning}
use Rattle.label_select.specs.Meeting.{matches}
use Rattle.label_select.specs.declared.selector.Requirement.{Requirement}
use Rattle.answer_class.specs.Bodies.{metadata_at}
use Rattle.answer_class.specs.declared.answer.Answer.{Answer}
use Rattle.answer_class.specs.declared.answer.Answer.TheVariants.{Made, Removed, Opaque, Saw, SawNone, SawSome, SawOther, Listed, Free, Aside}

abbrev pub is_selected : Option (List Requirement) → Meaning → Bool
is_selected None tree = true
is_selected (Some selector) tree = matches selector (metadata_at (codes "labels") tree)

-- a list has the tree's object where its selector takes the labels; without a selector it has each
abbrev pub is_listable : Answer → Meaning → Bool
is_listable (Made key revision uid object created) tree = true
is_listable (Removed key uid) tree = true
is_listable (Opaque cover) tree = true
is_listable (Saw key revision uid object) tree = true
is_listable (SawNone key) tree = true
is_listable (SawSome key) tree = true
is_listable (SawOther key) tree = true
is_listable (Listed group resource namespace revision whole items selector) tree = is_selected selector tree
is_listable Free tree = true
is_listable Aside tree = true
