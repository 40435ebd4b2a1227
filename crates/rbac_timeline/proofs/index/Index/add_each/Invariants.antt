use Rattle.std.proofs.Common.{List, ◌++◌, map, take}
use Rattle.rbac_timeline.specs.Indexed.{IsIndexed, Mention, mention_of}
use Rattle.rbac_timeline.proofs.index.Index.add_each.Given as goal

-- the subjects so far are mentioned
abbrev pub invariant-loop-subject : goal.invariant-loop-subject
invariant-loop-subject l =
    (mentions : List Mention) → IsIndexed l.initial.self mentions → IsIndexed l.self (mentions ++ map (mention_of l.fn.key) (take l.subject-index l.subjects))
