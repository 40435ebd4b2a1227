-- The trees of bodies.
use Rattle.std.proofs.Common.{◌≡◌, Some, subst}
use Rattle.base_types.specs.Meaning.{Meaning}
use Rattle.base_types.specs.Values.{InRange}
use Rattle.audit_event.specs.Bodies.{kept, IsSoundBody}
use Rattle.audit_event.specs.declared.event.Body.{Body}
use Rattle.audit_event.specs.declared.event.Body.TheVariants.{Absent, Kept, Unread}

pub kept_in_range : (body : Body) (tree : Meaning) → IsSoundBody body → kept body ≡ Some tree → InRange tree
kept_in_range Absent tree sound e = absurd (cc)
kept_in_range (Kept found) tree sound e = let same : found ≡ tree = cc in subst InRange same sound
kept_in_range Unread tree sound e = absurd (cc)
