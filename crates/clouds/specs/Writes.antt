-- What clouds are made of: unrecorded writes, and the revisions of recorded ones.
use Rattle.std.specs.Prelude.{List}
use Rattle.clouds.specs.declared.span.KeyRevision.{KeyRevision}
use Rattle.clouds.specs.declared.span.OpaqueSpan.{OpaqueSpan}

-- the unrecorded writes of a log, and the revisions of its recorded ones
pub record Writes : Type 0 where
  pub spans : List OpaqueSpan
  pub revisions : List KeyRevision
