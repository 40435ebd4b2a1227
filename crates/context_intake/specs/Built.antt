-- What a context tells that was built, or why it wasn't.
use Rattle.std.specs.Prelude.{◌≡◌, Result, Ok, Err}
use Rattle.log_context.specs.Known.{Known}
use Rattle.log_context.specs.declared.log.fault.BuildFault.{BuildFault}
use Rattle.log_context.specs.declared.log.fault.BuildFault.TheVariants.{PoolFull, OutOfMemory}
use Rattle.context_intake.specs.declared.refusal.Limit.TheVariants.{PoolSize}
use Rattle.context_intake.specs.declared.refusal.Refusal.TheVariants.{PastLimit}
use Rattle.context_intake.specs.declared.told.Intake.{Intake}
use Rattle.context_intake.specs.declared.told.Intake.TheVariants.{Context, Refused}

-- a full pool is a refusal; want of memory tells nothing
abbrev pub IsBuiltAs : Result Known BuildFault → Intake → Type 0
IsBuiltAs (Ok known) told = told ≡ Context known
IsBuiltAs (Err PoolFull) told = told ≡ Refused (PastLimit PoolSize)
IsBuiltAs (Err OutOfMemory) told = ⊥
