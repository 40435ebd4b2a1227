use Rattle.std.proofs.Common.{◌∙◌, Err, ap}
use Rattle.log_context.specs.declared.log.fault.BuildFault.TheVariants.{PoolFull}
use Rattle.log_context.proofs.Refusing.{same_fault}
use Rattle.log_context.proofs.context.Context.build_within.Goals as goal
use denote.Param.Send.{sendable}

pub returns-in-Err-clause-full : goal.returns-in-Err-clause-full
returns-in-Err-clause-full g c = λ refused. c.gather.ensures.full (c.in-Err.is ∙ ap Err (same_fault c.in-Err.fault PoolFull refused))

pub gather-requires : goal.gather-requires
gather-requires g c = (search sendable depth 20, record { setup = c.requires.setup; events = c.requires.events; lines = c.requires.lines; few = c.requires.few })

pub returns-in-Ok-clause-built : goal.returns-in-Ok-clause-built
returns-in-Ok-clause-built g c = record { setup = c.joined.ensures.setup; events = c.joined.ensures.events; told = c.joined.ensures.told; fits = c.in-Ok.ensures.fits }
