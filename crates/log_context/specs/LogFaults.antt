-- Why a log isn't put together.
use Rattle.node_pool.specs.declared.fault.PoolFault.{PoolFault}
use Rattle.node_pool.specs.declared.fault.PoolFault.TheVariants.{Full, OutOfMemory}
use Rattle.log_context.specs.declared.log.fault.BuildFault.{BuildFault}
use Rattle.log_context.specs.declared.log.fault.BuildFault.TheVariants.{PoolFull, OutOfMemory as Refused}

abbrev pub fault_for : PoolFault → BuildFault
fault_for Full = PoolFull
fault_for OutOfMemory = Refused
