use Rattle.std.proofs.Crossing as owned
use Rattle.log_context.proofs.PartsSharing.{bodies_shared, parts_shared}
use Rattle.log_context.proofs.build.told_of.Goals as goal
use denote.Param.Send.{sendable}

pub join-faults-requires-send-F : goal.join-faults-requires-send-F
join-faults-requires-send-F g c κs within = search (bodies_shared, parts_shared, owned.send, sendable) depth 20
