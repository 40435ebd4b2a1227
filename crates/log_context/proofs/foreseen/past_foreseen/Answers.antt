use Rattle.std.proofs.Crossing as owned
use Rattle.log_context.proofs.TimesSharing.{timed_sent}
use Rattle.log_context.proofs.foreseen.past_foreseen.Goals as goal
use denote.Param.Send.{sendable}

pub join-timed-requires-send-A : goal.join-timed-requires-send-A
join-timed-requires-send-A g c κs within = search (timed_sent, sendable, owned.crosses) depth 60 fits 20000
