use Rattle.std.proofs.Crossing as owned
use Rattle.log_context.proofs.Sharing.{classified_sent, event_shared, setup_shared}
use Rattle.log_context.proofs.log.event.add_and_classify.Goals as goal
use denote.Param.Send.{sendable}

pub join_mut-classified-requires-send-F : goal.join_mut-classified-requires-send-F
join_mut-classified-requires-send-F g c κs within = search (event_shared, setup_shared, owned.send, sendable) depth 20

pub join_mut-classified-requires-send-A : goal.join_mut-classified-requires-send-A
join_mut-classified-requires-send-A g c κs within = search (classified_sent, sendable, owned.crosses) depth 60 fits 20000
