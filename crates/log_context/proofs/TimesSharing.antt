-- Threads may send what is found of a log before any body is judged.
use Rattle.std.proofs.Crossing as owned
use Rattle.std.proofs.MapsCrossing as mapped
use Rattle.clouds.specs.contracts.clouds.Clouds as clouds
use Rattle.past_building.specs.contracts.timed.Timed as timed
use Rattle.time_windows.specs.contracts.windows.Windows as windows
use denote.Param.Send.{IsSend, sendable}
use denote.Param.SendFields.{declared_send}

windows_sent : IsSend windows.the_row
windows_sent = search (sendable, owned.crosses, mapped.crosses) depth 60 fits 20000

clouds_sent : IsSend clouds.the_row
clouds_sent = search (sendable, owned.crosses, mapped.crosses) depth 60 fits 20000

-- field by field
pub timed_sent : IsSend timed.the_row
timed_sent = declared_send timed.the_type (
  search (sendable, owned.crosses) depth 60 fits 20000,
  (
    search (sendable, owned.crosses) depth 60 fits 20000,
    (
      search (windows_sent, sendable) depth 20,
      (search (clouds_sent, sendable) depth 20, tt),
    ),
  ),
)
