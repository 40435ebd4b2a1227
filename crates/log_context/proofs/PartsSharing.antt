-- Threads may share the bodies of a log and what is found of its writes.
use Rattle.std.proofs.Crossing as owned
use Rattle.std.proofs.MapsCrossing as mapped
use Rattle.clouds.specs.contracts.clouds.Clouds as clouds
use Rattle.time_windows.specs.contracts.windows.Windows as windows
use Rattle.log_context.proofs.Sharing.{event_shared, logged_shared, pool_shared, setup_shared}
use Rattle.log_context.specs.contracts.bodies.RequestBodies as bodies
use Rattle.log_context.specs.contracts.build.Parts as parts
use denote.Param.Send.{IsSync, sendable}
use denote.Param.SendFields.{declared_sync}
use denote.Ref.{NamedLft}

pub bodies_shared : (κ : NamedLft) → IsSync (bodies.the_row κ)
bodies_shared κ = search (setup_shared, event_shared, logged_shared, pool_shared, sendable, owned.crosses) depth 60 fits 20000

windows_shared : IsSync windows.the_row
windows_shared = search (sendable, owned.crosses, mapped.crosses) depth 60 fits 5000

clouds_shared : IsSync clouds.the_row
clouds_shared = search (sendable, owned.crosses, mapped.crosses) depth 60 fits 20000

-- field by field
pub parts_shared : IsSync parts.the_row
parts_shared = declared_sync parts.the_type (
  search (sendable, owned.crosses) depth 60 fits 20000,
  (
    search (windows_shared, sendable, owned.crosses) depth 60 fits 20000,
    (
      search (clouds_shared, sendable, owned.crosses) depth 60 fits 20000,
      (
        search (sendable, owned.crosses, mapped.crosses) depth 60 fits 20000,
        (
          search (sendable, owned.crosses) depth 60 fits 20000,
          (search (sendable, owned.crosses, mapped.crosses) depth 60 fits 20000, tt),
        ),
      ),
    ),
  ),
)
