-- Threads may share a context.
use Rattle.std.proofs.Crossing as owned
use Rattle.std.proofs.MapsCrossing as mapped
use Rattle.audit_event.specs.contracts.event.Event as event
use Rattle.clouds.specs.contracts.clouds.Clouds as clouds
use Rattle.log_verdict.proofs.OutcomeTrees.{tree_shared}
use Rattle.rbac_timeline.proofs.history.Gaps.TheSendSync as gaps
use Rattle.rbac_timeline.proofs.history.History.TheSendSync as history
use Rattle.rbac_timeline.proofs.index.Index.TheSendSync as index
use Rattle.rbac_timeline.proofs.nameless.Nameless.TheSendSync as nameless
use Rattle.rbac_timeline.proofs.reign_index.ReignIndex.TheSendSync as reigns
use Rattle.rbac_timeline.proofs.unsure.Unsure.TheSendSync as unsure
use Rattle.rbac_timeline.specs.contracts.timeline.Timeline as timeline
use Rattle.rbac_timeline.specs.contracts.timeline.Timeline.TheInside as timed
use Rattle.setup_file.proofs.tracked_list.TrackedList.TheSendSync as resources
use Rattle.setup_file.specs.contracts.setup.Setup as setup
use Rattle.time_windows.specs.contracts.windows.Windows as windows
use Rattle.log_context.proofs.log.Log.TheSendSync as log
use Rattle.log_context.specs.contracts.context.Context as context
use Rattle.log_context.specs.contracts.context.Context.TheInside as inside
use denote.Param.Send.{IsSync, sendable, view_sync}
use denote.Param.SendFields.{declared_sync}

windows_shared : IsSync windows.the_row
windows_shared = search (sendable, owned.crosses, mapped.crosses) depth 60 fits 5000

clouds_shared : IsSync clouds.the_row
clouds_shared = search (sendable, owned.crosses, mapped.crosses) depth 60 fits 20000

event_shared : IsSync event.the_row
event_shared = search (tree_shared, sendable, owned.crosses, mapped.crosses) depth 60 fits 20000

-- field by field
setup_shared : IsSync setup.the_row
setup_shared = declared_sync setup.the_type (
  search (sendable, owned.crosses) depth 60 fits 20000,
  (
    search (sendable, owned.crosses) depth 60 fits 20000,
    (
      search (sendable, owned.crosses) depth 60 fits 20000,
      (
        search (sendable, owned.crosses) depth 60 fits 20000,
        (
          search (sendable, owned.crosses) depth 60 fits 20000,
          (
            search (sendable, owned.crosses) depth 60 fits 20000,
            (
              search (sendable, owned.crosses) depth 60 fits 20000,
              (
                resources.the_sync,
                (
                  search (tree_shared, sendable, owned.crosses) depth 60 fits 20000,
                  (
                    search (sendable, owned.crosses) depth 60 fits 20000,
                    (
                      search (sendable, owned.crosses) depth 60 fits 20000,
                      (
                        search (tree_shared, sendable, owned.crosses) depth 60 fits 20000,
                        tt,
                      ),
                    ),
                  ),
                ),
              ),
            ),
          ),
        ),
      ),
    ),
  ),
)

timed_shared : IsSync timed.the_row
timed_shared = declared_sync timed.the_type (
  search (history.the_sync, sendable, owned.crosses, mapped.crosses) depth 60 fits 20000,
  (
    search (gaps.the_sync, sendable, owned.crosses, mapped.crosses) depth 60 fits 20000,
    (
      search (clouds_shared, sendable) depth 20,
      (
        search index.the_sync depth 20,
        (
          search nameless.the_sync depth 20,
          (
            search unsure.the_sync depth 20,
            (
              search reigns.the_sync depth 20,
              (
                search (sendable, owned.crosses) depth 60 fits 20000,
                (
                  search (sendable, owned.crosses) depth 60 fits 20000,
                  (
                    search (sendable, owned.crosses) depth 60 fits 20000,
                    (
                      search (sendable, owned.crosses) depth 60 fits 20000,
                      (
                        search (sendable, owned.crosses) depth 60 fits 20000,
                        tt,
                      ),
                    ),
                  ),
                ),
              ),
            ),
          ),
        ),
      ),
    ),
  ),
)

timeline_shared : IsSync timeline.the_row
timeline_shared = search (timed_shared, view_sync)

fields_shared : IsSync inside.the_row
fields_shared = declared_sync inside.the_type (
  search (setup_shared, sendable, owned.crosses) depth 60 fits 20000,
  (
    search (event_shared, sendable, owned.crosses) depth 60 fits 20000,
    (
      search (sendable, owned.crosses, mapped.crosses) depth 60 fits 20000,
      (
        search log.the_sync depth 20,
        (
          search (sendable, owned.crosses) depth 60 fits 20000,
          (
            search (sendable, owned.crosses, mapped.crosses) depth 60 fits 20000,
            (
              search (windows_shared, sendable, owned.crosses) depth 60 fits 20000,
              (
                search (clouds_shared, sendable, owned.crosses) depth 60 fits 20000,
                (
                  search (sendable, owned.crosses, mapped.crosses) depth 60 fits 20000,
                  (
                    search (timeline_shared, sendable) depth 20,
                    (
                      search (sendable, owned.crosses) depth 60 fits 20000,
                      tt,
                    ),
                  ),
                ),
              ),
            ),
          ),
        ),
      ),
    ),
  ),
)

pub context_shared : IsSync context.the_row
context_shared = search (fields_shared, view_sync)
