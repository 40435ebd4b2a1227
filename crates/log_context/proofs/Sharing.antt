-- Threads may share a setup and events, those of a log and a pool, and send what they say of an event.
use Rattle.std.proofs.Crossing as owned
use Rattle.std.proofs.MapsCrossing as mapped
use Rattle.answer_class.specs.contracts.answer.Answer as answer
use Rattle.audit_event.specs.contracts.event.Event as event
use Rattle.base_types.specs.contracts.foundation.text.Text as text
use Rattle.label_select.specs.contracts.selector.Requirement as requirement
use Rattle.node_pool.specs.contracts.pool.Pool as pool
use Rattle.packed_tree.proofs.packed.Packed.TheSendSync as packed
use Rattle.setup_file.proofs.tracked_list.TrackedList.TheSendSync as resources
use Rattle.setup_file.specs.contracts.setup.Setup as setup
use Rattle.setup_file.specs.contracts.setup.SnapshotObject as object
use Rattle.log_context.specs.contracts.log.classifying.Classified as classified
use Rattle.write_groups.proofs.event.LogEvent.TheSendSync as sharing
use Rattle.write_groups.specs.contracts.event.LogEvent as logged
use denote.Param.Send.{IsSend, IsSync, sendable}
use denote.Param.SendFields.{declared_send, declared_sync}

pub event_shared : IsSync event.the_row
event_shared = search (packed.the_sync, sendable, owned.crosses) depth 60 fits 20000

-- field by field
pub setup_shared : IsSync setup.the_row
setup_shared = declared_sync setup.the_type (
  search (sendable, owned.crosses) depth 60 fits 20000,
  (
    search (sendable, owned.crosses) depth 60 fits 20000,
    (
      search (sendable, owned.crosses) depth 60 fits 20000,
      (
        search (sendable, owned.crosses) depth 60 fits 20000,
        (
          search (sendable, owned.crosses) depth 60 fits 20000,
          (
            search (sendable, owned.crosses) depth 60 fits 20000,
            (
              search (sendable, owned.crosses) depth 60 fits 20000,
              (
                resources.the_sync,
                (
                  search (packed.the_sync, sendable, owned.crosses) depth 60 fits 20000,
                  (
                    search (sendable, owned.crosses) depth 60 fits 20000,
                    (
                      search (sendable, owned.crosses) depth 60 fits 20000,
                      (
                        search (packed.the_sync, sendable, owned.crosses) depth 60 fits 20000,
                        tt,
                      ),
                    ),
                  ),
                ),
              ),
            ),
          ),
        ),
      ),
    ),
  ),
)

pub logged_shared : IsSync logged.the_row
logged_shared = search sharing.the_sync depth 20

pub pool_shared : IsSync pool.the_row
pool_shared = search (sendable, owned.crosses, mapped.crosses) depth 60 fits 20000

text_sent : IsSend text.the_row
text_sent = search (sendable, owned.crosses) depth 60 fits 20000

object_sent : IsSend object.the_row
object_sent = search (packed.the_send, text_sent, sendable, owned.crosses) depth 60 fits 20000

requirement_sent : IsSend requirement.the_row
requirement_sent = search (text_sent, sendable, owned.crosses) depth 60 fits 20000

answer_sent : IsSend answer.the_row
answer_sent = search (packed.the_send, text_sent, object_sent, requirement_sent, sendable, owned.crosses) depth 60 fits 20000

-- field by field
pub classified_sent : IsSend classified.the_row
classified_sent = declared_send classified.the_type (
  search (sendable, owned.crosses) depth 60 fits 20000,
  (
    search (sendable, owned.crosses) depth 60 fits 20000,
    (
      search (sendable, owned.crosses) depth 60 fits 20000,
      (
        search (sendable, owned.crosses) depth 60 fits 20000,
        (
          search (text_sent, sendable, owned.crosses) depth 60 fits 20000,
          (
            search (answer_sent, sendable) depth 20,
            (
              search (sendable, owned.crosses) depth 60 fits 20000,
              (
                search (sendable, owned.crosses) depth 60 fits 20000,
                (
                  search (sendable, owned.crosses) depth 60 fits 20000,
                  tt,
                ),
              ),
            ),
          ),
        ),
      ),
    ),
  ),
)
