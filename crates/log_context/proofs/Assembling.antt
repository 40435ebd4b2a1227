-- What is asked before a log is put together, and what is known once it is.
use Rattle.std.proofs.Common.{◌≡◌, ◌∙◌, ◌≤◌, List, [], ◌++◌, ap, arith, length}
use Rattle.audit_event.specs.declared.event.Event.{Event}
use Rattle.node_pool.specs.Pooled.{Pooled}
use Rattle.setup_file.specs.declared.setup.Setup.{Setup}
use Rattle.log_context.specs.Building.{IsBuildable, IsLoggable}
use Rattle.log_context.specs.LogTrees.{checkpoint_trees, event_trees, object_trees, pooled, stored_trees, with_trees}
use Rattle.log_context.proofs.PoolLemmas.{IsGrown, grown_more}

pub loggable : (setup : Setup) (events : List Event) → IsBuildable setup events → IsLoggable setup events
loggable setup events are =
    let few = are.few in
    record { setup = are.setup; events = are.events; few = omega (arith, few) }

-- a pool into which the trees of the snapshot, of the events and of the checkpoints were put holds those of the log
pub all_grown : (setup : Setup) (events : List Event) (old first second last : Pooled) → IsGrown old first (object_trees setup.snapshot) → IsGrown first second (event_trees setup events)
    → IsGrown second last (checkpoint_trees setup.checkpoints) → IsGrown old last (stored_trees setup events)
all_grown setup events old first second last objects of_events checkpoints =
    grown_more old first last (object_trees setup.snapshot) (event_trees setup events ++ checkpoint_trees setup.checkpoints) objects
    (grown_more first second last (event_trees setup events) (checkpoint_trees setup.checkpoints) of_events checkpoints)

pub pooled_from : (setup : Setup) (events : List Event) (old last : Pooled) → old.trees ≡ [] → IsGrown old last (stored_trees setup events) → last.trees ≡ pooled setup events
pooled_from setup events old last anew grown = grown.holds ∙ ap (λ ts. with_trees ts (stored_trees setup events)) anew

-- a pool holds no more trees than its limit lets it
pub fits_within : (setup : Setup) (events : List Event) (old last : Pooled) → IsGrown old last (stored_trees setup events) → last.trees ≡ pooled setup events → length last.trees ≤ last.limit
    → length (pooled setup events) ≤ old.limit
fits_within setup events old last grown trees room =
    let limit = grown.limit in
    omega (arith, room, limit, ap length trees)
