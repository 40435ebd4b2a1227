use Rattle.std.proofs.Common.{◌∙◌, Vec}
use Rattle.std.proofs.Crossing as owned
use Rattle.rayon.proofs.ToStd.{slice-AllZip}
use Rattle.base_types.specs.declared.foundation.memory.OutOfMemory.{OutOfMemory}
use Rattle.log_context.specs.declared.log.classifying.Classified.{Classified}
use Rattle.log_context.specs.Classified.{IsClassified}
use Rattle.log_context.proofs.Gathered.{AnswersItem, all_answered}
use Rattle.log_context.proofs.Sharing.{classified_sent, event_shared, setup_shared}
use Rattle.log_context.proofs.log.classifying.classify_all.Goals as goal
use denote.Param.Send.{sendable}

pub map-requires-send-F : goal.map-requires-send-F
map-requires-send-F g c κs within = search (setup_shared, sendable, owned.crosses) depth 60 fits 20000

pub map-requires-sync-F : goal.map-requires-sync-F
map-requires-sync-F g c κs within = search (setup_shared, sendable, owned.crosses) depth 60 fits 20000

pub collect-requires-send-Self : goal.collect-requires-send-Self
collect-requires-send-Self g c κs within = search (event_shared, setup_shared, sendable, owned.crosses) depth 60 fits 20000

pub map-requires-send-U : goal.map-requires-send-U
map-requires-send-U g c κs within = search (classified_sent, sendable, owned.crosses) depth 60 fits 20000

pub collect-requires-send-Self-Item : goal.collect-requires-send-Self-Item
collect-requires-send-Self-Item g c κs within = search (classified_sent, sendable, owned.crosses) depth 60 fits 20000

pub collect-requires-send-C : goal.collect-requires-send-C
collect-requires-send-C g c κs within = search (classified_sent, sendable, owned.crosses) depth 60 fits 20000

pub returns : goal.returns
returns g c =
    let setup = c.args.setup.now in
    let events = c.args.events.now in
    let chain = rw (c.map.ensures.base, c.map.ensures.f, c.with_min_len.ensures.base) at c.in_ok-gathered.ensures in
    all_answered OutOfMemory (IsClassified setup) (λ (all : Vec Classified _). all.items) events chain.0 c.in_ok-gathered.gathered
    (slice-AllZip chain.1.0 events (chain.1.1 ∙ c.par_iter.ensures) (AnswersItem OutOfMemory (IsClassified setup)) chain.0 chain.1.2) chain.2
