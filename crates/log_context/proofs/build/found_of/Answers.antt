use Rattle.std.proofs.Common.{◌<◌, ◌^◌, List, length, map, refl, sym, ap, ◌∙◌, subst, arith}
use Rattle.std.specs.Prelude.{AllPairs}
use Rattle.history_model.specs.Histories.{History}
use Rattle.past_building.specs.Found.{HasFound, IsPastOf}
use Rattle.past_building.specs.Written.{IsSnapshot}
use Rattle.past_building.specs.declared.log_past.LogPast.{LogPast}
use Rattle.write_groups.specs.Modelled.{event_of}
use Rattle.write_groups.specs.declared.event.Item.{Item}
use Rattle.write_groups.specs.declared.event.LogEvent.{LogEvent}
use Rattle.past_building.specs.Hidden.{unrecorded_in}
use Rattle.rbac_timeline.specs.Known.{known_of as roles_of}
use Rattle.base_types.specs.Meaning.{Meaning}
use Rattle.base_types.specs.Values.{InRange}
use Rattle.std.specs.Prelude.{[], All}
use Rattle.log_context.proofs.Built.{are_rising, few_in_log, few_logged, has_bodies, has_times, have_codes, have_ends, have_nodes, is_past, is_readable, is_snapshot, kept_of, known_of, moments_are}
use Rattle.log_context.proofs.Ranging.{numbers_are}
use Rattle.log_context.proofs.Sharing.{event_shared, logged_shared, pool_shared, setup_shared}
use Rattle.log_context.specs.Gathering.{past_with}
use Rattle.log_context.specs.Histories.{body_test, history_of}
use Rattle.std.proofs.Crossing as owned
use denote.Param.Send.{sendable}
use Rattle.log_context.proofs.build.found_of.Goals as goal

pub past_foreseen-requires-sync-B : goal.past_foreseen-requires-sync-B
past_foreseen-requires-sync-B g c = λ κs lives. search (setup_shared, event_shared, logged_shared, pool_shared, sendable, owned.crosses) depth 60 fits 20000

pub past_foreseen-requires-clause-few : goal.past_foreseen-requires-clause-few
past_foreseen-requires-clause-few g c κs _ = subst (λ (l : List LogEvent). length l < 2 ^ 32) (sym c.as_slice-logged.ensures)
    (few_logged c.args.setup.now c.args.events.now c.args.pool.now.trees c.args.log.now c.requires.log c.requires.buildable.few)

pub past_foreseen-requires-clause-lines : goal.past_foreseen-requires-clause-lines
past_foreseen-requires-clause-lines g c κs _ = subst (λ (l : List LogEvent). AllPairs (λ (a b : LogEvent). a.line < b.line) l) (sym c.as_slice-logged.ensures) c.requires.rising.rising

pub past_foreseen-requires-clause-snapshot : goal.past_foreseen-requires-clause-snapshot
past_foreseen-requires-clause-snapshot g c κs _ =
    let setup = c.args.setup.now in
    let start = c.requires.buildable.setup.snapshot in
    subst (IsSnapshot setup.start) (sym c.as_slice-snapshot.ensures)
    (is_snapshot setup.start c.args.pool.now.trees setup.snapshot c.args.log.now.snapshot c.requires.log.snapshot start.revisions start.begun)

pub parts_of-requires-clause-rising : goal.parts_of-requires-clause-rising
parts_of-requires-clause-rising g c =
    let setup = c.args.setup.now in
    let events = c.args.events.now in
    let trees = c.args.pool.now.trees in
    let log = c.args.log.now in
    let found = c.in_ok-found.found in
    let roles = roles_of [] [] [] in
    let right = is_past setup events trees log found (kept_of found) roles refl refl c.as_slice-snapshot.result.now c.as_slice-recorded.result.now c.as_slice-logged.result.now
    c.as_slice-snapshot.ensures c.as_slice-recorded.ensures c.as_slice-logged.ensures c.in_ok-found.ensures.past in
    are_rising setup events trees log found (kept_of found) roles refl refl right

pub parts_of-requires-clause-ends : goal.parts_of-requires-clause-ends
parts_of-requires-clause-ends g c =
    let setup = c.args.setup.now in
    let events = c.args.events.now in
    let trees = c.args.pool.now.trees in
    let log = c.args.log.now in
    let found = c.in_ok-found.found in
    let roles = roles_of [] [] [] in
    let right = is_past setup events trees log found (kept_of found) roles refl refl c.as_slice-snapshot.result.now c.as_slice-recorded.result.now c.as_slice-logged.result.now
    c.as_slice-snapshot.ensures c.as_slice-recorded.ensures c.as_slice-logged.ensures c.in_ok-found.ensures.past in
    have_ends setup events trees log found (kept_of found) roles refl refl right

pub parts_of-requires-clause-few_versions : goal.parts_of-requires-clause-few_versions
parts_of-requires-clause-few_versions g c =
    let room = few_in_log c.args.setup.now c.args.events.now c.args.pool.now.trees c.args.log.now c.requires.log c.requires.buildable.few in
    let bound = c.in_ok-found.ensures.few_found.versions in
    let items = ap (λ (l : List Item). length l) c.as_slice-snapshot.ensures in
    let logged = ap (λ (l : List LogEvent). length l) c.as_slice-logged.ensures in
    omega (arith, room, bound, items, logged)

pub parts_of-requires-clause-few_removals : goal.parts_of-requires-clause-few_removals
parts_of-requires-clause-few_removals g c =
    let room = few_logged c.args.setup.now c.args.events.now c.args.pool.now.trees c.args.log.now c.requires.log c.requires.buildable.few in
    let bound = c.in_ok-found.ensures.few_found.removals in
    let logged = ap (λ (l : List LogEvent). length l) c.as_slice-logged.ensures in
    omega (arith, room, bound, logged)

pub told_of-requires-clause-start : goal.told_of-requires-clause-start
told_of-requires-clause-start g c κs _ = sym (ap (λ (past : LogPast). past.windows.start) (sym c.in_ok-parts.ensures.same) ∙ c.in_ok-found.ensures.start)

pub told_of-requires-clause-few : goal.told_of-requires-clause-few
told_of-requires-clause-few g c κs _ = subst (λ (l : List LogEvent). length l < 2 ^ 32) (sym c.as_slice-logged.ensures)
    (few_logged c.args.setup.now c.args.events.now c.args.pool.now.trees c.args.log.now c.requires.log c.requires.buildable.few)

pub told_of-requires-clause-nodes : goal.told_of-requires-clause-nodes
told_of-requires-clause-nodes g c κs _ =
    let setup = c.args.setup.now in
    let events = c.args.events.now in
    let trees = c.args.pool.now.trees in
    let log = c.args.log.now in
    let found = past_with c.in_ok-parts.parts in
    let kept = c.in_ok-parts.parts.past in
    let roles = roles_of [] [] [] in
    let told = c.as_slice-recorded.ensures in
    let logged = c.as_slice-logged.ensures in
    let says = subst (λ (past : LogPast). (h : History) → HasFound setup.start c.as_slice-snapshot.result.now c.as_slice-logged.result.now
    (body_test setup c.as_slice-recorded.result.now c.as_slice-logged.result.now trees) past h → IsPastOf c.as_slice-logged.result.now past h) c.in_ok-parts.ensures.same c.in_ok-found.ensures.past in
    let right = is_past setup events trees log found kept roles refl refl c.as_slice-snapshot.result.now c.as_slice-recorded.result.now c.as_slice-logged.result.now
    c.as_slice-snapshot.ensures told logged says in
    have_nodes setup events trees log found kept roles refl refl right c.requires.rising c.requires.log

pub returns : goal.returns
returns g c =
    let setup = c.args.setup.now in
    let events = c.args.events.now in
    let trees = c.args.pool.now.trees in
    let log = c.args.log.now in
    let found = past_with c.in_ok-parts.parts in
    let kept = c.in_ok-parts.parts.past in
    let roles = c.in-Ok.told.timeline in
    let told = c.as_slice-recorded.ensures in
    let logged = c.as_slice-logged.ensures in
    let says = subst (λ (past : LogPast). (h : History) → HasFound setup.start c.as_slice-snapshot.result.now c.as_slice-logged.result.now
    (body_test setup c.as_slice-recorded.result.now c.as_slice-logged.result.now trees) past h → IsPastOf c.as_slice-logged.result.now past h) c.in_ok-parts.ensures.same c.in_ok-found.ensures.past in
    let right = is_past setup events trees log found kept roles refl refl c.as_slice-snapshot.result.now c.as_slice-recorded.result.now c.as_slice-logged.result.now
    c.as_slice-snapshot.ensures told logged says in
    let start = ap (λ (past : LogPast). past.windows.start) (sym c.in_ok-parts.ensures.same) ∙ c.in_ok-found.ensures.start in
    let h = history_of (known_of setup events trees log found kept roles) in
    let readable = is_readable setup events trees log found kept roles refl refl right c.requires.rising c.requires.log in
    let times = has_times setup events trees log found kept roles refl refl start in
    let found_of = c.in-Ok.ensures in
    let timed = found_of.timeline in
    record {
      setup = c.requires.buildable.setup;
      events = c.requires.buildable.events;
      event_lines = c.requires.buildable.lines;
      trees = c.requires.trees;
      numbers = subst (λ (l : List Meaning). All InRange l) (sym c.requires.trees) (numbers_are setup events c.requires.buildable.setup c.requires.buildable.events);
      logged = c.requires.log;
      lines = c.requires.rising;
      count = few_logged setup events trees log c.requires.log c.requires.buildable.few;
      moments = moments_are setup events trees log.events h c.requires.buildable.setup c.requires.buildable.events c.requires.log.logged refl;
      readable = readable;
      groups = right.groups;
      start = start;
      clouds_of = right.clouds;
      roles = timed.versions;
      ends = timed.ends;
      unrecorded = timed.spans h times ∙ ap (unrecorded_in h) logged;
      bypass = timed.bypass;
      sound_roles = timed.sound;
      nodes = have_nodes setup events trees log found kept roles refl refl right c.requires.rising c.requires.log;
      faults_of = found_of.faults h readable refl
          (has_bodies setup events trees log found kept roles refl refl c.as_slice-recorded.result.now c.as_slice-logged.result.now told logged)
          (record { versions = refl; removals = refl })
          (have_codes setup events trees log found kept roles refl refl right c.requires.rising c.requires.log)
          (ap (map event_of) (sym logged));
    }
