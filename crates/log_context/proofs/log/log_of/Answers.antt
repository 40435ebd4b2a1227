use Rattle.std.proofs.Common.{◌≡◌, ◌∙◌, ◌<◌, ◌++◌, [], Err, ap, length, subst, sym}
use Rattle.node_pool.proofs.Fronts.{Begins-trans}
use Rattle.log_context.specs.LogSelectors.{AreSelectorsOf}
use Rattle.log_context.specs.Logged.{AreLoggedEvents, AreLoggedCheckpoints, AreLogged}
use Rattle.log_context.specs.LogTrees.{object_trees, event_trees, checkpoint_trees, stored_trees, with_trees}
use Rattle.log_context.specs.Shown.{AreItemsOf}
use Rattle.log_context.specs.declared.log.fault.BuildFault.TheVariants.{PoolFull}
use Rattle.log_context.proofs.Assembling.{all_grown, fits_within, pooled_from}
use Rattle.log_context.proofs.LineLemmas.{lines_rise}
use Rattle.log_context.proofs.LoggedLemmas.{logged_stay}
use Rattle.log_context.proofs.PoolLemmas.{IsGrown, grown_none, grown_full, grown_begins, passed_on}
use Rattle.log_context.proofs.ReadingLemmas.{are_not_older}
use Rattle.log_context.proofs.ShownLemmas.{items_stay}
use Rattle.log_context.proofs.log.log_of.Goals as goal

pub returns-in_err-snapshot-clause-full : goal.returns-in_err-snapshot-clause-full
returns-in_err-snapshot-clause-full g c = λ refused.
    let pool = c.args.pool.now in
    let setup = c.args.setup.now in
    let objects : c.as_slice.result.now ≡ setup.snapshot = c.as_slice.ensures in
    let is : c.items_of.result ≡ Err PoolFull = c.in_err-snapshot.was ∙ ap Err (passed_on c.from_residual.result _ PoolFull c.from_residual.ensures.1 refused) in
    let full : pool.limit < length (with_trees pool.trees (object_trees setup.snapshot)) = subst (λ l. pool.limit < length (with_trees pool.trees (object_trees l))) objects (c.items_of.ensures.full is) in
    subst (λ ts. pool.limit < length (with_trees ts (stored_trees setup c.args.events.now))) c.requires.anew
    (grown_full pool pool [] (object_trees setup.snapshot) (event_trees setup c.args.events.now ++ checkpoint_trees setup.checkpoints) (grown_none pool) full)

pub returns-in_err-events-clause-full : goal.returns-in_err-events-clause-full
returns-in_err-events-clause-full g c = λ refused.
    let pool = c.args.pool.now in
    let setup = c.args.setup.now in
    let now = c.items_of.new.pool in
    let objects : c.as_slice.result.now ≡ setup.snapshot = c.as_slice.ensures in
    let events : c.as_slice-2.result.now ≡ c.args.events.now = c.as_slice-2.ensures in
    let e = c.in_ok-snapshot.ensures in
    let is : c.events_of.result ≡ Err PoolFull = c.in_err-events.was ∙ ap Err (passed_on c.from_residual-in_err-events.result _ PoolFull c.from_residual-in_err-events.ensures.1 refused) in
    let grown : IsGrown pool now (object_trees setup.snapshot) = record { holds = e.added ∙ ap (λ l. with_trees pool.trees (object_trees l)) objects; limit = e.limit } in
    let full : now.limit < length (with_trees now.trees (event_trees setup c.args.events.now)) = subst (λ l. now.limit < length (with_trees now.trees (event_trees setup l))) events (c.events_of.ensures.full is) in
    subst (λ ts. pool.limit < length (with_trees ts (stored_trees setup c.args.events.now))) c.requires.anew
    (grown_full pool now (object_trees setup.snapshot) (event_trees setup c.args.events.now) (checkpoint_trees setup.checkpoints) grown full)

pub returns-clause-built : goal.returns-clause-built
returns-clause-built g c =
    let pool = c.args.pool.now in
    let setup = c.args.setup.now in
    let events = c.args.events.now in
    let first = c.items_of.new.pool in
    let second = c.events_of.new.pool in
    let last = c.checkpoints_of.new.pool in
    let of_objects : IsGrown pool first (object_trees setup.snapshot) =
    subst (λ l. IsGrown pool first (object_trees l)) c.as_slice.ensures (record { holds = c.in_ok-snapshot.ensures.added; limit = c.in_ok-snapshot.ensures.limit }) in
    let of_events : IsGrown first second (event_trees setup events) =
    subst (λ l. IsGrown first second (event_trees setup l)) c.as_slice-2.ensures (record { holds = c.in_ok-events.ensures.logged.added; limit = c.in_ok-events.ensures.limit }) in
    let of_checkpoints : IsGrown second last (checkpoint_trees setup.checkpoints) =
    subst (λ l. IsGrown second last (checkpoint_trees l)) c.as_slice-3.ensures (record { holds = c.in_ok-checkpoints.ensures.added; limit = c.in_ok-checkpoints.ensures.limit }) in
    let grown = all_grown setup events pool first second last of_objects of_events of_checkpoints in
    let trees = pooled_from setup events pool last c.requires.anew grown in
    let begins = grown_begins second last (checkpoint_trees setup.checkpoints) of_checkpoints in
    let begins_first = Begins-trans first.trees second.trees last.trees (grown_begins first second (event_trees setup events) of_events) begins in
    let logged : AreLogged setup last.trees events c.in_ok-joined.field-0 = record {
      of_log = c.in_ok-events.field-0.events;
      of_setup = c.in_ok-checkpoints.checkpoints;
      joined = c.in_ok-joined.ensures;
      in_log = logged_stay setup second.trees last.trees begins events c.in_ok-events.field-0.events (subst (λ l. AreLoggedEvents setup second.trees l c.in_ok-events.field-0.events) c.as_slice-2.ensures c.in_ok-events.ensures.logged.logged);
      behind = subst (λ l. AreLoggedCheckpoints last.trees l c.in_ok-checkpoints.checkpoints) c.as_slice-3.ensures c.in_ok-checkpoints.ensures.logged;
    } in
    record {
      log = record {
        snapshot = items_stay first.trees last.trees begins_first setup.snapshot c.snapshot.inside.items.items
            (subst (AreItemsOf first.trees setup.snapshot) (sym c.snapshot.view_is) (subst (λ l. AreItemsOf first.trees l c.in_ok-snapshot.snapshot) c.as_slice.ensures c.in_ok-snapshot.ensures.items));
        logged = logged;
        selectors = subst (λ l. AreSelectorsOf setup l c.in_ok-events.field-0.selectors) c.as_slice-2.ensures c.in_ok-events.ensures.logged.selectors;
        checkpoints = are_not_older setup last.trees events c.in_ok-joined.field-0 c.requires.loggable.setup logged;
      };
      lines = λ lines. lines_rise setup last.trees events c.in_ok-joined.field-0 logged lines;
      trees = trees;
      fits = fits_within setup events pool last grown trees c.len-len.ensures.room;
    }
