-- The view of a context is of its history.
use Rattle.std.proofs.Common.{◌≡◌, ℕ, ◌^◌, pos, neg_ℤ, map, sym, ap}
use Rattle.std.specs.Prelude.{◌≤ℤ◌}
use Rattle.context_claims.specs.Judging.{gives, selects}
use Rattle.context_claims.specs.declared.judge.ContextJudge.{ContextJudge}
use Rattle.event_claims.specs.Views.{IsViewOf}
use Rattle.event_claims.specs.declared.view.View.{View}
use Rattle.history_model.specs.Events.{Event}
use Rattle.history_model.specs.Histories.{IsEvent}
use Rattle.history_model.specs.Readable.{IsReadable}
use Rattle.object_past.specs.Modelled.{recorded, version_of}
use Rattle.past_building.specs.Modelled.{AreCloudsOf}
use Rattle.log_context.specs.Histories.{history_of}
use Rattle.log_context.specs.Known.{Known}
use Rattle.write_groups.specs.Modelled.{event_of, span_of}

-- the view has the parts of a context
pub record HasParts (known : Known) (view : View ContextJudge ContextJudge) : Type 0 where
  pub start : view.start ≡ known.setup.start
  pub lag : view.lag ≡ known.setup.lag
  pub log : view.log.now ≡ known.log
  pub from : view.windows.now.start ≡ known.setup.start
  pub spans : view.windows.now.spans ≡ known.spans
  pub clouds : AreCloudsOf view.clouds.now (history_of known)
  pub versions : view.past.now.versions ≡ known.versions
  pub removals : view.past.now.removals ≡ known.removals
  pub lists : view.lists.now.context.now ≡ known
  pub decisions : view.decisions.now.context.now ≡ known
  pub readable : IsReadable (history_of known)
  pub moments : (number : ℕ) (event : Event) → IsEvent (history_of known) number event → neg_ℤ (pos (2 ^ 101)) ≤ℤ event.lo

pub viewed : (known : Known) (view : View ContextJudge ContextJudge) → HasParts known view → IsViewOf selects gives view (history_of known)
viewed known view has = record {
  start = sym has.start;
  lag = sym has.lag;
  events = ap (map event_of) (sym has.log);
  moments = has.moments;
  times = record { start = sym has.from; spans = ap (map span_of) (sym has.spans) };
  past = record { versions = ap (map version_of) (sym has.versions); removals = ap (map recorded) (sym has.removals) };
  clouds = has.clouds.clouded;
  lists = λ event tree. ap (λ (k : Known). (history_of k).listable event tree) has.lists;
  decisions = λ number places. ap (λ (k : Known). (history_of k).decides number places) has.decisions;
  readable = has.readable;
}
