use Rattle.std.proofs.Common.{ap, map, refl, subst, sym}
use Rattle.object_past.specs.Modelled.{recorded, version_of}
use Rattle.setup_file.specs.declared.setup.Setup.{Setup}
use Rattle.log_context.specs.Histories.{history_of}
use Rattle.write_groups.specs.Modelled.{event_of, span_of}
use Rattle.log_moments.proofs.Timing.{in_time}
use Rattle.log_moments.specs.Nexts.{AreNexts}
use Rattle.log_moments.proofs.viewing.view_of.Goals as goal

pub returns-clause-view : goal.returns-clause-view
returns-clause-view c = λ nexts. record {
  start = sym (ap (λ (s : Setup). s.start) c.setup.ensures.setup);
  events = ap (map event_of) (sym c.log.ensures.log);
  times = record { start = sym c.windows.ensures.start; spans = ap (map span_of) (sym c.windows.ensures.spans) };
  clouds = c.clouds.ensures;
  past = record { versions = ap (map version_of) (sym c.past.ensures.versions); removals = ap (map recorded) (sym c.past.ensures.removals) };
  nexts = subst (λ l. AreNexts l c.args.nexts.now) (sym c.past.ensures.versions) nexts;
}

pub returns-clause-moments : goal.returns-clause-moments
returns-clause-moments c = in_time c.args.context.now.setup c.args.context.now.events c.args.context.now.trees c.args.context.now.log (history_of c.args.context.now)
    c.events-events.ensures.sound c.log.ensures.logged refl
