use Rattle.std.proofs.Common.{◌≡◌, List, Some, ap, length, refl, slice_get, subst, sym, ◌∙◌}
use Rattle.std.proofs.lemmas.Option.{slice_get_read}
use Rattle.history_model.specs.Windows.{low_end, high_end}
use Rattle.write_groups.specs.Modelled.{HasTimes}
use Rattle.write_groups.specs.declared.event.LogEvent.{LogEvent}
use Rattle.log_context.proofs.Built.{event_is}
use Rattle.log_context.specs.Histories.{history_of}
use Rattle.log_context.specs.Known.{Known}
use Rattle.log_context.proofs.context.Context.window.Goals as goal

pub window_of-requires : goal.window_of-requires
window_of-requires c = sym c.self.invariant.start

pub returns-clause-low : goal.returns-clause-low
returns-clause-low c = λ e known.
    let h = history_of c.args.self.now in
    let log = c.args.self.now.log in
    let event = c.index-logged-event.result in
    let same : c.as_slice-logged.result.now ≡ log = c.as_slice-logged.ensures ∙ ap (λ (k : Known). k.log) c.self.view_is in
    let at : slice_get c.as_slice-logged.result.now c.args.event ≡ Some event = slice_get_read c.as_slice-logged.result.now (length log) c.args.event event (ap length (sym same)) c.requires c.index-logged-event.is in
    let times : HasTimes c.self.inside.windows h = subst (λ (k : Known). HasTimes c.self.inside.windows (history_of k)) c.self.view_is (record { start = sym c.self.invariant.start; spans = refl }) in
    c.window_of.ensures.low h times ∙ ap (low_end h) (event_is log h c.args.event event e refl (subst (λ (l : List LogEvent). slice_get l c.args.event ≡ Some event) same at) known)

pub returns-clause-high : goal.returns-clause-high
returns-clause-high c = λ e known.
    let h = history_of c.args.self.now in
    let log = c.args.self.now.log in
    let event = c.index-logged-event.result in
    let same : c.as_slice-logged.result.now ≡ log = c.as_slice-logged.ensures ∙ ap (λ (k : Known). k.log) c.self.view_is in
    let at : slice_get c.as_slice-logged.result.now c.args.event ≡ Some event = slice_get_read c.as_slice-logged.result.now (length log) c.args.event event (ap length (sym same)) c.requires c.index-logged-event.is in
    let times : HasTimes c.self.inside.windows h = subst (λ (k : Known). HasTimes c.self.inside.windows (history_of k)) c.self.view_is (record { start = sym c.self.invariant.start; spans = refl }) in
    c.window_of.ensures.high h times ∙ ap (high_end h) (event_is log h c.args.event event e refl (subst (λ (l : List LogEvent). slice_get l c.args.event ≡ Some event) same at) known)
