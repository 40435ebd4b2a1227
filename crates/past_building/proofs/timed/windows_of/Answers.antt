use Rattle.std.proofs.Common.{map, ap, ◌∙◌}
use Rattle.std.proofs.lemmas.Result.{IfOk-weaker}
use Rattle.write_groups.specs.Modelled.{span_of}
use Rattle.past_building.proofs.timed.windows_of.Goals as goal

pub returns-clause-spans : goal.returns-clause-spans
returns-clause-spans c = IfOk-weaker c.build.result _ _
    (λ windows is h all is_order groups same. c.in_ok-spans.ensures.spans h all is_order groups (same ∙ ap (map span_of) (is ∙ c.deref.ensures.value)))
    c.build.ensures.spans
