use Rattle.std.proofs.Common.{◌∙◌, List, sym, ap, map, subst}
use Rattle.std.specs.List.Sorted.{IsPermutation}
use Rattle.write_groups.proofs.Covering.{kept_as, numbered_as}
use Rattle.write_groups.specs.declared.hidden.Hiding.{Hiding}
use Rattle.write_groups.specs.Hiding.{hidings_of, spans_from}
use Rattle.write_groups.proofs.hidden.Hidden.build.Goals as goal

pub invariant_of-result : goal.invariant_of-result
invariant_of-result c =
    numbered_as c.in_ok-build.field-0 c.in_ok-begins_of.field-0.items c.in_ok-hidings.hidings.items
    (c.in_ok-build.ensures.spans ∙ c.deref-3.ensures.value ∙ c.in_ok-spans_of.ensures ∙ ap (spans_from 0) c.deref-2.ensures.value)
    c.in_ok-build.ensures.revisions
    (c.in_ok-begins_of.ensures ∙ ap (map (λ (hiding : Hiding). hiding.since)) c.deref.ensures.value)
    c.in_ok-hidings.ensures.sorted

pub returns : goal.returns
returns c = subst (λ (l : List Hiding). IsPermutation (hidings_of c.args.events.now) l)
    (sym (kept_as c.in_ok-build.field-0 c.in_ok-begins_of.field-0.items c.in_ok-hidings.hidings.items
    (c.in_ok-build.ensures.spans ∙ c.deref-3.ensures.value ∙ c.in_ok-spans_of.ensures ∙ ap (spans_from 0) c.deref-2.ensures.value)
    (c.in_ok-begins_of.ensures ∙ ap (map (λ (hiding : Hiding). hiding.since)) c.deref.ensures.value)))
    (subst (λ (l : List Hiding). IsPermutation l c.in_ok-hidings.hidings.items) c.in_ok-hidings_of.ensures c.in_ok-hidings.ensures.same)
