use Rattle.std.proofs.Common.{◌++◌, None, Some, append-nil, encode_utf8, rules, sym, ◌∙◌}
use Rattle.std.proofs.Output.{has_written_append, has_written_of_eq}
use Rattle.markup.proofs.EscapingFacts.{escaped_char, escaped_empty, escaped_step}
use Rattle.markup.proofs.escaping.EscapedTextDisplay.fmt.Goals as goal

pub loop-c-preserved-in-Continue-1 : goal.loop-c-preserved-in-Continue-1
loop-c-preserved-in-Continue-1 g c = λ plain.
    let so_far = c.loop-c.invariant plain in
    let put = c.in-Some-reference_of.reference.now in
    let is = sym (escaped_char c.in-Some.c (Some put) (sym c.in-Some-reference_of.ensures)) in (
      so_far.0 ++ put,
      escaped_step so_far.0 put _ _ _ c.in-Some.c so_far.1 c.in-Some.ensures.steps.0 is,
      has_written_append _ _ _ _ _ _ so_far.2 (search rules),
    )

pub loop-c-preserved : goal.loop-c-preserved
loop-c-preserved g c = λ plain.
    let so_far = c.loop-c.invariant plain in
    let put = encode_utf8 c.in-Some.c in
    let is = sym (escaped_char c.in-Some.c None (sym c.in-None-reference_of.ensures)) in (
      so_far.0 ++ put,
      escaped_step so_far.0 put _ _ _ c.in-Some.c so_far.1 c.in-Some.ensures.steps.0 is,
      has_written_append _ _ _ _ _ _ so_far.2 (search rules),
    )

pub returns-clause-writes : goal.returns-clause-writes
returns-clause-writes g c = λ plain _.
    let so_far = c.loop-c.invariant plain in
    has_written_of_eq _ _ _ _ _ (sym (append-nil _) ∙ rw (escaped_empty _ c.in-None.ensures.steps.0.0) at so_far.1) so_far.2
