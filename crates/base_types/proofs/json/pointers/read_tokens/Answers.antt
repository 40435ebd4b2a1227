use Rattle.std.proofs.Common.{◌≡◌, Some, None, Err, sym, ap, ◌∙◌, lit<, append-nil, rules}
use Rattle.std.proofs.lemmas.Str.Pattern.{split_parts}
use Rattle.base_types.specs.declared.json.pointers.PointerFault.TheVariants.{Form}
use Rattle.base_types.proofs.Escapes.{tokens_split, tokens_end, tokens_more, tokens_bad}
use Rattle.base_types.proofs.json.pointers.read_tokens.Goals as goal

pub returns-in_err-unescape-clause-form : goal.returns-in_err-unescape-clause-form
returns-in_err-unescape-clause-form c = λ refused.
    let is : c.unescape.result ≡ Err Form = search rules in
    let parts = split_parts 47 c.loop-part.rest.now (Some (c.in-Some.part, c.in-Some.after)) c.in-Some.ensures.cases (lit< tt) in
    tokens_bad c.loop-part.tokens.items _ _ _ c.in-Some.part.now c.loop-part.invariant.1 (tokens_split c.loop-part.rest.now c.in-Some.part.now c.in-Some.after.now parts.0 parts.1) (c.unescape.ensures.form is)

pub loop-part-preserved : goal.loop-part-preserved
loop-part-preserved c =
    let parts = split_parts 47 c.loop-part.rest.now (Some (c.in-Some.part, c.in-Some.after)) c.in-Some.ensures.cases (lit< tt) in
    (search rules, rw c.in_ok-push.ensures.items (tokens_more c.loop-part.tokens.items _ _ _ c.in-Some.part.now c.in_ok-unescape.field-0 c.loop-part.invariant.1 (tokens_split c.loop-part.rest.now c.in-Some.part.now c.in-Some.after.now parts.0 parts.1) c.in_ok-unescape.ensures.ok))

pub returns-in_err-unescape-2-clause-form : goal.returns-in_err-unescape-2-clause-form
returns-in_err-unescape-2-clause-form c = λ refused.
    let is : c.unescape-2.result ≡ Err Form = search rules in
    let plain = split_parts 47 c.loop-part.rest.now None c.in_default.ensures.cases (lit< tt) in
    tokens_bad c.loop-part.tokens.items _ _ _ c.loop-part.rest.now c.loop-part.invariant.1 (tokens_end c.loop-part.rest.now plain) (c.unescape-2.ensures.form is)

pub returns-clause-ok : goal.returns-clause-ok
returns-clause-ok c =
    let plain = split_parts 47 c.loop-part.rest.now None c.in_default.ensures.cases (lit< tt) in
    let all = tokens_more c.loop-part.tokens.items _ _ _ c.loop-part.rest.now c.in_ok-unescape-2.field-0 c.loop-part.invariant.1 (tokens_end c.loop-part.rest.now plain) c.in_ok-unescape-2.ensures.ok in
    all ∙ ap Some (append-nil _ ∙ sym c.in_ok-push-2.ensures.items ∙ sym c.from_vec.ensures)
