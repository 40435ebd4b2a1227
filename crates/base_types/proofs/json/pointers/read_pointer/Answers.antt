use Rattle.std.proofs.Common.{◌≡◌, Some, None, IfOk, sym, ap, subst, ◌∙◌, lit<}
use Rattle.std.proofs.lemmas.Str.Pattern.{strip_prefix_char}
use Rattle.base_types.specs.Pointers.{pointer_of}
use Rattle.base_types.proofs.Escapes.{read_texts, some_text, unwritten, no_slash_first}
use Rattle.base_types.proofs.json.pointers.read_pointer.Goals as goal

pub returns-in-Some-clause-written : goal.returns-in-Some-clause-written
returns-in-Some-clause-written c =
    let first = strip_prefix_char 47 c.args.text.now (Some c.in-Some.rest) c.in-Some.ensures.cases (lit< tt) in
    read_texts c.args.text.now c.read_tokens.result (subst (λ o. IfOk c.read_tokens.result (λ ts. o ≡ Some ts)) (sym (ap pointer_of first)) c.read_tokens.ensures.ok)

pub returns-in-Some-clause-unwritten : goal.returns-in-Some-clause-unwritten
returns-in-Some-clause-unwritten c = λ refused.
    let first = strip_prefix_char 47 c.args.text.now (Some c.in-Some.rest) c.in-Some.ensures.cases (lit< tt) in
    unwritten c.args.text.now (ap pointer_of first ∙ c.read_tokens.ensures.form refused)

pub returns-in-None-clause-form : goal.returns-in-None-clause-form
returns-in-None-clause-form c = λ refused. no_slash_first c.args.text.now (some_text c.args.text.now (sym c.is_empty.ensures ∙ c.if-is_empty.false)) (strip_prefix_char 47 c.args.text.now None c.in-None.ensures.cases (lit< tt))

pub returns-in-None-clause-unwritten : goal.returns-in-None-clause-unwritten
returns-in-None-clause-unwritten c = λ refused. unwritten c.args.text.now (no_slash_first c.args.text.now (some_text c.args.text.now (sym c.is_empty.ensures ∙ c.if-is_empty.false)) (strip_prefix_char 47 c.args.text.now None c.in-None.ensures.cases (lit< tt)))
