use Rattle.std.proofs.Common.{◌≡◌, ◌++◌, ◌∷◌, option_map, option_and_then, ap, ◌∙◌}
use Rattle.std.specs.Str.Iter.{chars_rest}
use Rattle.std.proofs.Math.Utf8.{encode}
use Rattle.base_types.specs.Pointers.{tilde, unescaped}
use Rattle.base_types.proofs.Escapes.{unescaped_char, unescaped_tilde, shorter_char}
use Rattle.base_types.proofs.json.pointers.next_char.Goals as goal

pub returns-in-Some-clause-ok : goal.returns-in-Some-clause-ok
returns-in-Some-clause-ok c =
    let step = c.in-Some.ensures.steps.0 in
    (unescaped_char c.in-Some.first _ _ step c.in-Some.first-test.1, shorter_char c.in-Some.first _ _ step)

pub returns-in_err-escape-in-Some-eq126-clause-form : goal.returns-in_err-escape-in-Some-eq126-clause-form
returns-in_err-escape-in-Some-eq126-clause-form c = λ refused.
    let mid = chars_rest c.next.new.self in
    let first : chars_rest c.args.rest.now ≡ encode tilde ++ mid = c.in-Some-eq126.ensures.steps.0 ∙ ap (λ b. encode b ++ mid) c.in-Some-eq126.field-0-test in
    let step = c.next-in-Some-eq126.ensures.steps.0 in
    unescaped_tilde _ (chars_rest c.args.rest.now) mid (chars_rest c.next-in-Some-eq126.new.self) c.next-in-Some-eq126.result first step
    ∙ ap (option_and_then (λ d. option_map (λ rest. d ∷ rest) (unescaped (chars_rest c.next-in-Some-eq126.new.self)))) c.in_err-escape-in-Some-eq126.ensures.form
