use Rattle.std.proofs.Common.{◌<◌, length, arith, sym, ◌∙◌}
use Rattle.std.proofs.lemmas.Grind.{common_steps}
use Rattle.base_types.proofs.RevisionTexts.{text_some, first_above, first_below, text_utf8, text_parses, parsed_is, parsed_small, found_is, none_is}
use Rattle.base_types.proofs.kubernetes.revision.read_revision.Goals as goal

pub returns-then-is_empty-clause-none : goal.returns-then-is_empty-clause-none
returns-then-is_empty-clause-none c = λ r h e. grind (arith, common_steps, text_some _ r h e)

pub returns-then-text-lt49-clause-none : goal.returns-then-text-lt49-clause-none
returns-then-text-lt49-clause-none c = λ r h e. omega (arith, first_above _ r h e)

pub returns-then-text-gt57-clause-none : goal.returns-then-text-gt57-clause-none
returns-then-text-gt57-clause-none c = λ r h e. omega (arith, first_below _ r h e)

pub returns-in_default-clause-none : goal.returns-in_default-clause-none
returns-in_default-clause-none c = λ r h e. c.in_default.ensures.cases.0 (text_utf8 _ r h e)

pub returns-in_default-parse-clause-none : goal.returns-in_default-parse-clause-none
returns-in_default-parse-clause-none c = λ r h e.
    c.in_default-parse.not-Ok r (text_parses _ r _ h (c.in-Ok.ensures.cases.0 ∙ e) c.parse.ensures.value.0)

pub returns-clause-some : goal.returns-clause-some
returns-clause-some c =
    let d = c.in-Ok.ensures.cases.0 in
    let some : 0 < length c.args.text.now = grind (arith, common_steps) in
    let e = parsed_is c.in-Ok.digits.now c.in-Ok-parse.number c.parse.result (rw d some) (rw d c.if-text-lt49.false) (rw d c.if-text-gt57.false) c.parse.ensures.value.0 c.in-Ok-parse.is in
    found_is c.args.text.now c.in-Ok-parse.number c.new.result c.new.ensures.some (sym d ∙ e)

pub returns-clause-none : goal.returns-clause-none
returns-clause-none c =
    let d = c.in-Ok.ensures.cases.0 in
    let some : 0 < length c.args.text.now = grind (arith, common_steps) in
    let e = parsed_is c.in-Ok.digits.now c.in-Ok-parse.number c.parse.result (rw d some) (rw d c.if-text-lt49.false) (rw d c.if-text-gt57.false) c.parse.ensures.value.0 c.in-Ok-parse.is in
    none_is c.args.text.now c.in-Ok-parse.number c.new.result c.new.ensures.exact.1 (parsed_small c.in-Ok.digits.now c.in-Ok-parse.number c.parse.result c.parse.ensures.value.0 c.in-Ok-parse.is) (sym d ∙ e)
