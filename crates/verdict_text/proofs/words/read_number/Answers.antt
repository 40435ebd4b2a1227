use Rattle.std.proofs.Common.{◌∙◌}
use Rattle.verdict_text.specs.Words.{BeginsPlainly}
use Rattle.verdict_text.proofs.NumberTexts.{begins-decimal, parsed_plainly, not_parsed}
use Rattle.verdict_text.proofs.words.read_number.Goals as goal

pub returns-then-begins_plainly-clause-some : goal.returns-then-begins_plainly-clause-some
returns-then-begins_plainly-clause-some c =
    let plain : BeginsPlainly c.args.word.now = rw c.as_bytes.ensures.value at (c.begins_plainly.ensures.0 c.if-begins_plainly.true) in
    rw c.ok.ensures.value (parsed_plainly c.args.word.now c.parse.result plain c.parse.ensures.value.0)

pub returns-then-begins_plainly-clause-none : goal.returns-then-begins_plainly-clause-none
returns-then-begins_plainly-clause-none c = rw c.ok.ensures.value (not_parsed c.args.word.now c.parse.result c.parse.ensures.value.0)

pub returns-else-begins_plainly-clause-none : goal.returns-else-begins_plainly-clause-none
returns-else-begins_plainly-clause-none c = λ n small e.
    let plain : BeginsPlainly c.as_bytes.result.now = rw (c.as_bytes.ensures.value ∙ e) (begins-decimal n small) in
    let wrong = c.begins_plainly.ensures.1 plain in
    cc
