use Rattle.std.proofs.Common.{◌≡◌, sym, ap, ◌∙◌, rules}
use Rattle.percent_encoding.specs.Percent.{percent_decode}
use Rattle.base_types.specs.Escapes.{escaped}
use Rattle.base_types.proofs.EscapeLemmas.{percent_decode-escaped, text_bytes}
use Rattle.base_types.proofs.foundation.escaping.unescape.Goals as goal

pub returns-in-Err-Utf8-clause-none : goal.returns-in-Err-Utf8-clause-none
returns-in-Err-Utf8-clause-none c = λ text utf8 e.
    let decoded = c.percent_decode_str.ensures.bytes ∙ ap percent_decode e ∙ percent_decode-escaped text (text_bytes text utf8) in
    let odd = c.in-Err-Utf8.ensures.utf8 (rw decoded utf8) in
    cc

pub returns-else-eq-clause-none : goal.returns-else-eq-clause-none
returns-else-eq-clause-none c = λ text utf8 e.
    let decoded = c.percent_decode_str.ensures.bytes ∙ ap percent_decode e ∙ percent_decode-escaped text (text_bytes text utf8) in
    let same : c.from_string-text.result ≡ text = c.from_string-text.ensures ∙ c.in_ok-decoded-in-Ok.ensures.ok ∙ c.in-Ok.ensures.value ∙ decoded in
    let spelled : c.as_str.result.now ≡ c.args.word.now = c.as_str.ensures.value ∙ c.in_ok-spelled.ensures ∙ ap escaped same ∙ sym e in
    search (rules, spelled)
