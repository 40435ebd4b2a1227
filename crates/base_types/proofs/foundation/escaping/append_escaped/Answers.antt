use Rattle.base_types.proofs.EscapeLemmas.{percent_encode-escaped, text_bytes}
use Rattle.base_types.proofs.foundation.escaping.append_escaped.Goals as goal

pub returns : goal.returns
returns c =
    let encoded = percent_encode-escaped c.as_str.result.now (text_bytes c.as_str.result.now c.as_str.utf8) in
    rw (c.in_ok-append_to.ensures.ok, c.utf8_percent_encode.ensures.text, encoded, c.as_str.ensures.value)
