use Rattle.std.proofs.Common.{◌≡◌, ◌≢◌, ◌⊎◌, ◌<◌, true, false, refl, ap, sym, ◌∙◌, get_or, drop, length, take_all, length-drop, ◌==◌, arith, rules}
use Rattle.fast_float.specs.Text.{scan}
use Rattle.serde_json.specs.Read.{number_of, number_from}
use Rattle.borrowed_json.proofs.Texts.{number-minus, number-digits, no_minus}
use Rattle.borrowed_json.proofs.number.number_of.Goals as goal

pub returns-in-45 : goal.returns-in-45
returns-in-45 c =
    let s = c.as_bytes.result.now in
    let first : get_or s 0 0 ≡ 45 = search rules in
    let signed : (get_or s 0 0 == 45) ≡ true = rw first refl in
    let parts = c.scan.ensures.parts ∙ ap scan (take_all _ (drop 1 s) (omega (arith, length-drop 1 s))) in
    c.with_minus.ensures ∙ ap (number_from true) parts ∙ sym (number-minus s signed) ∙ ap number_of c.as_bytes.ensures.value

pub returns-in_default : goal.returns-in_default
returns-in_default c =
    let s = c.as_bytes.result.now in
    let why : (length s < 1) ⊎ (get_or s 0 0 ≢ 45) = search rules in
    c.without_minus.ensures ∙ ap (number_from false) c.scan-in_default.ensures.parts ∙ sym (number-digits s (no_minus s why)) ∙ ap number_of c.as_bytes.ensures.value
