use Rattle.std.proofs.Common.{◌≡◌, length, min, take, ap, ◌∙◌, arith}
use Rattle.std.proofs.lemmas.List.{take_min}
use Rattle.sha2.specs.Sha256.{sha256}
use Rattle.log_sift.proofs.whole.seed_of.Goals as goal

pub returns : goal.returns
returns c =
    let log = c.args.log.now in
    let is = c.min.ensures in
    let within : c.min.result ≡ min 65536 (length log) = omega (arith, is) in
    c.of.ensures ∙ ap sha256 (ap (λ n. take n log) within ∙ take_min 65536 log)
