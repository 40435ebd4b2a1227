use Rattle.std.proofs.Common.{◌≡◌, sym, ◌∙◌, arith}
use Rattle.std.proofs.lemmas.Grind.{common_steps}
use Rattle.base_types.specs.Keys.{key_spelling}
use Rattle.base_types.proofs.KeyLemmas.{key_spelling_injective}
use Rattle.base_types.proofs.kubernetes.key.key_text.Goals as goal

pub returns-clause-alone : goal.returns-clause-alone
returns-clause-alone c =
    let spelled : c.from_string.result ≡ key_spelling c.args.key.now = grind (arith, common_steps) in
    λ other e. key_spelling_injective other c.args.key.now (sym e ∙ spelled)
