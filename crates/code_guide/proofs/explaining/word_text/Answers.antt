use Rattle.std.proofs.Common.{◌≡◌, ◌++◌, option_map, subst, sym}
use Rattle.code_guide.specs.LogGuides.{log_guides}
use Rattle.code_guide.specs.SetupGuides.{setup_guides}
use Rattle.code_guide.specs.Texts.{text_in}
use Rattle.code_guide.specs.VerdictGuides.{verdict_guides}
use Rattle.code_guide.proofs.FoundTexts.{either}
use Rattle.code_guide.proofs.explaining.word_text.Goals as goal

pub returns : goal.returns
returns c =
    let of_input = either (λ text. text.now) log_guides setup_guides c.args.code.now c.log_text.result c.setup_text.result c.log_text.ensures c.setup_text.ensures in
    let first = subst (λ found. option_map (λ text. text.now) found ≡ text_in (log_guides ++ setup_guides) c.args.code.now) (sym c.or-of_input.ensures) of_input in
    subst (λ found. option_map (λ text. text.now) found ≡ text_in ((log_guides ++ setup_guides) ++ verdict_guides) c.args.code.now) (sym c.or.ensures)
    (either (λ text. text.now) (log_guides ++ setup_guides) verdict_guides c.args.code.now c.or-of_input.result c.verdict_text.result first c.verdict_text.ensures)
