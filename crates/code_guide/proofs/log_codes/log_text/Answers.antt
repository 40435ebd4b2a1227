use Rattle.std.proofs.Common.{◌≡◌, option_map, take, drop, subst, sym}
use Rattle.code_guide.specs.LogGuides.{log_guides}
use Rattle.code_guide.specs.Texts.{text_in}
use Rattle.code_guide.proofs.FoundTexts.{either}
use Rattle.code_guide.proofs.log_codes.log_text.Goals as goal

pub returns : goal.returns
unfolding log_guides
returns c =
    subst (λ found. option_map (λ text. text.now) found ≡ text_in log_guides c.args.name.now) (sym c.or.ensures)
    (either (λ text. text.now) (take 6 log_guides) (drop 6 log_guides) c.args.name.now c.text_in.result c.text_in-2.result c.text_in.ensures c.text_in-2.ensures)
