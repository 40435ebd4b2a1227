use Rattle.std.proofs.Common.{◌≡◌, option_map, take, drop, subst, sym}
use Rattle.code_guide.specs.SetupGuides.{setup_guides}
use Rattle.code_guide.specs.Texts.{text_in}
use Rattle.code_guide.proofs.FoundTexts.{either}
use Rattle.code_guide.proofs.setup_codes.setup_text.Goals as goal

pub returns : goal.returns
unfolding setup_guides
returns c =
    subst (λ found. option_map (λ text. text.now) found ≡ text_in setup_guides c.args.name.now) (sym c.or.ensures)
    (either (λ text. text.now) (take 7 setup_guides) (drop 7 setup_guides) c.args.name.now c.text_in.result c.text_in-2.result c.text_in.ensures c.text_in-2.ensures)
