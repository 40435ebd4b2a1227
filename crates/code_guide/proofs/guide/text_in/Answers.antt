use Rattle.std.proofs.Common.{◌∙◌, ap, option_map}
use Rattle.code_guide.proofs.FoundTexts.{text_found}
use Rattle.code_guide.proofs.guide.text_in.Goals as goal

pub returns-in-Some : goal.returns-in-Some
returns-in-Some c = ap (option_map (λ guide. guide.text.now)) c.in-Some.ensures ∙ text_found c.args.guides.now c.args.name.now

pub returns-in-None : goal.returns-in-None
returns-in-None c = ap (option_map (λ guide. guide.text.now)) c.in-None.ensures ∙ text_found c.args.guides.now c.args.name.now
