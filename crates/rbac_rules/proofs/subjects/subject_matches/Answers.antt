use Rattle.std.proofs.Common.{sym, ◌∙◌}
use Rattle.rbac_rules.proofs.Texts.{has_text-Decides}
use Rattle.rbac_rules.proofs.subjects.subject_matches.Goals as goal

pub returns-in-Group : goal.returns-in-Group
returns-in-Group c =
    let told = has_text-Decides c.args.who.now.groups c.in-Group.name in
    rw c.in-Group.is (λ is. told.0 (sym c.has_text.ensures ∙ is), λ among. c.has_text.ensures ∙ told.1 among)
