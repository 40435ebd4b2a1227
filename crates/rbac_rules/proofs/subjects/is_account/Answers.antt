use Rattle.rbac_rules.proofs.subjects.is_account.Goals as goal

pub returns-in-None : goal.returns-in-None
returns-in-None c = (λ e. absurd (cc), λ e. absurd (c.in-None.ensures.cases _ e))
