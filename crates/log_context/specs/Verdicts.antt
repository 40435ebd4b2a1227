-- Whether writes were answered with what their bodies asked, of the objects that may have been there before them.
use Rattle.std.specs.Prelude.{◌≡◌, ℕ, Bool, Option, option_map}
use Rattle.log_context.specs.declared.verdicts.Verdict.{Verdict}

-- the test of bodies says so
abbrev pub IsVerdict : (ℕ → Option ℕ → Bool) → Verdict → Type 0
IsVerdict body verdict = verdict.is_right ≡ body verdict.event (option_map (λ node. node.0) verdict.before)
