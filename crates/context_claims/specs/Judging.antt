-- How a context judges the selectors of lists, and decisions.
use Rattle.std.specs.Prelude.{ℕ, Bool}
use Rattle.base_types.specs.declared.verdict.placed.Places.{Places}
use Rattle.context_claims.specs.declared.judge.ContextJudge.{ContextJudge}
use Rattle.log_context.specs.Histories.{history_of}

abbrev pub selects : ContextJudge → ℕ → ℕ → Bool
selects judge = (history_of judge.context.now).listable

abbrev pub gives : ContextJudge → ℕ → Places → Bool
gives judge = (history_of judge.context.now).decides
