use Rattle.std.proofs.Common.{List, ℕ, subst}
use Rattle.request_attrs.specs.Refusals.{IsCause}
use Rattle.command_words.proofs.QuestionFacts.{none_readable}
use Rattle.command_words.proofs.questions.read_attrs.Goals as goal

pub returns-clause-none : goal.returns-clause-none
returns-clause-none c = none_readable c.args.uri.now c.in-Err.fault c.without_attrs.result (subst (λ (u : List ℕ). IsCause u c.in-Err.fault) c.in_ok-uri.ensures c.in-Err.ensures.cause) c.without_attrs.ensures
