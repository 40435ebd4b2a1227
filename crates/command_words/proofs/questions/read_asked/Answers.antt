use Rattle.std.proofs.Common.{List, ℕ, IfOk, OnErr, string_bytes, Global, subst}
use Rattle.command_words.specs.Command.{IsAskRead, MayWantMemory}
use Rattle.command_words.proofs.QuestionFacts.{three_in_front}
use Rattle.command_words.proofs.questions.read_asked.Goals as goal

pub returns-in-len3-up-clause-read : goal.returns-in-len3-up-clause-read
returns-in-len3-up-clause-read c =
    let words = three_in_front (string_bytes {Z = Global}) c.args.words.now _ _ _ _ _ _ c.in-len3-up.len_at_least
    c.verb-item.is c.setup-item.is c.log-item.is c.deref.ensures c.deref-in-len3-up.ensures c.deref-in-len3-up-2.ensures in
    subst (λ (w : List (List ℕ)). IfOk c.read_named.result (IsAskRead w)) words c.read_named.ensures.read

pub returns-in-len3-up-clause-memory : goal.returns-in-len3-up-clause-memory
returns-in-len3-up-clause-memory c =
    let words = three_in_front (string_bytes {Z = Global}) c.args.words.now _ _ _ _ _ _ c.in-len3-up.len_at_least
    c.verb-item.is c.setup-item.is c.log-item.is c.deref.ensures c.deref-in-len3-up.ensures c.deref-in-len3-up-2.ensures in
    subst (λ (w : List (List ℕ)). OnErr c.read_named.result (MayWantMemory w)) words c.read_named.ensures.memory
