use Rattle.std.proofs.Common.{List, ℕ, IfOk, OnErr, string_bytes, Global, subst}
use Rattle.command_words.specs.Asking.{IsQuestionRead, TakesMemory}
use Rattle.command_words.proofs.QuestionFacts.{five_words}
use Rattle.command_words.proofs.questions.read_question.Goals as goal

pub returns-in-len5-clause-read : goal.returns-in-len5-clause-read
returns-in-len5-clause-read c =
    let words = five_words (string_bytes {Z = Global}) c.args.rest.now _ _ _ _ _ _ _ _ _ _ c.in-len5.len_at_least c.in-len5.len_below
    c.place-item-then-rest-lt6.is c.user-item.is c.groups-item.is c.request-item.is c.uri-item.is
    c.deref-in-len5.ensures c.deref-in-len5-2.ensures c.deref-in-len5-3.ensures c.deref-in-len5-4.ensures c.deref-in-len5-5.ensures in
    subst (λ (w : List (List ℕ)). IfOk c.read_can.result (IsQuestionRead c.args.verb.now w)) words c.read_can.ensures.read

pub returns-in-len5-clause-memory : goal.returns-in-len5-clause-memory
returns-in-len5-clause-memory c =
    let words = five_words (string_bytes {Z = Global}) c.args.rest.now _ _ _ _ _ _ _ _ _ _ c.in-len5.len_at_least c.in-len5.len_below
    c.place-item-then-rest-lt6.is c.user-item.is c.groups-item.is c.request-item.is c.uri-item.is
    c.deref-in-len5.ensures c.deref-in-len5-2.ensures c.deref-in-len5-3.ensures c.deref-in-len5-4.ensures c.deref-in-len5-5.ensures in
    subst (λ (w : List (List ℕ)). OnErr c.read_can.result (TakesMemory c.args.verb.now w)) words c.read_can.ensures.memory
