use Rattle.std.proofs.Common.{string_bytes, subst}
use Rattle.std.proofs.lemmas.List.{take_all}
use Rattle.history_query.proofs.StateFacts.{AreTexts, texts_more, texts_none, texts_whole}
use Rattle.history_query.proofs.standing.append_keys.Goals as goal

pub loop-key-init : goal.loop-key-init
loop-key-init c = texts_none c.args.context.now c.args.place _

pub loop-key-preserved : goal.loop-key-preserved
loop-key-preserved c =
    texts_more c.args.context.now c.args.place c.args.keys.now c.loop-key.key-index c.key-item.result (string_bytes c.args.text.now) (string_bytes c.loop-key.text) (string_bytes c.append_key.new.text)
    c.loop-key-test.true c.key-item.is c.loop-key.invariant c.in_ok-append_key.ensures

pub returns : goal.returns
returns c =
    texts_whole c.args.context.now c.args.place c.args.keys.now (string_bytes c.args.text.now) (string_bytes c.loop-key.text) c.requires
    (subst (λ l. AreTexts c.args.context.now c.args.place l (string_bytes c.args.text.now) (string_bytes c.loop-key.text)) (take_all c.loop-key.key-index c.args.keys.now c.loop-key-test.false) c.loop-key.invariant)
