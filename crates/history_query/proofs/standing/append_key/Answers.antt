use Rattle.std.proofs.Common.{string_bytes}
use Rattle.std.proofs.lemmas.Result.{IfOk-weaker}
use Rattle.history_query.proofs.StateFacts.{key_told}
use Rattle.history_query.proofs.standing.append_key.Goals as goal

pub returns : goal.returns
returns c = IfOk-weaker c.append_key_sight.result _ _
    (λ done behind. key_told c.args.context.now c.args.place c.args.key.now c.sight_of.result (string_bytes c.args.text.now) (string_bytes c.append_key_sight.new.text) c.sight_of.ensures behind)
    c.append_key_sight.ensures
