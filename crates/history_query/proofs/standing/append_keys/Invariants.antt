use Rattle.std.proofs.Common.{take, string_bytes}
use Rattle.history_query.proofs.StateFacts.{AreTexts}
use Rattle.history_query.proofs.standing.append_keys.Given as goal

-- the texts of the keys so far
abbrev pub invariant-loop-key : goal.invariant-loop-key
invariant-loop-key l = AreTexts l.context l.place (take l.key-index l.keys) (string_bytes l.initial.text) (string_bytes l.text)
