use Rattle.batch_decode.proofs.Alone.{one_decoding}
use Rattle.batch_decode.proofs.law.one_decoding_law.Goals as goal

pub returns : goal.returns
returns c = one_decoding
