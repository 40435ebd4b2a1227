-- What a last call promises.
use Rattle.std.proofs.Common.{Result, OnOk}
use Rattle.std.proofs.lemmas.Result.{on_ok_weaker}

-- where it goes well, said of the whole text
pub then_ok : {T E P Q : Type 0} (r : Result T E) → OnOk r P → (P → Q) → OnOk r Q
then_ok r last whole = on_ok_weaker r whole last
