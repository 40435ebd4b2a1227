-- What holds of the value of an answer, by two facts of it.
use Rattle.std.proofs.Common.{Ok, Err, IfOk}
use Rattle.std.specs.declared.result.Result.{Result}

pub both_ok : {T E : Type 0} (r : Result T E) (P Q R : T → Type 0) → ((x : T) → P x → Q x → R x) → IfOk r P → IfOk r Q → IfOk r R
both_ok (Ok x) P Q R to p q = to x p q
both_ok (Err e) P Q R to p q = tt
