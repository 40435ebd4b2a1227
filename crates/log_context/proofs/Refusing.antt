-- A fault that is handed on stays the same.
use Rattle.std.proofs.Common.{◌≡◌, Result, Err}

pub same_fault : {T E : Type 0} (x y : E) → ◌≡◌ {A = Result T E} (Err x) (Err y) → x ≡ y
same_fault x y same = cc
