-- A number keeps its item while a list grows, and the last item has the length of those before it.
use Rattle.std.proofs.Common.{◌≡◌, ℕ, zero, suc, List, [], ◌∷◌, ◌++◌, length, Some, slice_get, refl}

pub slice_get-front : {X : Type 0} (xs more : List X) (k : ℕ) (x : X) → slice_get xs k ≡ Some x → slice_get (xs ++ more) k ≡ Some x
slice_get-front [] more k x e = absurd (cc)
slice_get-front (y ∷ xs) more zero x e = e
slice_get-front (y ∷ xs) more (suc k) x e = slice_get-front xs more k x e

pub slice_get-last : {X : Type 0} (xs : List X) (x : X) → slice_get (xs ++ x ∷ []) (length xs) ≡ Some x
slice_get-last [] x = refl
slice_get-last (y ∷ xs) x = slice_get-last xs x
