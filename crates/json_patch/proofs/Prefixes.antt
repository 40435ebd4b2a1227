-- When one pointer begins another, longer one, by their lengths.
use Rattle.std.proofs.Common.{◌≡◌, ℕ, ◌<◌, ◌≤◌, Bool, true, false, ◌&&◌, List, [], ◌∷◌, length, bytes_eq, refl, ap, arith}
use Rattle.std.specs.List.{starts_with}
use Rattle.json_patch.specs.Targets.{is_proper_prefix}

and_false : (a : Bool) → (a && false) ≡ false
and_false true = refl
and_false false = refl

pub no_longer : (from path : List (List ℕ)) → length path ≤ length from → is_proper_prefix from path ≡ false
no_longer [] [] le = refl
no_longer [] (token ∷ rest) le = absurd (omega arith)
no_longer (start ∷ from) [] le = refl
no_longer (start ∷ from) (token ∷ rest) le = rw (no_longer from rest (omega arith)) (and_false (bytes_eq start token))

pub longer : (from path : List (List ℕ)) → length from < length path → is_proper_prefix from path ≡ starts_with bytes_eq path from
longer [] [] lt = absurd (omega arith)
longer [] (token ∷ rest) lt = refl
longer (start ∷ from) [] lt = absurd (omega arith)
longer (start ∷ from) (token ∷ rest) lt = ap (λ b. bytes_eq start token && b) (longer from rest (omega arith))
