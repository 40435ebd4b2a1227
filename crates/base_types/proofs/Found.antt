-- What something found tells of how it was found.
use Rattle.std.proofs.Common.{◌≡◌, Bool, true, false, cond, ◌⊎◌, inl, inr, Option, Some, None, Result, Ok, Err, refl}
use Rattle.std.specs.Prelude.{option_and_then}
use Rattle.std.specs.Result.{result_ok}

pub same_some : {A : Type 0} (x y : A) → Some x ≡ Some y → x ≡ y
same_some x y e = cc

-- two steps that may find nothing
pub found_both : {A B : Type 0} (o : Option A) (f : A → Option B) (y : B) → option_and_then f o ≡ Some y → (x : A) × (o ≡ Some x) × (f x ≡ Some y)
found_both None f y e = absurd (cc)
found_both (Some x) f y e = (x, refl, e)

-- which of two was chosen
pub either : {A : Type 0} (b : Bool) (x y z : A) → cond b x y ≡ z → ((b ≡ true) × (x ≡ z)) ⊎ ((b ≡ false) × (y ≡ z))
either true x y z e = inl (refl, e)
either false x y z e = inr (refl, e)

-- what is there only where a test holds
pub where_true : {A : Type 0} (b : Bool) (o : Option A) (y : A) → cond b o None ≡ Some y → (b ≡ true) × (o ≡ Some y)
where_true true o y e = (refl, e)
where_true false o y e = absurd (cc)

pub was_ok : {A E : Type 0} (r : Result A E) (x : A) → result_ok r ≡ Some x → r ≡ Ok x
was_ok (Ok y) x e = cc
was_ok (Err fault) x e = absurd (cc)
