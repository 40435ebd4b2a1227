-- How a chain of steps found what it found.
use Rattle.std.proofs.Common.{◌≡◌, Bool, true, false, Option, Some, None, Result, Ok, Err, refl}
use Rattle.setup_file.specs.declared.fault.SetupRule.{SetupRule}
use Rattle.setup_file.specs.Reading.{chained}
use Rattle.setup_file.specs.Steps.{◌>>=◌, or_breaks, unless_breaks}

pub same_kept : {A : Type 0} (x y : A) → ◌≡◌ {A = Result A SetupRule} (Ok x) (Ok y) → x ≡ y
same_kept x y e = cc

pub chained_both : {A B : Type 0} (o : Option A) (f : A → Option B) (y : B) → chained o f ≡ Some y → (x : A) × (o ≡ Some x) × (f x ≡ Some y)
chained_both None f y e = absurd (cc)
chained_both (Some x) f y e = (x, refl, e)

-- two steps that may break a rule
pub kept_both : {A B : Type 0} (r : Result A SetupRule) (f : A → Result B SetupRule) (y : B) → (r >>= f) ≡ Ok y → (x : A) × (r ≡ Ok x) × (f x ≡ Ok y)
kept_both (Ok x) f y e = (x, refl, e)
kept_both (Err rule) f y e = absurd (cc)

-- a rule that isn't broken
pub not_broken : {A : Type 0} (rule : SetupRule) (o : Option A) (x : A) → or_breaks rule o ≡ Ok x → o ≡ Some x
not_broken rule None x e = absurd (cc)
not_broken rule (Some y) x e = cc

pub test_kept : {A : Type 0} (rule : SetupRule) (b : Bool) (rest : Result A SetupRule) (x : A) → unless_breaks rule b rest ≡ Ok x → (b ≡ true) × (rest ≡ Ok x)
test_kept rule true rest x e = (refl, e)
test_kept rule false rest x e = absurd (cc)

-- two steps that make a pair
abbrev pub pair_of : {A B : Type 0} → Result A SetupRule → (A → Result B SetupRule) → Result (A × B) SetupRule
pair_of r next = r >>= (λ a. next a >>= (λ b. Ok (a, b)))

-- a third step takes what both make
pub paired : {A B C : Type 0} (r : Result A SetupRule) (next : A → Result B SetupRule) (last : A → B → Result C SetupRule)
    → (r >>= (λ a. next a >>= last a)) ≡ (pair_of r next >>= (λ both. last both.0 both.1))
paired {A = A} {B = B} (Ok a) next last = made (next a)
  where
    one : B → Result (A × B) SetupRule
    one b = Ok (a, b)

    made : (s : Result B SetupRule) → (s >>= last a) ≡ ((s >>= one) >>= (λ both. last both.0 both.1))
    made (Ok b) = refl
    made (Err rule) = refl
paired (Err rule) next last = refl
