-- The least place at which an object is as it is seen, or its key is clouded.
use Rattle.std.proofs.Common.{◌≡◌, ℕ, ◌+◌, ◌<◌, ◌≤◌, ◌⊎◌, ◌↔◌, List, true, false, Option, Some, None, is_some, inl, inr, sym, subst, arith, true≢false}
use Rattle.std.proofs.lemmas.Bool.{cases_lt}
use Rattle.clouds.specs.FirstPlace.{HoldsNowhere, IsFirstPlace, IsLeastPlace}
use Rattle.history_model.specs.Bounding.{SomewhereIn}
use Rattle.history_model.specs.Events as model
use Rattle.history_model.specs.Histories.{History}
use Rattle.history_model.specs.Right.{IsRight}
use Rattle.history_model.specs.States.{state}
use Rattle.write_groups.specs.declared.window.Window.{Window}
use Rattle.local_bounds.specs.Known.{IsWindowOf}
use Rattle.local_bounds.specs.Places.{IsLeastRight}

-- where the places are narrowed to one, it is the first
pub first_at : (Q : ℕ → Type 0) (first high rest_low rest_high : ℕ) → rest_high ≤ rest_low → rest_high ≤ high → SomewhereIn first rest_high Q
    → ((x : ℕ) → first ≤ x → x < rest_low → Q x → ⊥) → IsFirstPlace Q first high (Some rest_low)
first_at Q first high rest_low rest_high narrow within (x, l, m, q) none = go (cases_lt x rest_low)
  where
    by : (other : ℕ) → first ≤ other → Q other → (other < rest_low) ⊎ (rest_low ≤ other) → rest_low ≤ other
    by other from p (inl b) = absurd (none other from b p)
    by other from p (inr b) = b

    here : x ≡ rest_low → IsFirstPlace Q first high (Some rest_low)
    here e = record {
      from_low = omega (arith, l, e);
      upto_high = omega (arith, e, m, within);
      here = subst Q e q;
      least = λ other from p. by other from p (cases_lt other rest_low);
    }

    go : (x < rest_low) ⊎ (rest_low ≤ x) → IsFirstPlace Q first high (Some rest_low)
    go (inl b) = absurd (none x l b q)
    go (inr b) = here (omega (arith, m, b, narrow))

-- nowhere up to the middle
pub below_middle : (Q : ℕ → Type 0) (first middle : ℕ) → (SomewhereIn first middle Q → ⊥) → (x : ℕ) → first ≤ x → x < middle + 1 → Q x → ⊥
below_middle Q first middle none x l b q = none (x, l, omega (arith, b), q)

-- of two kinds, where the first is nowhere, or begins at a place up to which the other is looked for
pub other_first : (C Q : ℕ → Type 0) (low high : ℕ) (place : Option ℕ) → HoldsNowhere C low high → IsFirstPlace Q low high place → IsFirstPlace (λ x. C x ⊎ Q x) low high place
other_first C Q low high None none first = λ place from upto s. go place from upto s
  where
    go : (place : ℕ) → low ≤ place → place ≤ high → C place ⊎ Q place → ⊥
    go place from upto (inl c) = none place from upto c
    go place from upto (inr q) = first place from upto q
other_first C Q low high (Some place) none first = record {
  from_low = first.from_low;
  upto_high = first.upto_high;
  here = inr first.here;
  least = λ other from s. go other from s (cases_lt other place);
}
  where
    go : (other : ℕ) → low ≤ other → C other ⊎ Q other → (other < place) ⊎ (place ≤ other) → place ≤ other
    go other from s (inr b) = b
    go other from (inl c) (inl b) = let upto = first.upto_high in absurd (none other from (omega (arith, upto, b)) c)
    go other from (inr q) (inl b) = first.least other from q

pub first_before : (C Q : ℕ → Type 0) (low high clouded place : ℕ) → IsLeastPlace C low high clouded → IsFirstPlace Q low clouded (Some place) → IsFirstPlace (λ x. C x ⊎ Q x) low high (Some place)
first_before C Q low high clouded place c first = record {
  from_low = first.from_low;
  upto_high = (let a = first.upto_high in let b = c.upto_high in omega (arith, a, b));
  here = inr first.here;
  least = λ other from s. go other from s;
}
  where
    go : (other : ℕ) → low ≤ other → C other ⊎ Q other → place ≤ other
    go other from (inl d) = let a = first.upto_high in omega (arith, a, c.least other from d)
    go other from (inr q) = first.least other from q

pub cloud_first : (C Q : ℕ → Type 0) (low high clouded : ℕ) → IsLeastPlace C low high clouded → HoldsNowhere Q low clouded → IsFirstPlace (λ x. C x ⊎ Q x) low high (Some clouded)
cloud_first C Q low high clouded c none = record {
  from_low = c.from_low;
  upto_high = c.upto_high;
  here = inl c.here;
  least = λ other from s. go other from s (cases_lt other clouded);
}
  where
    go : (other : ℕ) → low ≤ other → C other ⊎ Q other → (other < clouded) ⊎ (clouded ≤ other) → clouded ≤ other
    go other from s (inr b) = b
    go other from (inl d) (inl b) = c.least other from d
    go other from (inr q) (inl b) = absurd (none other from (omega (arith, b)) q)

-- the same of what was found
pub before_cloud : (C Q : ℕ → Type 0) (low high clouded : ℕ) (seen : Option ℕ) → is_some seen ≡ true → IsLeastPlace C low high clouded → IsFirstPlace Q low clouded seen → IsFirstPlace (λ x. C x ⊎ Q x) low high seen
before_cloud C Q low high clouded None e c first = absurd (true≢false (sym e))
before_cloud C Q low high clouded (Some place) e c first = first_before C Q low high clouded place c first

pub at_cloud : (C Q : ℕ → Type 0) (low high clouded : ℕ) (seen : Option ℕ) → is_some seen ≡ false → IsLeastPlace C low high clouded → IsFirstPlace Q low clouded seen → IsFirstPlace (λ x. C x ⊎ Q x) low high (Some clouded)
at_cloud C Q low high clouded None e c first = cloud_first C Q low high clouded c first
at_cloud C Q low high clouded (Some place) e c first = absurd (true≢false e)

-- clouds that are those of a history
pub clouds_same : (C D : ℕ → Type 0) (low high place : ℕ) → ((x : ℕ) → C x ↔ D x) → IsLeastPlace C low high place → IsLeastPlace D low high place
clouds_same C D low high place same c = record { from_low = c.from_low; upto_high = c.upto_high; here = (same place).0 c.here; least = λ other from d. c.least other from ((same other).1 d) }

-- a fact of places that is another one of them
pub first_same : (P Q : ℕ → Type 0) (low high : ℕ) (place : Option ℕ) → ((x : ℕ) → P x ↔ Q x) → IsFirstPlace P low high place → IsFirstPlace Q low high place
first_same P Q low high None same first = λ place from upto q. first place from upto ((same place).1 q)
first_same P Q low high (Some place) same first = record {
  from_low = first.from_low;
  upto_high = first.upto_high;
  here = (same place).0 first.here;
  least = λ other from q. first.least other from ((same other).1 q);
}

-- only one place may be so
pub only_place : (Q : ℕ → Type 0) (low high place : ℕ) → ((x : ℕ) → Q x → x ≡ place) → SomewhereIn low high Q → IsFirstPlace Q low high (Some place)
only_place Q low high place only (x, l, m, q) = go (only x q)
  where
    go : x ≡ place → IsFirstPlace Q low high (Some place)
    go e = record { from_low = omega (arith, l, e); upto_high = omega (arith, m, e); here = subst Q e q; least = λ other from p. omega (arith, only other p) }

-- by the window of an event
module _ (h : History) (number : ℕ) (event : model.Event) (window : Window) (w : IsWindowOf h event window) (choice : List ℕ) where
  pub least_right : (place : Option ℕ) → IsFirstPlace (λ x. IsRight h number event x (state h choice x)) window.low window.high place → IsLeastRight h choice number event place
  least_right None first = λ place i r. first place (omega (arith, i.0, w.from)) (omega (arith, i.1, w.to)) r
  least_right (Some place) first = record {
    inside = (let a = first.from_low in omega (arith, a, w.from), let b = first.upto_high in omega (arith, b, w.to));
    right = first.here;
    least = λ other i r. first.least other (omega (arith, i.0, w.from)) r;
  }
