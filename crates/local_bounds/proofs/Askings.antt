-- What is asked for each of a list, one after another.
use Rattle.std.proofs.Common.{◌≡◌, ℕ, ◌+◌, ◌<◌, ◌≤◌, List, [], ◌∷◌, ◌++◌, length, get_or, map, take, sym, ap, ◌∙◌, subst}
use Rattle.std.specs.List.{AllZip}
use Rattle.std.proofs.lemmas.List.{take_more, take_all, map-append}
use Rattle.history_model.specs.Bounding.{Demand}
use Rattle.history_model.specs.Histories.{History}
use Rattle.local_bounds.specs.declared.asking.KeyDemand.{KeyDemand}
use Rattle.local_bounds.specs.Demands.{AreAsked, IsDemandAsking}

pub zip_append : {A B : Type 0} (R : A → B → Type 0) (xs us : List A) (ys vs : List B) → AllZip R xs ys → AllZip R us vs → AllZip R (xs ++ us) (ys ++ vs)
zip_append R [] us [] vs z w = w
zip_append R [] us (y ∷ ys) vs z w = absurd z
zip_append R (x ∷ xs) us [] vs z w = absurd z
zip_append R (x ∷ xs) us (y ∷ ys) vs z w = (z.0, zip_append R xs us ys vs z.1 w)

module _ {X : Type 0} (h : History) (number place : ℕ) (f : X → Demand) (xs : List X) where
  -- one more
  pub asked_more : (i : ℕ) (x : X) (askings after : List KeyDemand) (asking : KeyDemand) → i < length xs → x ≡ get_or xs i x → after ≡ askings ++ asking ∷ []
      → AreAsked h number place (map f (take i xs)) askings → IsDemandAsking h number place (f x) asking → AreAsked h number place (map f (take (i + 1) xs)) after
  asked_more i x askings after asking within is e a b =
      let more : map f (take (i + 1) xs) ≡ map f (take i xs) ++ f x ∷ [] =
      ap (map f) (take_more xs i x within) ∙ map-append f (take i xs) (get_or xs i x ∷ []) ∙ ap (λ z. map f (take i xs) ++ f z ∷ []) (sym is) in
      subst (λ ds. AreAsked h number place ds after) (sym more)
      (subst (λ as'. AreAsked h number place (map f (take i xs) ++ f x ∷ []) as') (sym e)
      (zip_append (IsDemandAsking h number place) (map f (take i xs)) (f x ∷ []) askings (asking ∷ []) a (b, tt)))

  pub asked_all : (i : ℕ) (askings : List KeyDemand) → length xs ≤ i → AreAsked h number place (map f (take i xs)) askings → AreAsked h number place (map f xs) askings
  asked_all i askings over a = subst (λ l. AreAsked h number place (map f l) askings) (take_all i xs over) a
