-- What a loop over a list makes, one item further.
use Rattle.std.proofs.Common.{◌≡◌, ℕ, ◌+◌, ◌<◌, List, [], ◌∷◌, ◌++◌, length, get_or, take, drop, append_assoc, sym, ap, subst, ◌∙◌}
use Rattle.std.specs.Prelude.{fold, map}
use Rattle.std.specs.List.{flat_map}
use Rattle.std.proofs.lemmas.List.{take_more, drop_more, flat_map_more, map-append}
use Rattle.std.proofs.lemmas.List.Sums.{fold_more}

pub gathered : {X A : Type 0} (f : X → List A) (xs : List X) (i : ℕ) (x : X) (old new : List A)
    → i < length xs → x ≡ get_or xs i x → old ≡ flat_map f (take i xs) → new ≡ old ++ f x → new ≡ flat_map f (take (i + 1) xs)
gathered f xs i x old new within is before after =
    after ∙ ap (λ l. l ++ f x) before ∙ flat_map_more f [] (take i xs) x
    ∙ ap (flat_map f) (sym (take_more xs i x within ∙ ap (λ y. take i xs ++ y ∷ []) (sym is)))

pub folded : {X B : Type 0} (f : B → X → B) (start : B) (xs : List X) (i : ℕ) (d : X) (old new : B)
    → i < length xs → old ≡ fold f start (take i xs) → new ≡ f old (get_or xs i d) → new ≡ fold f start (take (i + 1) xs)
folded f start xs i d old new within before after = after ∙ ap (λ b. f b (get_or xs i d)) before ∙ sym (fold_more f start xs i d within)

-- what holds of an item in front of those behind it holds from its place on
pub from_here : {A : Type 0} (P : List A → Type 0) (xs : List A) (i : ℕ) (x : A) → i < length xs → x ≡ get_or xs i x → P (x ∷ drop (i + 1) xs) → P (drop i xs)
from_here P xs i x within is held = subst P (ap (λ y. y ∷ drop (i + 1) xs) is ∙ sym (drop_more xs i x within)) held

-- what is made of one item more, behind others
pub mapped : {X A : Type 0} (f : X → A) (xs : List X) (i : ℕ) (d : X) (item : A) (front old new : List A)
    → i < length xs → old ≡ front ++ map f (take i xs) → item ≡ f (get_or xs i d) → new ≡ old ++ (item ∷ []) → new ≡ front ++ map f (take (i + 1) xs)
mapped f xs i d item front old new within before is after =
    after ∙ ap (λ l. l ++ (item ∷ [])) before ∙ append_assoc front (map f (take i xs)) (item ∷ [])
    ∙ ap (λ l. front ++ l)
    (ap (λ y. map f (take i xs) ++ (y ∷ [])) is
    ∙ sym (ap (map f) (take_more xs i d within) ∙ map-append f (take i xs) (get_or xs i d ∷ [])))
