-- The terms of a field selector, one after another.
use Rattle.std.proofs.Common.{◌≡◌, ℕ, ◌+◌, ◌<◌, true, List, [], ◌∷◌, ◌++◌, length, get_or, take, drop, map, Option, Some, None, refl, sym, ap, ◌∙◌, inl, inr, codes, add-one, drop-cons, take-append-drop}
use Rattle.std.specs.Prelude.{option_map, MatchOption, nat_eq, if◌then◌else◌}
use Rattle.std.specs.Borrow.{Bor}
use Rattle.std.specs.List.{filter_map, starts_with, cons_option}
use Rattle.std.specs.Str.Pattern.{FindsTextPrefix}
use Rattle.std.proofs.lemmas.Bool.{cases_Bool, cond-true, cond-false}
use Rattle.std.proofs.lemmas.Bool.Decides.{Decides-eqb}
use Rattle.std.proofs.lemmas.Slice.Eq.{starts_is}
use Rattle.std.proofs.lemmas.List.{map-append}
use Rattle.request_attrs.specs.Queries.{term_name, first_of}

-- what `strip_prefix` gives at a text
pub strip_text : (front text : List ℕ) (r : Option (Bor (List ℕ)))
    → MatchOption r (FindsTextPrefix front text None) (λ x. (n : ℕ) × FindsTextPrefix front text (Some n) × (x.now ≡ drop n text) × (length x.now + n ≡ length text))
    → option_map (λ x. x.now) r ≡ (if starts_with nat_eq text front then Some (drop (length front) text) else None)
strip_text front text None lacks =
    elim (cases_Bool (starts_with nat_eq text front)) [
      | inl begins ↦ absurd (lacks (drop (length front) text) ((starts_is Decides-eqb text front _ refl).0 begins))
      | inr other ↦ sym (cond-false (starts_with nat_eq text front) (Some (drop (length front) text)) None other)
    ]
strip_text front text (Some x) found =
    let begins : starts_with nat_eq text front ≡ true = (starts_is Decides-eqb text front _ refl).1 (drop found.0 text) found.1.1 in
    ap Some (found.2 ∙ ap (λ n. drop n text) found.1.0) ∙ sym (cond-true (starts_with nat_eq text front) (Some (drop (length front) text)) None begins)

filter_map-append : (xs ys : List (List ℕ)) → filter_map term_name (xs ++ ys) ≡ filter_map term_name xs ++ filter_map term_name ys
filter_map-append [] ys = refl
filter_map-append (x ∷ xs) ys = more (term_name x) _ _ _ (filter_map-append xs ys)
  where
    more : (found : Option (List ℕ)) (all front behind : List (List ℕ)) → all ≡ front ++ behind → cons_option found all ≡ cons_option found front ++ behind
    more None all front behind e = e
    more (Some name) all front behind e = ap (λ l. name ∷ l) e

-- a further term without a name
pub none_more : (terms : List (Bor (List ℕ))) (x : Bor (List ℕ)) → filter_map term_name (map (λ t. t.now) terms) ≡ [] → term_name x.now ≡ None
    → filter_map term_name (map (λ t. t.now) (terms ++ (x ∷ []))) ≡ []
none_more terms x none no_name =
    rw (map-append (λ (t : Bor (List ℕ)). t.now) terms (x ∷ [])) (rw (filter_map-append (map (λ t. t.now) terms) (x.now ∷ [])) (rw (none, no_name)))

cut_at : (all : List (List ℕ)) (k : ℕ) (x : List ℕ) → k < length all → all ≡ take k all ++ (get_or all k x ∷ drop (k + 1) all)
cut_at all k x within = sym (take-append-drop k all) ∙ ap (λ l. take k all ++ l) (rw (add-one, drop-cons all k x))

-- the first term with a name
pub first_found : (all : List (List ℕ)) (k : ℕ) (x name : List ℕ) → filter_map term_name (take k all) ≡ [] → k < length all → x ≡ get_or all k x → term_name x ≡ Some name
    → first_of (filter_map term_name all) ≡ Some name
first_found all k x name none within at found =
    let cut : all ≡ take k all ++ (x ∷ drop (k + 1) all) = cut_at all k x within ∙ ap (λ y. take k all ++ (y ∷ drop (k + 1) all)) (sym at) in
    rw (ap (filter_map term_name) cut ∙ filter_map-append (take k all) (x ∷ drop (k + 1) all)) (rw (none, found))

-- the second of a term's two forms, where it hasn't the first
pub second_form : (term : List ℕ) (found : Option (List ℕ)) → None ≡ (if starts_with nat_eq term (codes "metadata.name==") then Some (drop 15 term) else None)
    → found ≡ (if starts_with nat_eq term (codes "metadata.name=") then Some (drop 14 term) else None) → found ≡ term_name term
second_form term found first second =
    let double = starts_with nat_eq term (codes "metadata.name==") in
    elim (cases_Bool double) [
      | inl begins ↦
          let wrong : None ≡ Some (drop 15 term) = first ∙ cond-true double (Some (drop 15 term)) None begins in
          absurd (cc)
      | inr other ↦ second ∙ sym (cond-false double (Some (drop 15 term)) _ other)
    ]
