-- When the maker of a revision is known before it is asked what writes could have found.
use Rattle.std.proofs.Common.{◌≡◌, ℕ, zero, suc, ◌+◌, ◌<◌, Bool, true, false, ◌&&◌, List, [], ◌∷◌, length, get_or, take, filter, find, Option, Some, None, is_none, is_some, option_map, if◌then◌else◌, refl, sym, ap, ◌∙◌, arith}
use Rattle.std.proofs.lemmas.List.{take_more}
use Rattle.std.proofs.lemmas.List.Folds.{find-append}
use Rattle.base_types.specs.declared.verdict.claim.Reason.{Reason}
use Rattle.past_building.specs.Chosen.{able_maker, first_able, must_have_made}
use Rattle.past_building.specs.Removals.{or_first}
use Rattle.past_building.specs.declared.maker.JudgedWrite.{JudgedWrite}

-- where none could have made the revision, none must have
none_must : (finding : ℕ → Option Reason) (judged : List JudgedWrite) → length (filter (λ one. is_none one.making) judged) < 1 → find (must_have_made finding) judged ≡ None
none_must finding [] few = refl
none_must finding (j ∷ judged) few = go (is_none j.making) (is_some (finding j.number)) (filter (λ one. is_none one.making) judged) (find (must_have_made finding) judged) few (none_must finding judged)
  where
    go : (a b : Bool) (able : List JudgedWrite) (must : Option JudgedWrite) → length (if a then j ∷ able else able) < 1 → (length able < 1 → must ≡ None) → (if a && b then Some j else must) ≡ None
    go true b able must few none = absurd (omega (arith, few))
    go false b able must few none = none few

-- where one alone could have made the revision, nothing needs to be asked of it
pub one_able : (finding : ℕ → Option Reason) (judged : List JudgedWrite) → length (filter (λ one. is_none one.making) judged) < 2 → first_able judged ≡ able_maker finding judged
one_able finding [] few = refl
one_able finding (j ∷ judged) few =
    go (is_none j.making) (is_some (finding j.number)) (filter (λ one. is_none one.making) judged) (find (must_have_made finding) judged) (find (λ one. is_none one.making) judged) few
    (none_must finding judged) (one_able finding judged)
  where
    go : (a b : Bool) (able : List JudgedWrite) (must found : Option JudgedWrite) → length (if a then j ∷ able else able) < 2 → (length able < 1 → must ≡ None)
        → (length able < 2 → option_map (λ one. one.number) found ≡ or_first (option_map (λ one. one.number) must) (option_map (λ one. one.number) found))
        → option_map (λ one. one.number) (if a then Some j else found)
        ≡ or_first (option_map (λ one. one.number) (if a && b then Some j else must)) (option_map (λ one. one.number) (if a then Some j else found))
    go true true able must found few none rest = refl
    go true false able must found few none rest = sym (ap (λ o. or_first (option_map (λ (one : JudgedWrite). one.number) o) (Some j.number)) (none (omega (arith, few))))
    go false b able must found few none rest = rest few

-- the test of one more write of a search
pub none_more : {X : Type 0} (test : X → Bool) (xs : List X) (i : ℕ) (d : X) → i < length xs → find test (take i xs) ≡ None → test (get_or xs i d) ≡ false → find test (take (i + 1) xs) ≡ None
none_more test xs i d within none fails = ap (find test) (take_more xs i d within) ∙ find-append test (take i xs) (get_or xs i d ∷ []) ∙ rw (none, fails) refl

pub found_at : {X : Type 0} (test : X → Bool) (xs : List X) (i : ℕ) (d : X) → i < length xs → find test (take i xs) ≡ None → test (get_or xs i d) ≡ true → find test xs ≡ Some (get_or xs i d)
found_at test [] i d within none holds = absurd (omega (arith, within))
found_at test (x ∷ xs) zero d within none holds = let here : test x ≡ true = holds in rw here refl
found_at {X} test (x ∷ xs) (suc i) d within none holds = go (test x) (find test (take i xs)) none (λ rest. found_at test xs i d (omega (arith, within)) rest holds)
  where
    go : (t : Bool) (front : Option X) → (if t then Some x else front) ≡ None → (front ≡ None → find test xs ≡ Some (get_or xs i d)) → (if t then Some x else find test xs) ≡ Some (get_or xs i d)
    go true front none rest = absurd (cc none)
    go false front none rest = rest none
