-- A list in which a test finds no two equal items has none.
use Rattle.std.proofs.Common.{◌≡◌, ℕ, Bool, true, false, not, List, [], ◌∷◌, sym, ap, ◌∙◌, arith, rules, true≢false, bytes_eq, eqb}
use Rattle.std.specs.Prelude.{map, ◌≢◌}
use Rattle.std.specs.List.{All, AllPairs, list_any}
use Rattle.std.proofs.lemmas.Bool.{and_parts, and_from, or_parts, not-true}
use Rattle.std.proofs.lemmas.Bool.Decides.{Decides-eqb}
use Rattle.std.proofs.lemmas.List.Elements.{All-nil, All-cons}
use Rattle.std.proofs.lemmas.List.Kept.{AllPairs-cons}
use Rattle.std.proofs.lemmas.Slice.Eq.{bytes_eq-Decides}
use Rattle.setup_file.specs.Distinct.{are_distinct, pair_eq, key_eq}

-- the test holds of equal items
abbrev pub Tells : {Y : Type 0} → (Y → Y → Bool) → Type 0
Tells {Y} same = (a b : Y) → a ≡ b → same a b ≡ true

pub bytes_tell : Tells bytes_eq
bytes_tell a b e = (bytes_eq-Decides a b).1 e

pub numbers_tell : Tells eqb
numbers_tell a b e = (Decides-eqb a b).1 e

pub pairs_tell : Tells pair_eq
pairs_tell a b e =
    and_from (bytes_eq a.0 b.0) (bytes_eq a.1 b.1)
    ((bytes_eq-Decides a.0 b.0).1 (ap (λ (p : List ℕ × List ℕ). p.0) e))
    ((bytes_eq-Decides a.1 b.1).1 (ap (λ (p : List ℕ × List ℕ). p.1) e))

pub keys_tell : Tells key_eq
keys_tell a b e = search rules

-- an item with which none of the others is equal
others_differ : {X Y : Type 0} (same : Y → Y → Bool) (view : X → Y) → Tells same → (x : X) (xs : List X)
    → list_any (λ other. same other (view x)) (map view xs) ≡ false → All (λ other. view x ≢ view other) xs
others_differ same view tells x [] none = All-nil (λ other. view x ≢ view other)
others_differ same view tells x (y ∷ ys) none =
    let parts = or_parts (same (view y) (view x)) (list_any (λ other. same other (view x)) (map view ys)) none in
    All-cons (λ other. view x ≢ view other) y ys
    (λ e. true≢false (sym (tells (view y) (view x) (sym e)) ∙ parts.0))
    (others_differ same view tells x ys parts.1)

pub distinct_apart : {X Y : Type 0} (same : Y → Y → Bool) (view : X → Y) → Tells same → (xs : List X)
    → are_distinct same (map view xs) ≡ true → AllPairs (λ a b. view a ≢ view b) xs
distinct_apart same view tells [] are = λ i j d below within. absurd (omega arith)
distinct_apart same view tells (x ∷ xs) are =
    let none = list_any (λ other. same other (view x)) (map view xs) in
    let parts = and_parts (not none) (are_distinct same (map view xs)) are in
    AllPairs-cons (λ a b. view a ≢ view b) x xs
    (others_differ same view tells x xs (not-true none parts.0))
    (distinct_apart same view tells xs parts.1)
