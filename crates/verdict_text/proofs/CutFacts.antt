-- A list is cut at the first of some byte in one way.
use Rattle.std.proofs.Common.{◌≡◌, ◌≢◌, ℕ, List, [], ◌∷◌, ◌++◌, ◌<◌, refl}
use Rattle.std.proofs.lemmas.List.Elements.{All-head, All-tail, All-from_get_or}
use Rattle.std.specs.Prelude.{Option, Some, None, IfSome, IfNone}
use Rattle.std.specs.Borrow.{Bor}
use Rattle.std.proofs.lemmas.Str.Pattern.{IsSplitOnceResult, split_parts}
use Rattle.verdict_text.specs.Words.{Lacks}

pub first_cut : (c : ℕ) (xs ys r s : List ℕ) → Lacks c xs → Lacks c ys → xs ++ (c ∷ r) ≡ ys ++ (c ∷ s) → (xs ≡ ys) × (r ≡ s)
first_cut c [] [] r s nx ny e = (refl, cc)
first_cut c [] (y ∷ ys) r s nx ny e = absurd (All-head (λ byte. byte ≢ c) y ys ny (cc))
first_cut c (x ∷ xs) [] r s nx ny e = absurd (All-head (λ byte. byte ≢ c) x xs nx (cc))
first_cut c (x ∷ xs) (y ∷ ys) r s nx ny e =
    let rest = first_cut c xs ys r s (All-tail (λ byte. byte ≢ c) x xs nx) (All-tail (λ byte. byte ≢ c) y ys ny) (cc) in
    let same : x ≡ y = cc in
    (cc, rest.1)

-- a list without the byte isn't cut
pub no_cut : (c : ℕ) (text xs r : List ℕ) → Lacks c text → text ≢ xs ++ (c ∷ r)
no_cut c [] [] r none e = cc
no_cut c [] (x ∷ xs) r none e = cc
no_cut c (y ∷ text) [] r none e = All-head (λ byte. byte ≢ c) y text none (cc)
no_cut c (y ∷ text) (x ∷ xs) r none e = no_cut c text xs r (All-tail (λ byte. byte ≢ c) y text none) (cc)

-- what `split_once` says of an ASCII character
pub split_joined : (c : ℕ) (text : List ℕ) (r : Option (Bor (List ℕ) × Bor (List ℕ))) → c < 128 → IsSplitOnceResult c text r → IfSome r (λ parts. text ≡ parts.0.now ++ c ∷ parts.1.now)
split_joined c text None ascii h = tt
split_joined c text (Some parts) ascii h = (split_parts c text (Some parts) h ascii).0

pub split_whole : (c : ℕ) (text : List ℕ) (r : Option (Bor (List ℕ) × Bor (List ℕ))) → c < 128 → IsSplitOnceResult c text r → IfSome r (λ parts. Lacks c parts.0.now)
split_whole c text None ascii h = tt
split_whole c text (Some parts) ascii h = All-from_get_or (λ byte. byte ≢ c) parts.0.now 0 (split_parts c text (Some parts) h ascii).1

pub split_none : (c : ℕ) (text : List ℕ) (r : Option (Bor (List ℕ) × Bor (List ℕ))) → c < 128 → IsSplitOnceResult c text r → IfNone r (Lacks c text)
split_none c text None ascii h = All-from_get_or (λ byte. byte ≢ c) text 0 (split_parts c text None h ascii)
split_none c text (Some parts) ascii h = tt
