-- What one more item changes of those that a test keeps.
use Rattle.std.proofs.Common.{◌≡◌, ℕ, ◌+◌, ◌<◌, Bool, true, false, List, [], ◌∷◌, ◌++◌, Bor, cond, filter, get_or, length, map, take, ap, sym, ◌∙◌}
use Rattle.std.proofs.lemmas.List.{append-nil, map-append}
use Rattle.std.proofs.lemmas.List.Elements.{filter_more}

-- what the references of a list lead to
abbrev led : {A : Type 0} → List (Bor A) → List A
led list = map (λ one. one.now) list

one_more : {A : Type 0} (p : A → Bool) (items : List A) (i : ℕ) (x : A) (b : Bool) → i < length items → x ≡ get_or items i x → p x ≡ b
    → filter p (take (i + 1) items) ≡ filter p (take i items) ++ cond b (x ∷ []) []
one_more p items i x b inside is test =
    filter_more p items i x inside
    ∙ ap (λ y. filter p (take i items) ++ cond (p y) (y ∷ []) []) (sym is)
    ∙ ap (λ c. filter p (take i items) ++ cond c (x ∷ []) []) test

-- one that passes is put behind the others
pub kept : {A : Type 0} (p : A → Bool) (items : List A) (i : ℕ) (x : A) (before after : List (Bor A)) (one : Bor A) → i < length items → x ≡ get_or items i x → p x ≡ true
    → after ≡ before ++ one ∷ [] → one.now ≡ x → led before ≡ filter p (take i items) → led after ≡ filter p (take (i + 1) items)
kept p items i x before after one inside is passes more same held =
    ap (λ l. led l) more
    ∙ map-append _ before (one ∷ [])
    ∙ ap (λ l. l ++ one.now ∷ []) held
    ∙ ap (λ y. filter p (take i items) ++ y ∷ []) same
    ∙ sym (one_more p items i x true inside is passes)

-- one that fails changes nothing
pub passed : {A : Type 0} (p : A → Bool) (items : List A) (i : ℕ) (x : A) (before after : List (Bor A)) → i < length items → x ≡ get_or items i x → p x ≡ false
    → after ≡ before → led before ≡ filter p (take i items) → led after ≡ filter p (take (i + 1) items)
passed p items i x before after inside is fails same held =
    ap (λ l. led l) same
    ∙ held
    ∙ sym (append-nil (filter p (take i items)))
    ∙ sym (one_more p items i x false inside is fails)
