-- What is made of the items of a list, one after another, where each can be made.
use Rattle.std.proofs.Common.{◌≡◌, ℕ, suc, ◌+◌, ◌<◌, List, [], ◌∷◌, ◌++◌, length, get_or, drop, Option, Some, None, refl, sym, ap, subst, ◌∙◌, append_assoc}
use Rattle.std.specs.Prelude.{option_map, option_and_then}
use Rattle.std.specs.List.{All}
use Rattle.std.proofs.lemmas.List.Elements.{All-nil, All-cons, All-head, All-tail}
use Rattle.base_types.proofs.Found.{same_some, found_both}
use Rattle.setup_file.proofs.Seen.{cut}

-- what one item makes, before what the others make
abbrev pub before_rest : {B : Type 0} → Option (List B) → Option B → Option (List B)
before_rest rest found = option_and_then (λ b. option_and_then (λ bs. Some (b ∷ bs)) rest) found

behind : {B : Type 0} (done : List B) (b : B) (rest : Option (List B)) → option_map (λ bs. done ++ bs) (before_rest rest (Some b)) ≡ option_map (λ bs. (done ++ b ∷ []) ++ bs) rest
behind done b None = refl
behind done b (Some bs) = ap Some (sym (append_assoc done (b ∷ []) bs))

-- one more item
pub gathered : {A B : Type 0} (f : A → Option B) (many : List A → Option (List B)) → ((x : A) (xs : List A) → many (x ∷ xs) ≡ before_rest (many xs) (f x))
    → (all : Option (List B)) (xs : List A) (i : ℕ) (item : A) (done : List B) (b : B) → i < length xs → item ≡ get_or xs i item → f item ≡ Some b
    → all ≡ option_map (λ rest. done ++ rest) (many (drop i xs)) → all ≡ option_map (λ rest. (done ++ b ∷ []) ++ rest) (many (drop (i + 1) xs))
gathered f many unfolds all xs i item done b within at read before =
    before
    ∙ ap (λ l. option_map (λ rest. done ++ rest) (many l)) (cut xs i item within at)
    ∙ ap (option_map (λ rest. done ++ rest)) (unfolds item (drop (i + 1) xs) ∙ ap (before_rest (many (drop (i + 1) xs))) read)
    ∙ behind done b (many (drop (i + 1) xs))

-- the same where each has its number
pub gathered_from : {A B : Type 0} (f : ℕ → A → Option B) (many : ℕ → List A → Option (List B)) → ((n : ℕ) (x : A) (xs : List A) → many n (x ∷ xs) ≡ before_rest (many (n + 1) xs) (f n x))
    → (all : Option (List B)) (xs : List A) (i : ℕ) (item : A) (done : List B) (b : B) → i < length xs → item ≡ get_or xs i item → f (i + 1) item ≡ Some b
    → all ≡ option_map (λ rest. done ++ rest) (many (i + 1) (drop i xs)) → all ≡ option_map (λ rest. (done ++ b ∷ []) ++ rest) (many (i + 1 + 1) (drop (i + 1) xs))
gathered_from f many unfolds all xs i item done b within at read before =
    before
    ∙ ap (λ l. option_map (λ rest. done ++ rest) (many (i + 1) l)) (cut xs i item within at)
    ∙ ap (option_map (λ rest. done ++ rest)) (unfolds (i + 1) item (drop (i + 1) xs) ∙ ap (before_rest (many (i + 1 + 1) (drop (i + 1) xs))) read)
    ∙ behind done b (many (i + 1 + 1) (drop (i + 1) xs))

-- what was made of an item, and what of the others
pub taken : {B : Type 0} (found : Option B) (rest : Option (List B)) (all : List B) → before_rest rest found ≡ Some all
    → (b : B) × (bs : List B) × (found ≡ Some b) × (rest ≡ Some bs) × (b ∷ bs ≡ all)
taken found rest all e =
    let one = found_both found (λ b. option_and_then (λ bs. Some (b ∷ bs)) rest) all e in
    let more = found_both rest (λ bs. Some (one.0 ∷ bs)) all one.2 in
    (one.0, more.0, one.1, more.1, same_some (one.0 ∷ more.0) all more.2)

-- what holds of all that is made, since it does of what each item makes
pub gathered_all : {A B : Type 0} (f : A → Option B) (many : List A → Option (List B)) → many [] ≡ Some [] → ((x : A) (xs : List A) → many (x ∷ xs) ≡ before_rest (many xs) (f x))
    → (P : A → Type 0) (Q : B → Type 0) → ((x : A) (b : B) → P x → f x ≡ Some b → Q b)
    → (xs : List A) (bs : List B) → All P xs → many xs ≡ Some bs → All Q bs
gathered_all f many none unfolds P Q each [] bs all e = subst (All Q) (same_some [] bs (sym none ∙ e)) (All-nil Q)
gathered_all f many none unfolds P Q each (x ∷ xs) bs all e =
    let made = taken (f x) (many xs) bs (sym (unfolds x xs) ∙ e) in
    subst (All Q) made.4
    (All-cons Q made.0 made.1 (each x made.0 (All-head P x xs all) made.2)
    (gathered_all f many none unfolds P Q each xs made.1 (All-tail P x xs all) made.3))

-- each item makes one
pub gathered_length : {A B : Type 0} (f : A → Option B) (many : List A → Option (List B)) → many [] ≡ Some [] → ((x : A) (xs : List A) → many (x ∷ xs) ≡ before_rest (many xs) (f x))
    → (xs : List A) (bs : List B) → many xs ≡ Some bs → length bs ≡ length xs
gathered_length f many none unfolds [] bs e = ap length (sym (same_some [] bs (sym none ∙ e)))
gathered_length f many none unfolds (x ∷ xs) bs e =
    let made = taken (f x) (many xs) bs (sym (unfolds x xs) ∙ e) in
    ap length (sym made.4) ∙ ap suc (gathered_length f many none unfolds xs made.1 made.3)
