-- The objects that are there, one name after another.
use Rattle.std.proofs.Common.{◌≡◌, ◌≢◌, ℕ, ◌+◌, ◌<◌, List, [], ◌∷◌, ◌++◌, length, take, get_or, Option, Some, None, refl, sym, ap, ◌∙◌, append_assoc, arith}
use Rattle.std.specs.List.{join_with_byte, filter_map, enumerate_from}
use Rattle.std.specs.Option.{option_map}
use Rattle.std.proofs.lemmas.List.{append-nil, take_more, length-take}
use Rattle.std.proofs.lemmas.List.Elements.{filter_map-append}
use Rattle.case_maker.specs.declared.exchange.Held.{Held}
use Rattle.case_maker.specs.Bodies.{held_text, present_texts}

enumerate_push : (n : ℕ) (xs : List (Option Held)) (x : Option Held) → enumerate_from n (xs ++ x ∷ []) ≡ enumerate_from n xs ++ (n + length xs, x) ∷ []
enumerate_push n [] x = let same : n ≡ n + 0 = omega arith in ap (λ k. (k, x) ∷ []) same
enumerate_push n (y ∷ xs) x =
    let same : n + 1 + length xs ≡ n + length (y ∷ xs) = omega arith in
    ap (λ l. (n, y) ∷ l) (enumerate_push (n + 1) xs x ∙ ap (λ k. enumerate_from (n + 1) xs ++ (k, x) ∷ []) same)

-- the texts that an object adds
adds : ℕ → Option Held → List (List ℕ)
adds name None = []
adds name (Some held) = held_text name held ∷ []

one_text : (name : ℕ) (object : Option Held) → filter_map (λ (name, object). option_map (held_text name) object) ((name, object) ∷ []) ≡ adds name object
unfolding adds
one_text name None = refl
one_text name (Some held) = refl

present_more : (objects : List (Option Held)) (n : ℕ) → n < length objects → present_texts (take (n + 1) objects) ≡ present_texts (take n objects) ++ adds n (get_or objects n None)
present_more objects n within =
    let count : length (take n objects) ≡ n = omega (arith, length-take n objects) in
    ap present_texts (take_more objects n None within)
    ∙ ap (filter_map (λ (name, object). option_map (held_text name) object)) (enumerate_push 0 (take n objects) (get_or objects n None))
    ∙ filter_map-append (λ (name, object). option_map (held_text name) object) (enumerate_from 0 (take n objects)) ((0 + length (take n objects), get_or objects n None) ∷ [])
    ∙ ap (λ l. present_texts (take n objects) ++ l) (ap (λ k. filter_map (λ (name, object). option_map (held_text name) object) ((k, get_or objects n None) ∷ [])) (omega (arith, count)) ∙ one_text n (get_or objects n None))

pub present_none : (objects : List (Option Held)) (n : ℕ) → n < length objects → get_or objects n None ≡ None → present_texts (take (n + 1) objects) ≡ present_texts (take n objects)
unfolding adds
present_none objects n within is = present_more objects n within ∙ ap (λ o. present_texts (take n objects) ++ adds n o) is ∙ append-nil (present_texts (take n objects))

pub present_some : (objects : List (Option Held)) (n : ℕ) (held : Held) → n < length objects → get_or objects n None ≡ Some held
    → present_texts (take (n + 1) objects) ≡ present_texts (take n objects) ++ held_text n held ∷ []
unfolding adds
present_some objects n held within is = present_more objects n within ∙ ap (λ o. present_texts (take n objects) ++ adds n o) is

join_more : (c : ℕ) (xs : List (List ℕ)) (x : List ℕ) → xs ≢ [] → join_with_byte c (xs ++ x ∷ []) ≡ (join_with_byte c xs ++ c ∷ []) ++ x
join_more c [] x some = absurd (some refl)
join_more c (y ∷ []) x some = sym (append_assoc y (c ∷ []) x)
join_more c (y ∷ z ∷ xs) x some =
    ap (λ l. y ++ (c ∷ l)) (join_more c (z ∷ xs) x (λ e. cc))
    ∙ sym (ap (λ l. l ++ x) (append_assoc y (c ∷ join_with_byte c (z ∷ xs)) (c ∷ [])) ∙ append_assoc y (c ∷ join_with_byte c (z ∷ xs) ++ c ∷ []) x)

-- what was written before, a comma and one more
pub written_more : (now behind was old : List ℕ) (texts : List (List ℕ)) (text : List ℕ) → texts ≢ [] → was ≡ old ++ join_with_byte 44 texts → behind ≡ was ++ 44 ∷ [] → now ≡ behind ++ text
    → now ≡ old ++ join_with_byte 44 (texts ++ text ∷ [])
written_more now behind was old texts text some before comma last =
    last ∙ ap (λ l. l ++ text) (comma ∙ ap (λ l. l ++ 44 ∷ []) before ∙ append_assoc old (join_with_byte 44 texts) (44 ∷ []))
    ∙ append_assoc old (join_with_byte 44 texts ++ 44 ∷ []) text ∙ ap (λ l. old ++ l) (sym (join_more 44 texts text some))

-- the first one
pub written_first : (now was old : List ℕ) (texts : List (List ℕ)) (text : List ℕ) → texts ≡ [] → was ≡ old ++ join_with_byte 44 texts → now ≡ was ++ text
    → now ≡ old ++ join_with_byte 44 (texts ++ text ∷ [])
written_first now was old texts text none before last =
    last ∙ ap (λ l. l ++ text) (before ∙ ap (λ t. old ++ join_with_byte 44 t) none ∙ append-nil old) ∙ ap (λ t. old ++ join_with_byte 44 (t ++ text ∷ [])) (sym none)

pub some_more : (texts : List (List ℕ)) (text : List ℕ) → texts ++ text ∷ [] ≢ []
some_more [] text e = cc
some_more (x ∷ texts) text e = cc
