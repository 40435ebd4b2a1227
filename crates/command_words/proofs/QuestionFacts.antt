-- What the words of a question come to.
use Rattle.std.proofs.Common.{◌≡◌, ◌≢◌, ◌<◌, ◌≤◌, ◌-◌, ℕ, List, [], ◌∷◌, length, get_or, map, take, drop, Option, Some, None, Result, Ok, Err, IfOk, IfNone, refl, ◌∙◌, ap, arith}
use Rattle.std.proofs.lemmas.List.{take_all}
use Rattle.request_attrs.specs.Refusals.{IsCause, IsReadable}
use Rattle.request_attrs.specs.declared.fault.UriFault.{UriFault}
use Rattle.request_attrs.specs.declared.fault.UriFault.TheVariants as fault
use Rattle.command_words.specs.Command.{Ask, Asked, IsAskRead, IsPlainRead, IsRead, Judge, Make, Spells, Strict, Verify}
use Rattle.command_words.specs.declared.words.Command.{Command}

-- a URI that was refused for itself has no attributes
not_readable : (uri : List ℕ) (why : UriFault) → why ≢ fault.OutOfMemory → IsCause uri why → IsReadable uri → ⊥
not_readable uri fault.NoSlash memory cause readable = cause readable.slash
not_readable uri fault.BadEscape memory cause readable = cause.1 readable.escapes
not_readable uri fault.NotText memory cause readable = cause.2 readable.utf8
not_readable uri fault.OutOfMemory memory cause readable = memory refl

pub none_readable : {A E : Type 0} (uri : List ℕ) (why : UriFault) (found : Result (Option A) E) → IsCause uri why → IfOk found (λ attrs. (attrs ≡ None) × (why ≢ fault.OutOfMemory)) → IfOk found (λ attrs. IfNone attrs (IsReadable uri → ⊥))
none_readable uri why (Ok None) cause refused = not_readable uri why refused.1 cause
none_readable uri why (Ok (Some attrs)) cause refused = tt
none_readable uri why (Err stop) cause refused = tt

-- words of no plain command ask what they are read as
pub read_of_asked : {E : Type 0} (words : List (List ℕ)) (found : Result (Option Command) E) → IsPlainRead words None → IfOk found (IsAskRead words) → IfOk found (IsRead words)
read_of_asked words (Ok None) plain asked = no_command
  where
    no_command : (command : Asked) → Spells command words → ⊥
    no_command (Judge setup log) spelled = plain (Judge setup log) tt spelled
    no_command (Strict setup log) spelled = plain (Strict setup log) tt spelled
    no_command (Verify setup log placement) spelled = plain (Verify setup log placement) tt spelled
    no_command (Ask setup log question) spelled = asked setup log question spelled
    no_command (Make number events) spelled = plain (Make number events) tt spelled
read_of_asked words (Ok (Some command)) plain asked = asked
read_of_asked words (Err stop) plain asked = tt

-- the texts of a list of five
pub five_words : {A : Type 0} (f : A → List ℕ) (xs : List A) (a b c d e : A) (p q r s t : List ℕ) → 5 ≤ length xs → length xs < 6
    → a ≡ get_or xs 0 a → b ≡ get_or xs 1 b → c ≡ get_or xs 2 c → d ≡ get_or xs 3 d → e ≡ get_or xs 4 e
    → p ≡ f a → q ≡ f b → r ≡ f c → s ≡ f d → t ≡ f e → p ∷ q ∷ r ∷ s ∷ t ∷ [] ≡ map f xs
five_words f [] a b c d e p q r s t some few at0 at1 at2 at3 at4 pa qb rc sd te = absurd (omega (arith, some))
five_words f (v ∷ []) a b c d e p q r s t some few at0 at1 at2 at3 at4 pa qb rc sd te = absurd (omega (arith, some))
five_words f (v ∷ w ∷ []) a b c d e p q r s t some few at0 at1 at2 at3 at4 pa qb rc sd te = absurd (omega (arith, some))
five_words f (v ∷ w ∷ x ∷ []) a b c d e p q r s t some few at0 at1 at2 at3 at4 pa qb rc sd te = absurd (omega (arith, some))
five_words f (v ∷ w ∷ x ∷ y ∷ []) a b c d e p q r s t some few at0 at1 at2 at3 at4 pa qb rc sd te = absurd (omega (arith, some))
five_words f (v ∷ w ∷ x ∷ y ∷ z ∷ []) a b c d e p q r s t some few at0 at1 at2 at3 at4 pa qb rc sd te =
    λ i. (pa ∙ ap f at0) i ∷ (qb ∙ ap f at1) i ∷ (rc ∙ ap f at2) i ∷ (sd ∙ ap f at3) i ∷ (te ∙ ap f at4) i ∷ []
five_words f (v ∷ w ∷ x ∷ y ∷ z ∷ u ∷ more) a b c d e p q r s t some few at0 at1 at2 at3 at4 pa qb rc sd te = absurd (omega (arith, few))

-- the texts of a list, of which three stand in front
pub three_in_front : {A : Type 0} (f : A → List ℕ) (xs : List A) (a b c : A) (p q r : List ℕ) → 3 ≤ length xs
    → a ≡ get_or xs 0 a → b ≡ get_or xs 1 b → c ≡ get_or xs 2 c → p ≡ f a → q ≡ f b → r ≡ f c
    → p ∷ q ∷ r ∷ map f (take (length xs - 3) (drop 3 xs)) ≡ map f xs
three_in_front f [] a b c p q r some at0 at1 at2 pa qb rc = absurd (omega (arith, some))
three_in_front f (v ∷ []) a b c p q r some at0 at1 at2 pa qb rc = absurd (omega (arith, some))
three_in_front f (v ∷ w ∷ []) a b c p q r some at0 at1 at2 pa qb rc = absurd (omega (arith, some))
three_in_front f (v ∷ w ∷ x ∷ rest) a b c p q r some at0 at1 at2 pa qb rc =
    let whole : take (length (v ∷ w ∷ x ∷ rest) - 3) rest ≡ rest = take_all _ rest (omega arith) in
    λ i. (pa ∙ ap f at0) i ∷ (qb ∙ ap f at1) i ∷ (rc ∙ ap f at2) i ∷ map f (whole i)
