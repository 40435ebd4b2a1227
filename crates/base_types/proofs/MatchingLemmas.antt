-- Entries and patterns, told by the parts that `strip_prefix` and `strip_suffix` find.
use Rattle.std.proofs.Common.{◌≡◌, ◌≢◌, ℕ, ◌+◌, ◌-◌, Bool, true, false, List, [], ◌∷◌, ◌++◌, length, take, drop, Some, Decides, refl, sym, ap, ◌∙◌, arith, codes, bytes_eq, nat_eq, length-append}
use Rattle.std.specs.List.{starts_with, ends_with}
use Rattle.std.specs.Str.Pattern.{FindsTextPrefix}
use Rattle.std.proofs.lemmas.Bool.{cond-true, cond-false, false_from_ne_true}
use Rattle.std.proofs.lemmas.Bool.Decides.{Decides-eqb, same_from_decides}
use Rattle.std.proofs.lemmas.Grind.{common_steps}
use Rattle.std.proofs.lemmas.List.{take-append-le}
use Rattle.std.proofs.lemmas.Slice.Eq.{bytes_eq-Decides, ends_is}
use Rattle.base_types.specs.Matching.{path_matches, combined}

same_behind : (front xs ys : List ℕ) → front ++ xs ≡ front ++ ys → xs ≡ ys
same_behind [] xs ys e = e
same_behind (b ∷ front) xs ys e = same_behind front xs ys (cc)

-- a text that begins with the resource, and how it goes on
pub combined_by_rest : (text resource subresource rest : List ℕ) (r : Bool) → text ≡ resource ++ rest → Decides r (rest ≡ 47 ∷ subresource) → r ≡ bytes_eq text (combined resource subresource)
combined_by_rest text resource subresource rest r begins told =
    same_from_decides r (bytes_eq text (combined resource subresource))
    (λ same. begins ∙ ap (λ l. resource ++ l) (told.0 same), λ e. told.1 (same_behind resource rest (47 ∷ subresource) (sym begins ∙ e)))
    (bytes_eq-Decides text (combined resource subresource))

pub not_combined : (text resource subresource : List ℕ) → ((rest : List ℕ) → text ≢ resource ++ rest) → bytes_eq text (combined resource subresource) ≡ false
not_combined text resource subresource none =
    false_from_ne_true _ (λ e. none (47 ∷ subresource) ((bytes_eq-Decides text (combined resource subresource)).0 e))

-- what is behind the slash is the subresource
pub told_behind : (rest behind subresource : List ℕ) → rest ≡ 47 ∷ behind → Decides (bytes_eq behind subresource) (rest ≡ 47 ∷ subresource)
told_behind rest behind subresource e =
    (λ same. e ∙ ap (λ l. 47 ∷ l) ((bytes_eq-Decides behind subresource).0 same), λ same. (bytes_eq-Decides behind subresource).1 (same_behind (47 ∷ []) behind subresource (sym e ∙ same)))

pub told_none : (rest subresource : List ℕ) → ((behind : List ℕ) → rest ≢ 47 ∷ behind) → Decides false (rest ≡ 47 ∷ subresource)
told_none rest subresource none = (λ e. absurd (cc), λ e. absurd (none subresource e))

-- an entry with a last `*`
pub front_matches : (entry front path : List ℕ) → entry ≡ front ++ (42 ∷ []) → starts_with nat_eq path front ≡ path_matches entry path
front_matches entry front path e =
    let ends : ends_with nat_eq entry (codes "*") ≡ true = (ends_is Decides-eqb entry (codes "*") _ refl).1 front e in
    let cut : take (length entry - 1) entry ≡ front =
    let len : length entry - 1 ≡ length front = omega (arith, ap length e, length-append front (42 ∷ [])) in
    ap (λ n. take n entry) len ∙ ap (take (length front)) e ∙ take-append-le (length front) front (42 ∷ []) (omega arith) ∙ grind (arith, common_steps) in
    ap (starts_with nat_eq path) (sym cut) ∙ sym (cond-true (ends_with nat_eq entry (codes "*")) _ _ ends)

pub whole_matches : (entry path : List ℕ) → ((front : List ℕ) → entry ≢ front ++ (42 ∷ [])) → bytes_eq entry path ≡ path_matches entry path
whole_matches entry path none =
    let other : ends_with nat_eq entry (codes "*") ≡ false =
    false_from_ne_true _ (λ e. none _ ((ends_is Decides-eqb entry (codes "*") _ refl).0 e)) in
    sym (cond-false (ends_with nat_eq entry (codes "*")) _ _ other)

-- what `strip_prefix` finds at a text
pub begins_from_strip : (front text rest : List ℕ) → (n : ℕ) × FindsTextPrefix front text (Some n) × (rest ≡ drop n text) × (length rest + n ≡ length text) → text ≡ front ++ rest
begins_from_strip front text rest found = found.1.1 ∙ ap (λ l. front ++ l) (sym found.2)
