-- The revision that a text spells, from what is read of it.
use Rattle.std.proofs.Common.{◌≡◌, ℕ, ◌<◌, ◌≤◌, ◌^◌, ◌-◌, Bool, true, false, ◌&&◌, List, Some, None, bytes_eq, nat_lt, nat_le, refl, ap, ◌∙◌, arith}
use Rattle.std.specs.Prelude.{◌≢◌, decimal, cond}
use Rattle.std.specs.Str.Parse.{digits_value}
use Rattle.std.proofs.lemmas.Fmt.{decimal_is_IsNumeral}
use Rattle.std.proofs.lemmas.Grind.{common_steps}
use Rattle.std.proofs.lemmas.Slice.Eq.{bytes_eq-Decides}
use Rattle.base_types.specs.Revisions.{IsRevision, revision_of, spells_revision}

spelled : (text : List ℕ) (n : ℕ) → IsRevision n → text ≡ decimal n → spells_revision text n ≡ true
spelled text n range e =
    let above : nat_lt 0 n ≡ true = grind (arith, common_steps, range.0) in
    let below : nat_le n (2 ^ 64 - 2) ≡ true = grind (arith, common_steps, range.1) in
    rw (above, below) ((bytes_eq-Decides text (decimal n)).1 e)

pub some_is : (text : List ℕ) (n : ℕ) → IsRevision n → text ≡ decimal n → Some n ≡ revision_of text
some_is text n range e =
    let small : n < 2 ^ 64 = omega (arith, range.0, range.1) in
    let value : digits_value 10 text ≡ n = ap (digits_value 10) e ∙ (decimal_is_IsNumeral n small).1 in
    rw (value, spelled text n range e) refl

both : (a b c : Bool) → (a && b && c) ≡ true → (a ≡ true) × (b ≡ true) × (c ≡ true)
both true true true e = (refl, refl, refl)
both true true false e = (refl, refl, e)
both true false c e = (refl, e, absurd (no e))
  where
    no : false ≡ true → ⊥
    no f = cc
both false b c e = (e, absurd (no e), absurd (no e))
  where
    no : false ≡ true → ⊥
    no f = cc

pub none_is : (text : List ℕ) → ((n : ℕ) → IsRevision n → text ≢ decimal n) → None ≡ revision_of text
none_is text none = go (spells_revision text (digits_value 10 text)) refl
  where
    go : (b : Bool) → spells_revision text (digits_value 10 text) ≡ b → None ≡ cond b (Some (digits_value 10 text)) None
    go false e = refl
    go true e =
        let parts = both (nat_lt 0 (digits_value 10 text)) (nat_le (digits_value 10 text) (2 ^ 64 - 2)) (bytes_eq text (decimal (digits_value 10 text))) e in
        let above : 0 < digits_value 10 text = grind (arith, common_steps, parts.0) in
        let below : digits_value 10 text ≤ 2 ^ 64 - 2 = grind (arith, common_steps, parts.1) in
        absurd (none (digits_value 10 text) (above, below) ((bytes_eq-Decides text (decimal (digits_value 10 text))).0 parts.2))
