-- Verdicts of several parts.
use Rattle.std.proofs.Common.{◌≡◌, ◌<◌, ◌≤◌, ◌⊎◌, true, false, nat_le, Option, Some, None, inl, inr, sym, subst, arith}
use Rattle.std.proofs.lemmas.Bool.Decides.{leb_tells}
use Rattle.base_types.specs.Reasons.{code_number}
use Rattle.base_types.specs.declared.verdict.claim.Reason.{Reason}
use Rattle.event_claims.specs.Verdicts.{lesser, IsVerdict}

module _ (P Q : Type 0) (F G : Reason → Type 0) where
  -- the verdict of two parts is the lesser of their codes
  pub both_judged : (a b : Option Reason) → IsVerdict P F a → IsVerdict Q G b → IsVerdict (P × Q) (λ code. F code ⊎ G code) (lesser a b)
  both_judged None None v w = ((v.0, w.0), none)
    where
      none : (code : Reason) → F code ⊎ G code → ⊥
      none code (inl x) = v.1 code x
      none code (inr y) = w.1 code y
  both_judged None (Some b) v w = (inr w.0, least)
    where
      least : (other : Reason) → F other ⊎ G other → code_number b ≤ code_number other
      least other (inl x) = absurd (v.1 other x)
      least other (inr y) = w.1 other y
  both_judged (Some a) None v w = (inl v.0, least)
    where
      least : (other : Reason) → F other ⊎ G other → code_number a ≤ code_number other
      least other (inl x) = v.1 other x
      least other (inr y) = absurd (w.1 other y)
  both_judged (Some a) (Some b) v w = go (leb_tells (code_number a) (code_number b))
    where
      first : code_number a ≤ code_number b → (other : Reason) → F other ⊎ G other → code_number a ≤ code_number other
      first l other (inl x) = v.1 other x
      first l other (inr y) = omega (arith, l, w.1 other y)

      second : code_number b < code_number a → (other : Reason) → F other ⊎ G other → code_number b ≤ code_number other
      second l other (inl x) = omega (arith, l, v.1 other x)
      second l other (inr y) = w.1 other y

      go : ((nat_le (code_number a) (code_number b) ≡ true) × (code_number a ≤ code_number b)) ⊎ ((nat_le (code_number a) (code_number b) ≡ false) × (code_number b < code_number a))
          → IsVerdict (P × Q) (λ code. F code ⊎ G code) (lesser (Some a) (Some b))
      go (inl l) = rw l.0 (inl v.0, first l.1)
      go (inr l) = rw l.0 (inr w.0, second l.1)

  pub both_are : (a b r : Option Reason) → r ≡ lesser a b → IsVerdict P F a → IsVerdict Q G b → IsVerdict (P × Q) (λ code. F code ⊎ G code) r
  both_are a b r e v w = subst (IsVerdict (P × Q) (λ code. F code ⊎ G code)) (sym e) (both_judged a b v w)
