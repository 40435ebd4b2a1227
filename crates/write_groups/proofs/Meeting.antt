-- What the test of a request's preconditions tells.
use Rattle.std.proofs.Common.{◌≡◌, ℕ, Bool, true, false, ◌&&◌, List, Option, Some, None, refl, sym, ◌∙◌, ⊎_elim, true≢false}
use Rattle.std.specs.Prelude.{◌↔◌, IsTrue, IfSome, bytes_eq}
use Rattle.std.specs.Cmp.Lexicographic.{bytes_decides}
use Rattle.std.proofs.lemmas.Bool.Decides.{eqb_tells}
use Rattle.history_model.specs.Making.{AreMet}
use Rattle.write_groups.specs.Met.{asks_revision, asks_uid, are_met}
use Rattle.write_groups.specs.Modelled.{conditions_of}
use Rattle.write_groups.specs.declared.event.Preconditions.{Preconditions}

pub both_true : {P Q : Type 0} (a b : Bool) → (IsTrue a ↔ P) → (IsTrue b ↔ Q) → IsTrue (a && b) ↔ (P × Q)
both_true true b p q = ((λ t. (p.0 refl, q.0 t)), λ held. q.1 held.1)
both_true false b p q = ((λ t. absurd (true≢false (sym t))), λ held. p.1 held.0)

revision_told : (wanted : Option ℕ) (revision : ℕ) → IsTrue (asks_revision wanted revision) ↔ IfSome wanted (λ asked. asked ≡ revision)
revision_told None revision = ((λ t. tt), λ held. refl)
revision_told (Some asked) revision = ⊎_elim
    (λ same. ((λ t. same.1), λ held. same.0))
    (λ other. ((λ t. absurd (true≢false (sym t ∙ other.0))), λ held. absurd (other.1 held)))
    (eqb_tells asked revision)

uid_told : (wanted : Option (List ℕ)) (uid : List ℕ) → IsTrue (asks_uid wanted uid) ↔ IfSome wanted (λ asked. asked ≡ uid)
uid_told None uid = ((λ t. tt), λ held. refl)
uid_told (Some asked) uid = go (bytes_eq asked uid) refl
  where
    go : (t : Bool) → bytes_eq asked uid ≡ t → IsTrue (bytes_eq asked uid) ↔ (asked ≡ uid)
    go true is = ((λ t. (bytes_decides asked uid).0 is), λ held. is)
    go false is = ((λ t. absurd (true≢false (sym t ∙ is))), λ held. absurd (true≢false (sym ((bytes_decides asked uid).1 held) ∙ is)))

pub met_told : (asked : Preconditions) (revision : ℕ) (uid : List ℕ) → IsTrue (are_met asked revision uid) ↔ AreMet (conditions_of asked) revision uid
met_told asked revision uid = both_true (asks_revision asked.revision revision) (asks_uid asked.uid uid) (revision_told asked.revision revision) (uid_told asked.uid uid)
