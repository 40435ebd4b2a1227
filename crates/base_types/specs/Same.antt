-- Whether two trees are the same, as a test that computes.
use Rattle.std.proofs.Common.{◌≡◌, ◌&&◌, Bool, true, false, bytes_eq, refl, sym, ap}
use Rattle.std.specs.Bool.{Decides}
use Rattle.std.specs.Ordering.{int_eq}
use Rattle.std.proofs.lemmas.Bool.{false≢true}
use Rattle.std.specs.Cmp.{IsEquivalence}
use Rattle.std.proofs.lemmas.Bool.Decides.{Decides-int_eq, Decides-like, Decides-and, same_from_decides}
use Rattle.std.proofs.lemmas.Slice.Eq.{bytes_eq-Decides}
use Rattle.base_types.specs.Meaning.{Meaning, null, flag, whole, words, items, members, Kids, no_kids, kid, Fields, no_fields, field}

abbrev pub bool_eq : Bool → Bool → Bool
bool_eq true true = true
bool_eq true false = false
bool_eq false true = false
bool_eq false false = true

abbrev mutual
  pub same : Meaning → Meaning → Bool
  same null null = true
  same null (flag b0) = false
  same null (whole b0) = false
  same null (words b0) = false
  same null (items b0) = false
  same null (members b0) = false
  same (flag a0) null = false
  same (flag a0) (flag b0) = bool_eq a0 b0
  same (flag a0) (whole b0) = false
  same (flag a0) (words b0) = false
  same (flag a0) (items b0) = false
  same (flag a0) (members b0) = false
  same (whole a0) null = false
  same (whole a0) (flag b0) = false
  same (whole a0) (whole b0) = int_eq a0 b0
  same (whole a0) (words b0) = false
  same (whole a0) (items b0) = false
  same (whole a0) (members b0) = false
  same (words a0) null = false
  same (words a0) (flag b0) = false
  same (words a0) (whole b0) = false
  same (words a0) (words b0) = bytes_eq a0 b0
  same (words a0) (items b0) = false
  same (words a0) (members b0) = false
  same (items a0) null = false
  same (items a0) (flag b0) = false
  same (items a0) (whole b0) = false
  same (items a0) (words b0) = false
  same (items a0) (items b0) = same_kids a0 b0
  same (items a0) (members b0) = false
  same (members a0) null = false
  same (members a0) (flag b0) = false
  same (members a0) (whole b0) = false
  same (members a0) (words b0) = false
  same (members a0) (items b0) = false
  same (members a0) (members b0) = same_fields a0 b0

  pub same_kids : Kids → Kids → Bool
  same_kids no_kids no_kids = true
  same_kids no_kids (kid b0 b1) = false
  same_kids (kid a0 a1) no_kids = false
  same_kids (kid a0 a1) (kid b0 b1) = same a0 b0 && same_kids a1 b1

  pub same_fields : Fields → Fields → Bool
  same_fields no_fields no_fields = true
  same_fields no_fields (field b0 b1 b2) = false
  same_fields (field a0 a1 a2) no_fields = false
  same_fields (field a0 a1 a2) (field b0 b1 b2) = bytes_eq a0 b0 && same a1 b1 && same_fields a2 b2

bool_eq-Decides : (a b : Bool) → Decides (bool_eq a b) (a ≡ b)
bool_eq-Decides true true = (λ _. refl, λ _. refl)
bool_eq-Decides true false = (λ e. absurd (false≢true e), λ e. absurd (cc))
bool_eq-Decides false true = (λ e. absurd (false≢true e), λ e. absurd (cc))
bool_eq-Decides false false = (λ _. refl, λ _. refl)

mutual
  pub same-Decides : (a b : Meaning) → Decides (same a b) (a ≡ b)
  same-Decides null null = (λ _. refl, λ _. refl)
  same-Decides null (flag b0) = (λ f. absurd (false≢true f), λ e. absurd (cc))
  same-Decides null (whole b0) = (λ f. absurd (false≢true f), λ e. absurd (cc))
  same-Decides null (words b0) = (λ f. absurd (false≢true f), λ e. absurd (cc))
  same-Decides null (items b0) = (λ f. absurd (false≢true f), λ e. absurd (cc))
  same-Decides null (members b0) = (λ f. absurd (false≢true f), λ e. absurd (cc))
  same-Decides (flag a0) null = (λ f. absurd (false≢true f), λ e. absurd (cc))
  same-Decides (flag a0) (flag b0) = Decides-like _ (λ e. ap flag e) (λ e. cc) (bool_eq-Decides a0 b0)
  same-Decides (flag a0) (whole b0) = (λ f. absurd (false≢true f), λ e. absurd (cc))
  same-Decides (flag a0) (words b0) = (λ f. absurd (false≢true f), λ e. absurd (cc))
  same-Decides (flag a0) (items b0) = (λ f. absurd (false≢true f), λ e. absurd (cc))
  same-Decides (flag a0) (members b0) = (λ f. absurd (false≢true f), λ e. absurd (cc))
  same-Decides (whole a0) null = (λ f. absurd (false≢true f), λ e. absurd (cc))
  same-Decides (whole a0) (flag b0) = (λ f. absurd (false≢true f), λ e. absurd (cc))
  same-Decides (whole a0) (whole b0) = Decides-like _ (λ e. ap whole e) (λ e. cc) (Decides-int_eq a0 b0)
  same-Decides (whole a0) (words b0) = (λ f. absurd (false≢true f), λ e. absurd (cc))
  same-Decides (whole a0) (items b0) = (λ f. absurd (false≢true f), λ e. absurd (cc))
  same-Decides (whole a0) (members b0) = (λ f. absurd (false≢true f), λ e. absurd (cc))
  same-Decides (words a0) null = (λ f. absurd (false≢true f), λ e. absurd (cc))
  same-Decides (words a0) (flag b0) = (λ f. absurd (false≢true f), λ e. absurd (cc))
  same-Decides (words a0) (whole b0) = (λ f. absurd (false≢true f), λ e. absurd (cc))
  same-Decides (words a0) (words b0) = Decides-like _ (λ e. ap words e) (λ e. cc) (bytes_eq-Decides a0 b0)
  same-Decides (words a0) (items b0) = (λ f. absurd (false≢true f), λ e. absurd (cc))
  same-Decides (words a0) (members b0) = (λ f. absurd (false≢true f), λ e. absurd (cc))
  same-Decides (items a0) null = (λ f. absurd (false≢true f), λ e. absurd (cc))
  same-Decides (items a0) (flag b0) = (λ f. absurd (false≢true f), λ e. absurd (cc))
  same-Decides (items a0) (whole b0) = (λ f. absurd (false≢true f), λ e. absurd (cc))
  same-Decides (items a0) (words b0) = (λ f. absurd (false≢true f), λ e. absurd (cc))
  same-Decides (items a0) (items b0) = Decides-like _ (λ e. ap items e) (λ e. cc) (same_kids-Decides a0 b0)
  same-Decides (items a0) (members b0) = (λ f. absurd (false≢true f), λ e. absurd (cc))
  same-Decides (members a0) null = (λ f. absurd (false≢true f), λ e. absurd (cc))
  same-Decides (members a0) (flag b0) = (λ f. absurd (false≢true f), λ e. absurd (cc))
  same-Decides (members a0) (whole b0) = (λ f. absurd (false≢true f), λ e. absurd (cc))
  same-Decides (members a0) (words b0) = (λ f. absurd (false≢true f), λ e. absurd (cc))
  same-Decides (members a0) (items b0) = (λ f. absurd (false≢true f), λ e. absurd (cc))
  same-Decides (members a0) (members b0) = Decides-like _ (λ e. ap members e) (λ e. cc) (same_fields-Decides a0 b0)

  pub same_kids-Decides : (a b : Kids) → Decides (same_kids a b) (a ≡ b)
  same_kids-Decides no_kids no_kids = (λ _. refl, λ _. refl)
  same_kids-Decides no_kids (kid b0 b1) = (λ f. absurd (false≢true f), λ e. absurd (cc))
  same_kids-Decides (kid a0 a1) no_kids = (λ f. absurd (false≢true f), λ e. absurd (cc))
  same_kids-Decides (kid a0 a1) (kid b0 b1) = Decides-like _ (λ e. λ i. kid (e.0 i) (e.1 i)) (λ e. (cc, cc)) (Decides-and _ _ (same-Decides a0 b0) (same_kids-Decides a1 b1))

  pub same_fields-Decides : (a b : Fields) → Decides (same_fields a b) (a ≡ b)
  same_fields-Decides no_fields no_fields = (λ _. refl, λ _. refl)
  same_fields-Decides no_fields (field b0 b1 b2) = (λ f. absurd (false≢true f), λ e. absurd (cc))
  same_fields-Decides (field a0 a1 a2) no_fields = (λ f. absurd (false≢true f), λ e. absurd (cc))
  same_fields-Decides (field a0 a1 a2) (field b0 b1 b2) = Decides-like _ (λ e. λ i. field (e.0.0 i) (e.0.1 i) (e.1 i)) (λ e. ((cc, cc), cc)) (Decides-and _ _ (Decides-and _ _ (bytes_eq-Decides a0 b0) (same-Decides a1 b1)) (same_fields-Decides a2 b2))

pub same-self : (a : Meaning) → same a a ≡ true
same-self a = (same-Decides a a).1 refl

pub same-equiv : IsEquivalence same
same-equiv = record {
  refl = same-self;
  symm = λ x y. same_from_decides (same x y) (same y x) (same-Decides x y) (Decides-like _ (λ e. sym e) (λ e. sym e) (same-Decides y x));
  congr = λ x y z e. ap (λ w. same w z) ((same-Decides x y).0 e);
}
