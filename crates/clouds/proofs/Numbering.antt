-- The numbers of texts, when one text gets another.
use Rattle.std.proofs.Common.{◌≡◌, ℕ, ⊎_elim, Bool, true, false, Option, Some, None, List, sym, ◌∙◌, subst}
use Rattle.std.specs.BTreeMap.{BTreeMap, Updates}
use Rattle.std.specs.Cmp.Lexicographic.{bytes_decides, nat_list_eq_equiv, slice_cmp}
use Rattle.std.specs.Map.{AreApart, IsKeyTest, KeepsOthers, lookup}
use Rattle.std.specs.Ordering.{is_eq, nat_cmp}
use Rattle.std.specs.Str.{bytes_eq}
use Rattle.std.specs.declared.vec.Vec.{Vec}
use Rattle.std.proofs.lemmas.Bool.{cases_Bool}
use Rattle.std.proofs.lemmas.Cmp.{eq_by_cmp_equiv, nat_list_cmp_total}
use Rattle.std.proofs.lemmas.Map.Text.{is_eq-slice_cmp}
use Rattle.clouds.specs.Wide.{Extends, IsNumbered, number_of}

apart : (bs cs ks : List ℕ) → bytes_eq bs cs ≡ false → is_eq (slice_cmp nat_cmp bs ks) ≡ true → is_eq (slice_cmp nat_cmp cs ks) ≡ false
apart bs cs ks differ tied =
    is_eq-slice_cmp cs ks ∙ nat_list_eq_equiv.symm cs ks ∙ sym (nat_list_eq_equiv.congr bs ks cs (sym (is_eq-slice_cmp bs ks) ∙ tied)) ∙ differ

others_kept : {K X : Type 0} (eq : K → K → Bool) (test : K → Bool) (old new : List (K × X)) → KeepsOthers eq test old new → (other : K → Bool) → IsKeyTest eq other → AreApart test other
    → lookup other new ≡ lookup other old
unfolding KeepsOthers
others_kept eq test old new kept = kept

number_of-other : {A : Type 0} (old new : BTreeMap (Vec ℕ A) ℕ) (key : Vec ℕ A) (number : Option ℕ) → Updates (λ x y. slice_cmp nat_cmp x.items y.items) old new key number
    → (text : List ℕ) → bytes_eq key.items text ≡ false → number_of new text ≡ number_of old text
number_of-other old new key number updates text differ =
    others_kept _ _ _ _ updates.3 _ (λ x y. (eq_by_cmp_equiv nat_list_cmp_total).congr text x.items y.items) (λ k. apart key.items text k.items differ)

-- a text that had no number gets one
pub Extends-give : {A : Type 0} (old new : BTreeMap (Vec ℕ A) ℕ) (key : Vec ℕ A) (number : ℕ) → ((other : ℕ) → number_of old key.items ≡ Some other → ⊥)
    → Updates (λ x y. slice_cmp nat_cmp x.items y.items) old new key (Some number) → Extends old new
Extends-give old new key number none updates = λ text other was. ⊎_elim
    (λ same. absurd (none other (subst (λ t. number_of old t ≡ Some other) (sym ((bytes_decides key.items text).0 same)) was)))
    (λ differ. number_of-other old new key (Some number) updates text differ ∙ was)
    (cases_Bool (bytes_eq key.items text))

pub IsNumbered-kept : {A : Type 0} (old new : BTreeMap (Vec ℕ A) ℕ) (given : Option (List ℕ)) (number : Option ℕ) → Extends old new → IsNumbered old given number → IsNumbered new given number
IsNumbered-kept old new None None extends numbered = numbered
IsNumbered-kept old new None (Some number) extends numbered = absurd numbered
IsNumbered-kept old new (Some text) None extends numbered = absurd numbered
IsNumbered-kept old new (Some text) (Some number) extends numbered = extends text number numbered
