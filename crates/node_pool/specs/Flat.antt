-- One level of a tree, whose names and children are numbers.
use Rattle.std.proofs.Common.{◌≡◌, ℕ, ℤ, Bool, true, false, ◌&&◌, ◌++◌, List, bytes_eq, nat_eq, refl, sym, ap}
use Rattle.std.specs.Ordering.{int_eq}
use Rattle.std.specs.Bool.{Decides}
use Rattle.std.specs.Hash as fed
use Rattle.std.specs.Cmp.{IsEquivalence}
use Rattle.std.specs.Cmp.Lexicographic.{pointwise}
use Rattle.std.proofs.lemmas.Bool.{false≢true}
use Rattle.std.proofs.lemmas.Bool.Decides.{Decides-int_eq, Decides-eqb, Decides-like, Decides-and, same_from_decides}
use Rattle.std.proofs.lemmas.Slice.Eq.{bytes_eq-Decides, slice_eq-Decides}
use Rattle.base_types.specs.Same.{bool_eq}
use Rattle.node_pool.specs.declared.form.Form.{Form}
use Rattle.node_pool.specs.declared.form.Form.TheVariants.{Null, Flag, Whole, Words, Items, Members}

pub data Flat : Type 0 where
  flat_null : Flat
  flat_flag : Bool → Flat
  flat_whole : ℤ → Flat
  flat_words : List ℕ → Flat
  flat_items : List ℕ → Flat
  flat_members : List (ℕ × ℕ) → Flat

-- a member: the number of its name, and the number of its value
abbrev pub field_eq : ℕ × ℕ → ℕ × ℕ → Bool
field_eq a b = nat_eq a.0 b.0 && nat_eq a.1 b.1

abbrev pub flat_eq : Flat → Flat → Bool
flat_eq flat_null flat_null = true
flat_eq flat_null (flat_flag b) = false
flat_eq flat_null (flat_whole b) = false
flat_eq flat_null (flat_words b) = false
flat_eq flat_null (flat_items b) = false
flat_eq flat_null (flat_members b) = false
flat_eq (flat_flag a) flat_null = false
flat_eq (flat_flag a) (flat_flag b) = bool_eq a b
flat_eq (flat_flag a) (flat_whole b) = false
flat_eq (flat_flag a) (flat_words b) = false
flat_eq (flat_flag a) (flat_items b) = false
flat_eq (flat_flag a) (flat_members b) = false
flat_eq (flat_whole a) flat_null = false
flat_eq (flat_whole a) (flat_flag b) = false
flat_eq (flat_whole a) (flat_whole b) = int_eq a b
flat_eq (flat_whole a) (flat_words b) = false
flat_eq (flat_whole a) (flat_items b) = false
flat_eq (flat_whole a) (flat_members b) = false
flat_eq (flat_words a) flat_null = false
flat_eq (flat_words a) (flat_flag b) = false
flat_eq (flat_words a) (flat_whole b) = false
flat_eq (flat_words a) (flat_words b) = bytes_eq a b
flat_eq (flat_words a) (flat_items b) = false
flat_eq (flat_words a) (flat_members b) = false
flat_eq (flat_items a) flat_null = false
flat_eq (flat_items a) (flat_flag b) = false
flat_eq (flat_items a) (flat_whole b) = false
flat_eq (flat_items a) (flat_words b) = false
flat_eq (flat_items a) (flat_items b) = pointwise nat_eq a b
flat_eq (flat_items a) (flat_members b) = false
flat_eq (flat_members a) flat_null = false
flat_eq (flat_members a) (flat_flag b) = false
flat_eq (flat_members a) (flat_whole b) = false
flat_eq (flat_members a) (flat_words b) = false
flat_eq (flat_members a) (flat_items b) = false
flat_eq (flat_members a) (flat_members b) = pointwise field_eq a b

-- the variant's number, and then what it holds
abbrev pub flat_fed : Flat → fed.HashWrites
flat_fed flat_null = fed.u8 0
flat_fed (flat_flag b) = fed.u8 1 ++ fed.bool b
flat_fed (flat_whole z) = fed.u8 2 ++ fed.i128 z
flat_fed (flat_words s) = fed.u8 3 ++ fed.str s
flat_fed (flat_items ks) = fed.u8 4 ++ fed.slice fed.u32 ks
flat_fed (flat_members ms) = fed.u8 5 ++ fed.slice (λ (m : ℕ × ℕ). fed.usize m.0 ++ fed.u32 m.1) ms

-- what a level in Rust stands for
abbrev pub flat_of : Form → Flat
flat_of Null = flat_null
flat_of (Flag b) = flat_flag b
flat_of (Whole z) = flat_whole z
flat_of (Words s) = flat_words s
flat_of (Items ks) = flat_items ks.items
flat_of (Members ms) = flat_members ms.items

bool_eq-Decides : (a b : Bool) → Decides (bool_eq a b) (a ≡ b)
bool_eq-Decides true true = (λ _. refl, λ _. refl)
bool_eq-Decides true false = (λ f. absurd (false≢true f), λ e. absurd (cc))
bool_eq-Decides false true = (λ f. absurd (false≢true f), λ e. absurd (cc))
bool_eq-Decides false false = (λ _. refl, λ _. refl)

field_eq-Decides : (a b : ℕ × ℕ) → Decides (field_eq a b) (a ≡ b)
field_eq-Decides a b = Decides-like _ (λ e. λ i. (e.0 i, e.1 i)) (λ e. (ap (λ p. p.0) e, ap (λ p. p.1) e)) (Decides-and _ _ (Decides-eqb a.0 b.0) (Decides-eqb a.1 b.1))

pub flat_eq-Decides : (x y : Flat) → Decides (flat_eq x y) (x ≡ y)
flat_eq-Decides flat_null flat_null = (λ _. refl, λ _. refl)
flat_eq-Decides flat_null (flat_flag b) = (λ f. absurd (false≢true f), λ e. absurd (cc))
flat_eq-Decides flat_null (flat_whole b) = (λ f. absurd (false≢true f), λ e. absurd (cc))
flat_eq-Decides flat_null (flat_words b) = (λ f. absurd (false≢true f), λ e. absurd (cc))
flat_eq-Decides flat_null (flat_items b) = (λ f. absurd (false≢true f), λ e. absurd (cc))
flat_eq-Decides flat_null (flat_members b) = (λ f. absurd (false≢true f), λ e. absurd (cc))
flat_eq-Decides (flat_flag a) flat_null = (λ f. absurd (false≢true f), λ e. absurd (cc))
flat_eq-Decides (flat_flag a) (flat_flag b) = Decides-like _ (λ e. ap flat_flag e) (λ e. cc) (bool_eq-Decides a b)
flat_eq-Decides (flat_flag a) (flat_whole b) = (λ f. absurd (false≢true f), λ e. absurd (cc))
flat_eq-Decides (flat_flag a) (flat_words b) = (λ f. absurd (false≢true f), λ e. absurd (cc))
flat_eq-Decides (flat_flag a) (flat_items b) = (λ f. absurd (false≢true f), λ e. absurd (cc))
flat_eq-Decides (flat_flag a) (flat_members b) = (λ f. absurd (false≢true f), λ e. absurd (cc))
flat_eq-Decides (flat_whole a) flat_null = (λ f. absurd (false≢true f), λ e. absurd (cc))
flat_eq-Decides (flat_whole a) (flat_flag b) = (λ f. absurd (false≢true f), λ e. absurd (cc))
flat_eq-Decides (flat_whole a) (flat_whole b) = Decides-like _ (λ e. ap flat_whole e) (λ e. cc) (Decides-int_eq a b)
flat_eq-Decides (flat_whole a) (flat_words b) = (λ f. absurd (false≢true f), λ e. absurd (cc))
flat_eq-Decides (flat_whole a) (flat_items b) = (λ f. absurd (false≢true f), λ e. absurd (cc))
flat_eq-Decides (flat_whole a) (flat_members b) = (λ f. absurd (false≢true f), λ e. absurd (cc))
flat_eq-Decides (flat_words a) flat_null = (λ f. absurd (false≢true f), λ e. absurd (cc))
flat_eq-Decides (flat_words a) (flat_flag b) = (λ f. absurd (false≢true f), λ e. absurd (cc))
flat_eq-Decides (flat_words a) (flat_whole b) = (λ f. absurd (false≢true f), λ e. absurd (cc))
flat_eq-Decides (flat_words a) (flat_words b) = Decides-like _ (λ e. ap flat_words e) (λ e. cc) (bytes_eq-Decides a b)
flat_eq-Decides (flat_words a) (flat_items b) = (λ f. absurd (false≢true f), λ e. absurd (cc))
flat_eq-Decides (flat_words a) (flat_members b) = (λ f. absurd (false≢true f), λ e. absurd (cc))
flat_eq-Decides (flat_items a) flat_null = (λ f. absurd (false≢true f), λ e. absurd (cc))
flat_eq-Decides (flat_items a) (flat_flag b) = (λ f. absurd (false≢true f), λ e. absurd (cc))
flat_eq-Decides (flat_items a) (flat_whole b) = (λ f. absurd (false≢true f), λ e. absurd (cc))
flat_eq-Decides (flat_items a) (flat_words b) = (λ f. absurd (false≢true f), λ e. absurd (cc))
flat_eq-Decides (flat_items a) (flat_items b) = Decides-like _ (λ e. ap flat_items e) (λ e. cc) (slice_eq-Decides Decides-eqb a b (pointwise nat_eq a b) refl)
flat_eq-Decides (flat_items a) (flat_members b) = (λ f. absurd (false≢true f), λ e. absurd (cc))
flat_eq-Decides (flat_members a) flat_null = (λ f. absurd (false≢true f), λ e. absurd (cc))
flat_eq-Decides (flat_members a) (flat_flag b) = (λ f. absurd (false≢true f), λ e. absurd (cc))
flat_eq-Decides (flat_members a) (flat_whole b) = (λ f. absurd (false≢true f), λ e. absurd (cc))
flat_eq-Decides (flat_members a) (flat_words b) = (λ f. absurd (false≢true f), λ e. absurd (cc))
flat_eq-Decides (flat_members a) (flat_items b) = (λ f. absurd (false≢true f), λ e. absurd (cc))
flat_eq-Decides (flat_members a) (flat_members b) = Decides-like _ (λ e. ap flat_members e) (λ e. cc) (slice_eq-Decides field_eq-Decides a b (pointwise field_eq a b) refl)

pub flat_eq-equiv : IsEquivalence flat_eq
flat_eq-equiv = record {
  refl = λ x. (flat_eq-Decides x x).1 refl;
  symm = λ x y. same_from_decides (flat_eq x y) (flat_eq y x) (flat_eq-Decides x y) (Decides-like _ (λ e. sym e) (λ e. sym e) (flat_eq-Decides y x));
  congr = λ x y z e. ap (λ w. flat_eq w z) ((flat_eq-Decides x y).0 e);
}

pub flat_eq-fed : (x y : Flat) → flat_eq x y ≡ true → flat_fed x ≡ flat_fed y
flat_eq-fed x y e = ap flat_fed ((flat_eq-Decides x y).0 e)
