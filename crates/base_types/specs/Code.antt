-- A code of trees, by which the logic tells one from another. It says nothing about JSON.
use Rattle.std.proofs.Common.{◌≡◌, ◌≢◌, ℕ, List, refl, ap, arith}
use Rattle.std.specs.Coded.{Coded, coded_ℕ, coded_ℤ, coded_bool, coded_list}
use base.Stored.{Gv, gnil, gnum, gcons}
use Rattle.base_types.specs.Meaning.{Meaning, null, flag, whole, words, items, members, Kids, no_kids, kid, Fields, no_fields, field}

abbrev head : Gv → Gv
head gnil = gnil
head (gnum n) = gnil
head (gcons a b) = a

abbrev tail : Gv → Gv
tail gnil = gnil
tail (gnum n) = gnil
tail (gcons a b) = b

apart : (m n : ℕ) {a b : Gv} → gcons (gnum m) a ≡ gcons (gnum n) b → m ≢ n → ⊥
apart m n p other = other (cc)

abbrev pub coded_bytes : Coded (List ℕ)
coded_bytes = coded_list coded_ℕ

abbrev mutual
  pub code : Meaning → Gv
  code null = gcons (gnum 0) gnil
  code (flag b) = gcons (gnum 1) (coded_bool.code b)
  code (whole z) = gcons (gnum 2) (coded_ℤ.code z)
  code (words s) = gcons (gnum 3) (coded_bytes.code s)
  code (items ts) = gcons (gnum 4) (kids_code ts)
  code (members ms) = gcons (gnum 5) (fields_code ms)

  pub kids_code : Kids → Gv
  kids_code no_kids = gcons (gnum 0) gnil
  kids_code (kid t ts) = gcons (gnum 1) (gcons (code t) (kids_code ts))

  pub fields_code : Fields → Gv
  fields_code no_fields = gcons (gnum 0) gnil
  fields_code (field k t ms) = gcons (gnum 1) (gcons (coded_bytes.code k) (gcons (code t) (fields_code ms)))

mutual
  pub inj : (x y : Meaning) → code x ≡ code y → x ≡ y
  inj null null p = refl
  inj null (flag b0) p = absurd (apart 0 1 p (omega arith))
  inj null (whole b0) p = absurd (apart 0 2 p (omega arith))
  inj null (words b0) p = absurd (apart 0 3 p (omega arith))
  inj null (items b0) p = absurd (apart 0 4 p (omega arith))
  inj null (members b0) p = absurd (apart 0 5 p (omega arith))
  inj (flag a0) null p = absurd (apart 1 0 p (omega arith))
  inj (flag a0) (flag b0) p = λ i. flag (coded_bool.inj a0 b0 (ap (λ g. tail g) p) i)
  inj (flag a0) (whole b0) p = absurd (apart 1 2 p (omega arith))
  inj (flag a0) (words b0) p = absurd (apart 1 3 p (omega arith))
  inj (flag a0) (items b0) p = absurd (apart 1 4 p (omega arith))
  inj (flag a0) (members b0) p = absurd (apart 1 5 p (omega arith))
  inj (whole a0) null p = absurd (apart 2 0 p (omega arith))
  inj (whole a0) (flag b0) p = absurd (apart 2 1 p (omega arith))
  inj (whole a0) (whole b0) p = λ i. whole (coded_ℤ.inj a0 b0 (ap (λ g. tail g) p) i)
  inj (whole a0) (words b0) p = absurd (apart 2 3 p (omega arith))
  inj (whole a0) (items b0) p = absurd (apart 2 4 p (omega arith))
  inj (whole a0) (members b0) p = absurd (apart 2 5 p (omega arith))
  inj (words a0) null p = absurd (apart 3 0 p (omega arith))
  inj (words a0) (flag b0) p = absurd (apart 3 1 p (omega arith))
  inj (words a0) (whole b0) p = absurd (apart 3 2 p (omega arith))
  inj (words a0) (words b0) p = λ i. words (coded_bytes.inj a0 b0 (ap (λ g. tail g) p) i)
  inj (words a0) (items b0) p = absurd (apart 3 4 p (omega arith))
  inj (words a0) (members b0) p = absurd (apart 3 5 p (omega arith))
  inj (items a0) null p = absurd (apart 4 0 p (omega arith))
  inj (items a0) (flag b0) p = absurd (apart 4 1 p (omega arith))
  inj (items a0) (whole b0) p = absurd (apart 4 2 p (omega arith))
  inj (items a0) (words b0) p = absurd (apart 4 3 p (omega arith))
  inj (items a0) (items b0) p = λ i. items (kids_inj a0 b0 (ap (λ g. tail g) p) i)
  inj (items a0) (members b0) p = absurd (apart 4 5 p (omega arith))
  inj (members a0) null p = absurd (apart 5 0 p (omega arith))
  inj (members a0) (flag b0) p = absurd (apart 5 1 p (omega arith))
  inj (members a0) (whole b0) p = absurd (apart 5 2 p (omega arith))
  inj (members a0) (words b0) p = absurd (apart 5 3 p (omega arith))
  inj (members a0) (items b0) p = absurd (apart 5 4 p (omega arith))
  inj (members a0) (members b0) p = λ i. members (fields_inj a0 b0 (ap (λ g. tail g) p) i)

  pub kids_inj : (x y : Kids) → kids_code x ≡ kids_code y → x ≡ y
  kids_inj no_kids no_kids p = refl
  kids_inj no_kids (kid b0 b1) p = absurd (apart 0 1 p (omega arith))
  kids_inj (kid a0 a1) no_kids p = absurd (apart 1 0 p (omega arith))
  kids_inj (kid a0 a1) (kid b0 b1) p = λ i. kid (inj a0 b0 (ap (λ g. head (tail g)) p) i) (kids_inj a1 b1 (ap (λ g. tail (tail g)) p) i)

  pub fields_inj : (x y : Fields) → fields_code x ≡ fields_code y → x ≡ y
  fields_inj no_fields no_fields p = refl
  fields_inj no_fields (field b0 b1 b2) p = absurd (apart 0 1 p (omega arith))
  fields_inj (field a0 a1 a2) no_fields p = absurd (apart 1 0 p (omega arith))
  fields_inj (field a0 a1 a2) (field b0 b1 b2) p = λ i. field (coded_bytes.inj a0 b0 (ap (λ g. head (tail g)) p) i) (inj a1 b1 (ap (λ g. head (tail (tail g))) p) i) (fields_inj a2 b2 (ap (λ g. tail (tail (tail g))) p) i)

abbrev pub coded_meaning : Coded Meaning
coded_meaning = record { code = code; inj = inj }
