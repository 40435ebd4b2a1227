-- The limits, by counts that are kept from operation to operation.
use Rattle.std.proofs.Common.{◌≡◌, ℕ, zero, suc, ◌+◌, ◌-◌, ◌^◌, ◌<◌, ◌≤◌, min, max, Bool, true, false, List, [], ◌∷◌, length, Option, Some, None, Ok, Err, option_and_then, ◌⊎◌, inl, inr, refl, ap, arith}
use Rattle.std.proofs.lemmas.Bool.{lt-ltb, le-ltb, cases_lt}
use Rattle.std.specs.Prelude.{bytes_eq, if◌then◌else◌}
use Rattle.base_types.specs.Meaning.{Meaning, null, flag, whole, words, items, members, Kids, no_kids, kid, Fields, no_fields, field}
use Rattle.base_types.specs.Parts.{lookup}
use Rattle.base_types.specs.Pointers.{index_of, kid_at, child_of, pointed}
use Rattle.json_patch.specs.Changes.{IsChange, IsWithin, Tells}
use Rattle.json_patch.specs.Edits.{IsEdited, went_of}
use Rattle.json_patch.specs.Limits.{depth, kids_depth, fields_depth, values, within_limits}
use Rattle.json_patch.specs.declared.edit.Edit.TheVariants.{Add, Remove}
use Rattle.json_patch.specs.declared.applying.Change.{Change}
use Rattle.json_patch.specs.declared.fault.ApplyCause.TheVariants.{Deep, Large}
use Rattle.json_patch.specs.declared.size.Size.{Size}

pub tells_size : (t : Meaning) (size : Size) → size.values ≡ min (values t) (2 ^ 64 - 1) → size.depth ≡ min (depth t) (2 ^ 64 - 1) → Tells t size
tells_size t size v d = record {
  large = (λ lt. omega arith, λ lt. omega arith);
  deep = (λ lt. omega arith, λ lt. omega arith);
  counted = λ le. omega arith;
}

pub tells_after : (old new : Meaning) (count : ℕ) (change : Change) (size : Size) → IsWithin old count → IsChange old new change
    → size.values ≡ min (count + change.came) (2 ^ 64 - 1) - change.went → size.depth ≡ change.depth → Tells new size
tells_after old new count change size within h v d =
    let exact : count ≡ values old = within.counted in
    let small : values old ≤ 1_000_000 = within.small in
    let low : depth old ≤ 127 = within.shallow in
    let came : change.came ≡ min h.came (2 ^ 64 - 1) = h.came_is in
    let went : change.went ≡ min h.went (2 ^ 64 - 1) = h.went_is in
    let deep : change.depth ≡ min h.deep (2 ^ 64 - 1) = h.deep_is in
    let sum : values new + h.went ≡ values old + h.came = h.counted in
    let part : h.went ≤ values old = h.part in
    let shallow : depth new ≤ max (depth old) h.deep = h.shallow in
    let deeper : h.deep ≤ depth new = h.deeper in
    record {
      large = (λ lt. omega arith, λ lt. omega arith);
      deep = (λ lt. omega arith, λ lt. omega arith);
      counted = λ le. omega arith;
    }

pub small_depth : (t : Meaning) (size : Size) → Tells t size → size.depth ≤ 127 → depth t ≤ 127
small_depth t size told le = go (cases_lt 127 (depth t))
  where
    go : (127 < depth t) ⊎ (depth t ≤ 127) → depth t ≤ 127
    go (inl lt) = let over = told.deep.1 lt in absurd (omega arith)
    go (inr le) = le

pub small_values : (t : Meaning) (size : Size) → Tells t size → size.values ≤ 1_000_000 → values t ≤ 1_000_000
small_values t size told le = go (cases_lt 1_000_000 (values t))
  where
    go : (1_000_000 < values t) ⊎ (values t ≤ 1_000_000) → values t ≤ 1_000_000
    go (inl lt) = let over = told.large.1 lt in absurd (omega arith)
    go (inr le) = le

pub too_deep : (t : Meaning) → 127 < depth t → within_limits t ≡ Err Deep
too_deep t lt = rw (lt-ltb 127 (depth t) lt) refl

pub too_large : (t : Meaning) → depth t ≤ 127 → 1_000_000 < values t → within_limits t ≡ Err Large
too_large t le lt = rw (le-ltb 127 (depth t) le, lt-ltb 1_000_000 (values t) lt) refl

pub fits : (t : Meaning) → depth t ≤ 127 → values t ≤ 1_000_000 → within_limits t ≡ Ok t
fits t le small = rw (le-ltb 127 (depth t) le, le-ltb 1_000_000 (values t) small) refl

-- a value stands below as many containers as its pointer has tokens
kid_at_depth : (n : ℕ) (ts : Kids) (v : Meaning) → kid_at n ts ≡ Some v → depth v ≤ kids_depth ts
kid_at_depth n no_kids v e = absurd (cc)
kid_at_depth zero (kid t ts) v e = let same : t ≡ v = cc in let d : depth t ≡ depth v = ap depth same in omega arith
kid_at_depth (suc n) (kid t ts) v e = let rest = kid_at_depth n ts v e in omega arith

lookup_depth : (k : List ℕ) (ms : Fields) (v : Meaning) → lookup k ms ≡ Some v → depth v ≤ fields_depth ms
lookup_depth k no_fields v e = absurd (cc)
lookup_depth k (field l u ms) v e = go (bytes_eq l k) e (λ inner. lookup_depth k ms v inner)
  where
    go : (b : Bool) → (if b then Some u else lookup k ms) ≡ Some v → (lookup k ms ≡ Some v → depth v ≤ fields_depth ms) → depth v ≤ fields_depth (field l u ms)
    go true is rest = let same : u ≡ v = cc in let d : depth u ≡ depth v = ap depth same in omega arith
    go false is rest = let below = rest is in omega arith

child_depth : (token : List ℕ) (t v : Meaning) → child_of token t ≡ Some v → 1 + depth v ≤ depth t
child_depth token null v e = absurd (cc)
child_depth token (flag b) v e = absurd (cc)
child_depth token (whole z) v e = absurd (cc)
child_depth token (words s) v e = absurd (cc)
child_depth token (items ts) v e = go (index_of token) e
  where
    go : (o : Option ℕ) → option_and_then (λ n. kid_at n ts) o ≡ Some v → 1 + depth v ≤ depth (items ts)
    go None is = absurd (cc)
    go (Some n) is = let below = kid_at_depth n ts v is in omega arith
child_depth token (members ms) v e = let below = lookup_depth token ms v e in omega arith

pub pointed_depth : (path : List (List ℕ)) (t v : Meaning) → pointed path t ≡ Some v → length path + depth v ≤ depth t
pointed_depth [] t v e = let same : t ≡ v = cc in let d : depth t ≡ depth v = ap depth same in omega arith
pointed_depth (token ∷ rest) t v e = go (child_of token t) refl e (λ child inner. pointed_depth rest child v inner)
  where
    go : (o : Option Meaning) → child_of token t ≡ o → option_and_then (pointed rest) o ≡ Some v → ((child : Meaning) → pointed rest child ≡ Some v → length rest + depth v ≤ depth child) → length (token ∷ rest) + depth v ≤ depth t
    go None is found inner = absurd (cc)
    go (Some child) is found inner =
        let below = inner child found in
        let level = child_depth token t child is in
        omega arith

-- a remove and then an add of the same value
pub moved_level : (old mid new v : Meaning) (a b : ℕ) (left : Option Meaning) (change : Change) → IsEdited Remove a old mid (Some v) → IsEdited (Add v) b mid new left → a + depth v ≤ depth old → b ≤ a
    → change.came ≡ 0 → change.went ≡ min (went_of left) (2 ^ 64 - 1) → change.depth ≡ 0 → IsChange old new change
moved_level old mid new v a b left change out in_ here level came went deep =
    let out_count : values mid + values v ≡ values old + 0 = out.counted in
    let in_count : values new + went_of left ≡ values mid + values v = in_.counted in
    let in_part : went_of left ≤ values mid = in_.part in
    let out_deep : depth mid ≤ depth old = out.deep in
    let in_deep : depth new ≤ max (depth mid) (b + depth v) = in_.deep.1 in
    record {
      came = 0;
      went = went_of left;
      deep = 0;
      came_is = came;
      went_is = went;
      deep_is = deep;
      counted = omega arith;
      part = omega arith;
      shallow = omega arith;
      deeper = omega arith;
    }

pub moved_deeper : (old mid new v : Meaning) (a b : ℕ) (left : Option Meaning) (change : Change) → IsEdited Remove a old mid (Some v) → IsEdited (Add v) b mid new left
    → change.came ≡ 0 → change.went ≡ min (went_of left) (2 ^ 64 - 1) → change.depth ≡ min (min (depth v) (2 ^ 64 - 1) + b) (2 ^ 64 - 1) → IsChange old new change
moved_deeper old mid new v a b left change out in_ came went deep =
    let out_count : values mid + values v ≡ values old + 0 = out.counted in
    let in_count : values new + went_of left ≡ values mid + values v = in_.counted in
    let in_part : went_of left ≤ values mid = in_.part in
    let out_deep : depth mid ≤ depth old = out.deep in
    let in_low : b + depth v ≤ depth new = in_.deep.0 in
    let in_deep : depth new ≤ max (depth mid) (b + depth v) = in_.deep.1 in
    record {
      came = 0;
      went = went_of left;
      deep = depth v + b;
      came_is = came;
      went_is = went;
      deep_is = let d : change.depth ≡ min (min (depth v) (2 ^ 64 - 1) + b) (2 ^ 64 - 1) = deep in omega arith;
      counted = omega arith;
      part = omega arith;
      shallow = omega arith;
      deeper = omega arith;
    }
