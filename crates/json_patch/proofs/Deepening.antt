-- A value that would be too deep isn't put in: what comes of a value without depth in its place tells what would come of it.
use Rattle.std.proofs.Common.{◌≡◌, ℕ, zero, suc, ◌+◌, ◌<◌, ◌≤◌, List, [], ◌∷◌, length, set, Option, Some, None, Result, Ok, Err, option_map, option_and_then, unwrap_or, refl, sym, ap, subst, ◌∙◌, arith}
use Rattle.std.specs.Prelude.{insert}
use Rattle.base_types.specs.Edits.{put}
use Rattle.base_types.specs.Meaning.{Meaning, null, flag, whole, words, items, members, Kids, no_kids, kid, kids_of, kids_list}
use Rattle.base_types.specs.Pointers.{index_of, kid_at, child_of}
use Rattle.json_patch.specs.Edits.{edited, edited_at, change_of, missing_of, flat_of, deep_of, RefusedBy}
use Rattle.json_patch.specs.Effects.{and_then, when_there, place_of}
use Rattle.json_patch.specs.Limits.{depth, within_limits}
use Rattle.json_patch.specs.Targets.{with_child}
use Rattle.json_patch.specs.declared.edit.Edit.{Edit}
use Rattle.json_patch.specs.declared.edit.Edit.TheVariants.{Add, Remove, Replace}
use Rattle.json_patch.specs.declared.edit.Refusal.{Refusal}
use Rattle.json_patch.specs.declared.edit.Refusal.TheVariants.{Cause, OutOfMemory}
use Rattle.json_patch.specs.declared.fault.ApplyCause.{ApplyCause}
use Rattle.json_patch.specs.declared.fault.ApplyCause.TheVariants.{Deep, BadIndex}
use Rattle.json_patch.proofs.Counting.{too_deep}
use Rattle.json_patch.proofs.Paths.{edited_below, edited_missing}
use Rattle.json_patch.proofs.Sizes.{set_kid_depth, insert_kid_depth, put_field_depth}

-- the flat edit fails with the same cause, or else it is made and the document of the other is at least so deep
abbrev pub IsDeepened : ℕ → Result Meaning ApplyCause → Result Meaning ApplyCause → Type 0
IsDeepened n (Err cause) flat = flat ≡ Err cause
IsDeepened n (Ok made) flat = (n ≤ depth made) × ((other : Meaning) × (flat ≡ Ok other))

deepened_self : (r : Result Meaning ApplyCause) → IsDeepened 0 r r
deepened_self (Err cause) = refl
deepened_self (Ok made) = (omega arith, (made, refl))

deepened_then : (n p : ℕ) (wrap : Meaning → Meaning) (a b : Result Meaning ApplyCause) → ((m : Meaning) → n ≤ depth m → p ≤ depth (wrap m)) → IsDeepened n a b
    → IsDeepened p (and_then a (λ m. Ok (wrap m))) (and_then b (λ m. Ok (wrap m)))
deepened_then n p wrap (Err cause) b grows h = ap (λ r. and_then r (λ m. Ok (wrap m))) h
deepened_then n p wrap (Ok made) b grows h = (grows made h.0, (wrap h.1.0, ap (λ r. and_then r (λ m. Ok (wrap m))) h.1.1))

-- a container is deeper than each of its children
kid_within : (n : ℕ) (ts : Kids) (v : Meaning) → kid_at n ts ≡ Some v → n < length (kids_list ts)
kid_within n no_kids v e = absurd (cc)
kid_within zero (kid t ts) v e = omega arith
kid_within (suc n) (kid t ts) v e = let rest = kid_within n ts v e in omega arith

with_child_depth : (token : List ℕ) (t child v : Meaning) → child_of token t ≡ Some child → 1 + depth v ≤ depth (with_child token v t)
with_child_depth token null child v e = absurd (cc)
with_child_depth token (flag b) child v e = absurd (cc)
with_child_depth token (whole z) child v e = absurd (cc)
with_child_depth token (words s) child v e = absurd (cc)
with_child_depth token (items ts) child v e = go (index_of token) e
  where
    go : (o : Option ℕ) → option_and_then (λ n. kid_at n ts) o ≡ Some child → 1 + depth v ≤ depth (unwrap_or (option_map (λ n. items (kids_of (set (kids_list ts) n v))) o) (items ts))
    go None is = absurd (cc)
    go (Some n) is = let low = set_kid_depth (kids_list ts) n v (kid_within n ts child is) in omega arith
with_child_depth token (members ms) child v e = let low = put_field_depth token v ms in omega arith

-- an edit of a container itself
deepened_in : (edit : Edit) (token : List ℕ) (t : Meaning) → IsDeepened (deep_of edit 1) (change_of edit token t) (change_of (flat_of edit) token t)
deepened_in (Add v) token null = refl
deepened_in (Add v) token (flag b) = refl
deepened_in (Add v) token (whole z) = refl
deepened_in (Add v) token (words s) = refl
deepened_in (Add v) token (items ts) = go (place_of token (length (kids_list ts)))
  where
    at : Meaning → Option ℕ → Result Meaning ApplyCause
    at u o = unwrap_or (option_map (λ n. Ok (items (kids_of (insert (kids_list ts) n u)))) o) (Err BadIndex)

    go : (o : Option ℕ) → IsDeepened (depth v + 1) (at v o) (at null o)
    go None = refl
    go (Some n) = (let low = insert_kid_depth (kids_list ts) n v in omega arith, (items (kids_of (insert (kids_list ts) n null)), refl))
deepened_in (Add v) token (members ms) = (let low = put_field_depth token v ms in omega arith, (members (put token null ms), refl))
deepened_in Remove token t = deepened_self (change_of Remove token t)
deepened_in (Replace v) token t = go (child_of token t) refl
  where
    go : (o : Option Meaning) → child_of token t ≡ o → IsDeepened (depth v + 1) (when_there o (λ old. Ok (with_child token v t))) (when_there o (λ old. Ok (with_child token null t)))
    go None is = refl
    go (Some child) is = (let low = with_child_depth token t child v is in omega arith, (with_child token null t, refl))

flat_missing : (edit : Edit) → missing_of (flat_of edit) ≡ missing_of edit
flat_missing (Add v) = refl
flat_missing Remove = refl
flat_missing (Replace v) = refl

deep_more : (edit : Edit) (level d more : ℕ) → 1 + d ≤ more → deep_of edit (suc level) ≤ d → deep_of edit (suc (suc level)) ≤ more
deep_more (Add v) level d more le h = omega arith
deep_more Remove level d more le h = omega arith
deep_more (Replace v) level d more le h = omega arith

-- an edit below the first token of a path
deepened_at : (first : List ℕ) (rest : List (List ℕ)) (edit : Edit) (t : Meaning) → IsDeepened (deep_of edit (length (first ∷ rest))) (edited first rest edit t) (edited first rest (flat_of edit) t)
deepened_at first [] edit t = deepened_then (deep_of edit 1) (deep_of edit 1) (λ m. m) (change_of edit first t) (change_of (flat_of edit) first t) (λ m h. h) (deepened_in edit first t)
deepened_at first (next ∷ after) edit t = go (child_of first t) refl (λ child. deepened_at next after edit child)
  where
    n : ℕ
    n = deep_of edit (length (first ∷ next ∷ after))

    go : (o : Option Meaning) → child_of first t ≡ o → ((child : Meaning) → IsDeepened (deep_of edit (length (next ∷ after))) (edited next after edit child) (edited next after (flat_of edit) child))
        → IsDeepened n (edited first (next ∷ after) edit t) (edited first (next ∷ after) (flat_of edit) t)
    go None is inner =
        subst (λ r. IsDeepened n r (edited first (next ∷ after) (flat_of edit) t)) (sym (edited_missing first next after edit t is))
        (edited_missing first next after (flat_of edit) t is ∙ ap Err (flat_missing edit))
    go (Some child) is inner =
        let below = deepened_then (deep_of edit (length (next ∷ after))) n (λ m. with_child first m t) (edited next after edit child) (edited next after (flat_of edit) child)
        (λ m h. deep_more edit (length after) (depth m) (depth (with_child first m t)) (with_child_depth first t child m is) h) (inner child) in
        subst (λ r. IsDeepened n r (edited first (next ∷ after) (flat_of edit) t)) (sym (edited_below first next after edit t child is))
        (subst (λ r. IsDeepened n (and_then (edited next after edit child) (λ made. Ok (with_child first made t))) r) (sym (edited_below first next after (flat_of edit) t child is)) below)

pub deepened : (path : List (List ℕ)) (edit : Edit) (t : Meaning) → IsDeepened (deep_of edit (length path)) (edited_at path edit t) (edited_at path (flat_of edit) t)
deepened [] (Add v) t = (omega arith, (null, refl))
deepened [] Remove t = refl
deepened [] (Replace v) t = (omega arith, (null, refl))
deepened (first ∷ rest) edit t = deepened_at first rest edit t

-- the flat edit is made: the depth is the cause
pub refused_deep : (n : ℕ) (a b : Result Meaning ApplyCause) (other : Meaning) → IsDeepened n a b → 127 < n → b ≡ Ok other → and_then a within_limits ≡ Err Deep
refused_deep n (Err cause) b other h lt is = let clash : Err cause ≡ Ok other = sym h ∙ is in absurd (cc)
refused_deep n (Ok made) b other h lt is = let low : n ≤ depth made = h.0 in too_deep made (omega arith)

-- it isn't made: its cause is the cause
pub refused_flat : (n : ℕ) (a b : Result Meaning ApplyCause) (refusal : Refusal) → IsDeepened n a b → RefusedBy b refusal → RefusedBy (and_then a within_limits) refusal
refused_flat n (Err c) b (Cause cause) h is = sym h ∙ is
refused_flat n (Err c) b OutOfMemory h is = tt
refused_flat n (Ok made) b (Cause cause) h is = let clash : Ok h.1.0 ≡ Err cause = sym h.1.1 ∙ is in absurd (cc)
refused_flat n (Ok made) b OutOfMemory h is = tt

-- what an operation can't do it can't do within limits either
pub refused_then : (a : Result Meaning ApplyCause) (refusal : Refusal) → RefusedBy a refusal → RefusedBy (and_then a within_limits) refusal
refused_then (Err c) (Cause cause) is = is
refused_then (Err c) OutOfMemory is = tt
refused_then (Ok made) (Cause cause) is = absurd (cc)
refused_then (Ok made) OutOfMemory is = tt
