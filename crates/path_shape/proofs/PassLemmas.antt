-- What goes past a path, by its entries and its built-in fields.
use Rattle.std.proofs.Common.{◌≡◌, ℕ, ◌+◌, ◌-◌, ◌^◌, ◌<◌, ◌≤◌, min, Bool, true, false, ◌||◌, List, [], ◌∷◌, ◌++◌, length, get_or, take, drop, map, Option, Some, None, bytes_eq, refl, sym, ap, ◌∙◌, arith, add-one}
use Rattle.std.proofs.Math.Seq.{take-length, take-suc}
use Rattle.std.specs.Prelude.{option_and_then, codes, unwrap_or, if◌then◌else◌}
use Rattle.std.proofs.lemmas.Bool.{false≢true}
use Rattle.std.proofs.lemmas.Slice.Eq.{bytes_eq-Decides}
use Rattle.path_shape.specs.declared.shape.FieldClass.{FieldClass}
use Rattle.path_shape.specs.declared.shape.FieldClass.TheVariants.{Owned, Kept, Defaulted}
use Rattle.path_shape.specs.declared.shape.ShapeEntry.{ShapeEntry}
use Rattle.path_shape.specs.Beginning.{read_as}
use Rattle.path_shape.specs.Patterns.{covers}
use Rattle.path_shape.specs.Passing.{cut, behind, is_past, any_past, ends_at, entry_class, laid, entries_past, built_in_fields, released_fields, built_in_class, released_class, is_root, is_metadata, at_root, at_metadata, fields_past, past}
use Rattle.path_shape.specs.Walk.{Going, is_any, goes_on, narrow, ending}
use Rattle.path_shape.proofs.ClassLemmas.{narrow-append, ending-append, first_or, first_or-none, or_true}

abbrev Field : Type 0
Field = List ℕ × FieldClass

swapped : (a b : List ℕ) → bytes_eq a b ≡ bytes_eq b a
swapped a b = go (bytes_eq a b) refl (bytes_eq b a) refl
  where
    go : (x : Bool) → bytes_eq a b ≡ x → (y : Bool) → bytes_eq b a ≡ y → x ≡ y
    go true is true is' = refl
    go false is false is' = refl
    go true is false is' = absurd (false≢true (sym is' ∙ (bytes_eq-Decides b a).1 (sym ((bytes_eq-Decides a b).0 is))))
    go false is true is' = absurd (false≢true (sym is ∙ (bytes_eq-Decides a b).1 (sym ((bytes_eq-Decides b a).0 is'))))

narrow-laid : (name : List ℕ) (o : Option (List (List ℕ))) (c : FieldClass) (rest : List Going) → narrow name (laid o c rest) ≡ laid (option_and_then (cut name) o) c (narrow name rest)
narrow-laid name None c rest = refl
narrow-laid name (Some []) c rest = refl
narrow-laid name (Some (t ∷ ts)) c rest = go (covers t name)
  where
    go : (m : Bool) → (if m then goes_on ts c (narrow name rest) else narrow name rest) ≡ laid (if m then Some ts else None) c (narrow name rest)
    go true = refl
    go false = refl

narrow-entries : (name : List ℕ) (way : List (List ℕ)) (nothing : Bool) (es : List ShapeEntry) → narrow name (entries_past way nothing es) ≡ entries_past (name ∷ way) nothing es
narrow-entries name way nothing [] = refl
narrow-entries name way nothing (e ∷ es) =
    narrow-laid name (behind way e.path) (read_as nothing e.class) (entries_past way nothing es)
    ∙ ap (laid (behind (name ∷ way) e.path) (read_as nothing e.class)) (narrow-entries name way nothing es)

narrow-at_root : (name : List ℕ) (fs : List Field) (m : Bool) → covers (codes "metadata") name ≡ m → narrow name (map at_root fs) ≡ (if m then map at_metadata fs else [])
narrow-at_root name [] true e = refl
narrow-at_root name [] false e = refl
narrow-at_root name (f ∷ fs) true e = rw e (ap (λ l. at_metadata f ∷ l) (narrow-at_root name fs true e))
narrow-at_root name (f ∷ fs) false e = rw e (narrow-at_root name fs false e)

narrow-at_metadata : (name : List ℕ) (fs : List Field) → narrow name (map at_metadata fs) ≡ []
narrow-at_metadata name [] = refl
narrow-at_metadata name (f ∷ fs) = go (narrow-at_metadata name fs) (covers f.0 name)
  where
    go : narrow name (map at_metadata fs) ≡ [] → (m : Bool) → (if m then narrow name (map at_metadata fs) else narrow name (map at_metadata fs)) ≡ []
    go rest true = rest
    go rest false = rest

narrow-fields : (name : List ℕ) (way : List (List ℕ)) (fs : List Field) → narrow name (fields_past way fs) ≡ fields_past (name ∷ way) fs
narrow-fields name [] fs = narrow-at_root name fs (bytes_eq name (codes "metadata")) (swapped (codes "metadata") name)
narrow-fields name (n ∷ []) fs = go (bytes_eq n (codes "metadata"))
  where
    go : (m : Bool) → narrow name (if m then map at_metadata fs else []) ≡ []
    go true = narrow-at_metadata name fs
    go false = refl
narrow-fields name (n ∷ m ∷ above) fs = refl

-- what goes past a child's path
pub past-child : (name : List ℕ) (nothing : Bool) (es : List ShapeEntry) (way : List (List ℕ)) → narrow name (past nothing es way) ≡ past nothing es (name ∷ way)
past-child name nothing es way =
    narrow-append name (fields_past way (released_fields nothing)) (entries_past way nothing es ++ fields_past way (built_in_fields nothing))
    ∙ (λ i. narrow-fields name way (released_fields nothing) i ++ narrow-append name (entries_past way nothing es) (fields_past way (built_in_fields nothing)) i)
    ∙ (λ i. fields_past (name ∷ way) (released_fields nothing) ++ (narrow-entries name way nothing es i ++ narrow-fields name way (built_in_fields nothing) i))

ending-laid : (name : List ℕ) (o : Option (List (List ℕ))) (c : FieldClass) (rest : List Going) → ending name (laid o c rest) ≡ (if ends_at name o then Some c else ending name rest)
ending-laid name None c rest = refl
ending-laid name (Some []) c rest = refl
ending-laid name (Some (t ∷ [])) c rest = refl
ending-laid name (Some (t ∷ u ∷ us)) c rest = go (covers t name)
  where
    go : (m : Bool) → (if m then ending name rest else ending name rest) ≡ ending name rest
    go true = refl
    go false = refl

ending-entries : (name : List ℕ) (way : List (List ℕ)) (nothing : Bool) (es : List ShapeEntry) → ending name (entries_past way nothing es) ≡ entry_class way name nothing es
ending-entries name way nothing [] = refl
ending-entries name way nothing (e ∷ es) =
    ending-laid name (behind way e.path) (read_as nothing e.class) (entries_past way nothing es)
    ∙ ap (λ r. if ends_at name (behind way e.path) then Some (read_as nothing e.class) else r) (ending-entries name way nothing es)

ending-at_root : (name : List ℕ) (fs : List Field) → ending name (map at_root fs) ≡ None
ending-at_root name [] = refl
ending-at_root name (f ∷ fs) = go (ending-at_root name fs) (covers (codes "metadata") name)
  where
    go : ending name (map at_root fs) ≡ None → (m : Bool) → (if m then ending name (map at_root fs) else ending name (map at_root fs)) ≡ None
    go rest true = rest
    go rest false = rest

ending-released : (nothing : Bool) (name : List ℕ) → ending name (map at_metadata (released_fields nothing)) ≡ released_class nothing name
ending-released false name = refl
ending-released true name = λ i.
    if swapped (codes "deletionTimestamp") name i then Some Owned
    else (if swapped (codes "deletionGracePeriodSeconds") name i then Some Owned
    else (if swapped (codes "finalizers") name i then Some Owned
    else (if swapped (codes "generation") name i then Some Owned else None)))

ending-built_in : (nothing : Bool) (name : List ℕ) → ending name (map at_metadata (built_in_fields nothing)) ≡ built_in_class nothing name
ending-built_in nothing name = λ i.
    if swapped (codes "name") name i then Some (read_as nothing Defaulted)
    else (if swapped (codes "namespace") name i then Some (read_as nothing Defaulted)
    else (if swapped (codes "resourceVersion") name i then Some Owned
    else (if swapped (codes "generation") name i then Some Owned
    else (if swapped (codes "selfLink") name i then Some Owned
    else (if swapped (codes "uid") name i then Some Kept
    else (if swapped (codes "creationTimestamp") name i then Some Kept
    else (if swapped (codes "deletionTimestamp") name i then Some Kept
    else (if swapped (codes "deletionGracePeriodSeconds") name i then Some Kept else None))))))))

ending-fields : (name : List ℕ) (way : List (List ℕ)) (fs : List Field) → is_metadata way ≡ false → ending name (fields_past way fs) ≡ None
ending-fields name way fs other = go (is_root way)
  where
    go : (m : Bool) → ending name (if m then map at_root fs else (if is_metadata way then map at_metadata fs else [])) ≡ None
    go true = ending-at_root name fs
    go false = rw other refl

metadata_fields : (way : List (List ℕ)) (fs : List Field) → is_metadata way ≡ true → fields_past way fs ≡ map at_metadata fs
metadata_fields [] fs is = absurd (false≢true is)
metadata_fields (name ∷ above) fs is = rw is refl

module _ (name : List ℕ) (nothing : Bool) (es : List ShapeEntry) (way : List (List ℕ)) where
  parted : ending name (past nothing es way)
      ≡ first_or (ending name (fields_past way (released_fields nothing))) (first_or (entry_class way name nothing es) (ending name (fields_past way (built_in_fields nothing))))
  parted =
      ending-append name (fields_past way (released_fields nothing)) (entries_past way nothing es ++ fields_past way (built_in_fields nothing))
      ∙ ap (first_or (ending name (fields_past way (released_fields nothing))))
      (ending-append name (entries_past way nothing es) (fields_past way (built_in_fields nothing))
      ∙ ap (λ o. first_or o (ending name (fields_past way (built_in_fields nothing)))) (ending-entries name way nothing es))

  -- but in the metadata the entries alone end at one more token
  pub ending_elsewhere : is_metadata way ≡ false → ending name (past nothing es way) ≡ entry_class way name nothing es
  ending_elsewhere other =
      parted
      ∙ (λ i. first_or (ending-fields name way (released_fields nothing) other i) (first_or (entry_class way name nothing es) (ending-fields name way (built_in_fields nothing) other i)))
      ∙ first_or-none (entry_class way name nothing es)

  pub ending_in_metadata : is_metadata way ≡ true → ending name (past nothing es way)
      ≡ first_or (released_class nothing name) (first_or (entry_class way name nothing es) (built_in_class nothing name))
  ending_in_metadata is =
      parted
      ∙ (λ i. first_or ((ap (ending name) (metadata_fields way (released_fields nothing) is) ∙ ending-released nothing name) i)
      (first_or (entry_class way name nothing es) ((ap (ending name) (metadata_fields way (built_in_fields nothing) is) ∙ ending-built_in nothing name) i)))

any-append : (ps qs : List Going) → is_any (ps ++ qs) ≡ (is_any ps || is_any qs)
any-append [] qs = refl
any-append (p ∷ ps) qs = refl

any_third : (ps qs rs : List Going) → is_any rs ≡ true → is_any (ps ++ (qs ++ rs)) ≡ true
any_third ps qs rs is =
    any-append ps (qs ++ rs) ∙ ap (λ b. is_any ps || b) (any-append qs rs ∙ ap (λ b. is_any qs || b) is ∙ or_true (is_any qs)) ∙ or_true (is_any ps)

pub any_root : (nothing : Bool) (es : List ShapeEntry) (way : List (List ℕ)) → is_root way ≡ true → is_any (past nothing es way) ≡ true
any_root nothing es way is = any_third (fields_past way (released_fields nothing)) (entries_past way nothing es) (fields_past way (built_in_fields nothing)) (rw is refl)

pub any_metadata : (nothing : Bool) (es : List ShapeEntry) (way : List (List ℕ)) → is_metadata way ≡ true → is_any (past nothing es way) ≡ true
any_metadata nothing es way is =
    any_third (fields_past way (released_fields nothing)) (entries_past way nothing es) (fields_past way (built_in_fields nothing)) (ap is_any (metadata_fields way (built_in_fields nothing) is))

any-laid : (o : Option (List (List ℕ))) (c : FieldClass) (rest : List Going) → is_any (laid o c rest) ≡ (is_past o || is_any rest)
any-laid None c rest = refl
any-laid (Some []) c rest = refl
any-laid (Some (t ∷ ts)) c rest = refl

any-entries : (way : List (List ℕ)) (nothing : Bool) (es : List ShapeEntry) → is_any (entries_past way nothing es) ≡ any_past way es
any-entries way nothing [] = refl
any-entries way nothing (e ∷ es) = any-laid (behind way e.path) (read_as nothing e.class) (entries_past way nothing es) ∙ ap (λ b. is_past (behind way e.path) || b) (any-entries way nothing es)

or_false : (a : Bool) → (a || false) ≡ a
or_false true = refl
or_false false = refl

no_fields_past : (way : List (List ℕ)) (fs : List Field) → is_root way ≡ false → is_metadata way ≡ false → fields_past way fs ≡ []
no_fields_past way fs lower other = rw (lower, other) refl

pub any_elsewhere : (nothing : Bool) (es : List ShapeEntry) (way : List (List ℕ)) → is_root way ≡ false → is_metadata way ≡ false → is_any (past nothing es way) ≡ any_past way es
any_elsewhere nothing es way lower other =
    ap (λ l. is_any (l ++ (entries_past way nothing es ++ fields_past way (built_in_fields nothing)))) (no_fields_past way (released_fields nothing) lower other)
    ∙ any-append (entries_past way nothing es) (fields_past way (built_in_fields nothing))
    ∙ (λ i. any-entries way nothing es i || is_any (no_fields_past way (built_in_fields nothing) lower other i))
    ∙ or_false (any_past way es)

pub first_found : (released own built_in : Option FieldClass) (class found : FieldClass) → released ≡ Some found → found ≡ unwrap_or (first_or released (first_or own built_in)) class
first_found released own built_in class found is = rw is refl

pub second_found : (released own built_in : Option FieldClass) (class found : FieldClass) → released ≡ None → own ≡ Some found → found ≡ unwrap_or (first_or released (first_or own built_in)) class
second_found released own built_in class found none is = rw (none, is) refl

pub last_found : (released own built_in : Option FieldClass) (class : FieldClass) → released ≡ None → own ≡ None → unwrap_or built_in class ≡ unwrap_or (first_or released (first_or own built_in)) class
last_found released own built_in class none none' = rw (none, none') refl

-- a list is its first item and the others
front_is : {A : Type 0} (xs : List A) (x : A) → 0 < length xs → x ≡ get_or xs 0 x → x ∷ take (length xs - 1) (drop 1 xs) ≡ xs
front_is [] x lt at = absurd (omega arith)
front_is (y ∷ ys) x lt at =
    let count : length (y ∷ ys) - 1 ≡ length ys = omega arith in
    let rest : take (length (y ∷ ys) - 1) ys ≡ ys = ap (λ n. take n ys) count ∙ take-length ys in
    λ i. at i ∷ rest i

past_none : (way : List (List ℕ)) (nothing : Bool) (e : ShapeEntry) (rest : List Going) → is_past (behind way e.path) ≡ false → laid (behind way e.path) (read_as nothing e.class) rest ≡ rest
past_none way nothing e rest is = go (behind way e.path) is
  where
    go : (o : Option (List (List ℕ))) → is_past o ≡ false → laid o (read_as nothing e.class) rest ≡ rest
    go None is = refl
    go (Some []) is = refl
    go (Some (t ∷ ts)) is = absurd (false≢true (sym is))

-- an entry that doesn't go past a path may be left out, in front
pub without_first : (way : List (List ℕ)) (nothing : Bool) (es : List ShapeEntry) (e : ShapeEntry) → 0 < length es → e ≡ get_or es 0 e → is_past (behind way e.path) ≡ false
    → entries_past way nothing (take (length es - 1) (drop 1 es)) ≡ entries_past way nothing es
without_first way nothing es e lt at is =
    sym (past_none way nothing e (entries_past way nothing (take (length es - 1) (drop 1 es))) is) ∙ ap (entries_past way nothing) (front_is es e lt at)

past-snoc : (way : List (List ℕ)) (nothing : Bool) (es : List ShapeEntry) (e : ShapeEntry) → is_past (behind way e.path) ≡ false → entries_past way nothing (es ++ e ∷ []) ≡ entries_past way nothing es
past-snoc way nothing [] e is = past_none way nothing e [] is
past-snoc way nothing (d ∷ es) e is = ap (laid (behind way d.path) (read_as nothing d.class)) (past-snoc way nothing es e is)

-- and behind
pub without_last : (way : List (List ℕ)) (nothing : Bool) (es : List ShapeEntry) (e : ShapeEntry) (i : ℕ) → i < length es → e ≡ get_or es i e → is_past (behind way e.path) ≡ false
    → entries_past way nothing (take i es) ≡ entries_past way nothing (take (i + 1) es)
without_last way nothing es e i lt at is =
    let more : take (i + 1) es ≡ take i es ++ e ∷ [] = rw add-one (take-suc es i e lt ∙ ap (λ x. take i es ++ (x ∷ [])) (sym at)) in
    sym (ap (entries_past way nothing) more ∙ past-snoc way nothing (take i es) e is)

pub past-same : (nothing : Bool) (es es' : List ShapeEntry) (way : List (List ℕ)) → entries_past way nothing es ≡ entries_past way nothing es' → past nothing es way ≡ past nothing es' way
past-same nothing es es' way same = ap (λ l. fields_past way (released_fields nothing) ++ (l ++ fields_past way (built_in_fields nothing))) same

behind-length : (way tokens rest : List (List ℕ)) → behind way tokens ≡ Some rest → length tokens ≡ length way + length rest
behind-length [] tokens rest is = let same : tokens ≡ rest = cc in let count = ap length same in omega arith
behind-length (name ∷ above) tokens rest is = go (behind above tokens) (behind-length above tokens) is
  where
    go : (o : Option (List (List ℕ))) → ((left : List (List ℕ)) → o ≡ Some left → length tokens ≡ length above + length left) → option_and_then (cut name) o ≡ Some rest
        → length tokens ≡ length (name ∷ above) + length rest
    go None before is = absurd (let none : None ≡ Some rest = is in cc)
    go (Some []) before is = absurd (let none : None ≡ Some rest = is in cc)
    go (Some (t ∷ ts)) before is = further (covers t name) (before (t ∷ ts) refl) is
      where
        further : (m : Bool) → length tokens ≡ length above + length (t ∷ ts) → (if m then Some ts else None) ≡ Some rest → length tokens ≡ length (name ∷ above) + length rest
        further true long is = let same : ts ≡ rest = cc in let count = ap length same in omega arith
        further false long is = absurd (let none : None ≡ Some rest = is in cc)

-- what ends under a path has one token more
ends-length : (name : List ℕ) (way tokens : List (List ℕ)) → ends_at name (behind way tokens) ≡ true → length tokens ≡ length way + 1
ends-length name way tokens is = go (behind way tokens) (behind-length way tokens) is
  where
    go : (o : Option (List (List ℕ))) → ((rest : List (List ℕ)) → o ≡ Some rest → length tokens ≡ length way + length rest) → ends_at name o ≡ true → length tokens ≡ length way + 1
    go None before is = absurd (false≢true is)
    go (Some []) before is = absurd (false≢true is)
    go (Some (t ∷ [])) before is = before (t ∷ []) refl
    go (Some (t ∷ u ∷ us)) before is = absurd (false≢true is)

pub of_another_length : (name : List ℕ) (way tokens : List (List ℕ)) → (length tokens ≡ length way + 1 → ⊥) → ends_at name (behind way tokens) ≡ false
of_another_length name way tokens other = go (ends_at name (behind way tokens)) refl
  where
    go : (m : Bool) → ends_at name (behind way tokens) ≡ m → m ≡ false
    go true is = absurd (other (ends-length name way tokens is))
    go false is = refl

pub last_depth : (count level depth : ℕ) → depth ≡ min level (2 ^ 64 - 1) → count ≡ level + 1 → count ≤ 2 ^ 64 - 1 → count - 1 ≡ depth
last_depth count level depth is longer fits = omega arith
