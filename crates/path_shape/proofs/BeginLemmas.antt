-- The patterns with which the walk begins are those of the shape.
use Rattle.std.proofs.Common.{◌≡◌, ℕ, ◌<◌, ◌≤◌, Bool, true, false, ◌||◌, List, [], ◌∷◌, ◌++◌, length, map, Option, Some, None, IfSome, refl, sym, ap, subst, ◌∙◌, arith}
use Rattle.std.specs.Prelude.{option_map, option_and_then, is_some, unwrap_or, if◌then◌else◌, ◌↔◌}
use Rattle.std.proofs.lemmas.List.{map-append}
use Rattle.base_types.specs.Meaning.{Meaning, null, flag, whole, words, items, members, no_fields, Fields, field}
use Rattle.path_shape.specs.declared.shape.FieldClass.{FieldClass}
use Rattle.path_shape.specs.declared.shape.FieldClass.TheVariants.{Asked, Defaulted, Owned, Kept}
use Rattle.path_shape.specs.declared.shape.ShapeEntry.{ShapeEntry}
use Rattle.path_shape.specs.declared.shape.Shape.{Shape}
use Rattle.path_shape.specs.declared.spot.Spot.{Spot}
use Rattle.path_shape.specs.Forms.{has_no_fields, thin_root, thin_fields, left_root, child_in, at}
use Rattle.path_shape.specs.Patterns.{Pattern, matches, goes_past, longer, longest, class_or, class_at, is_open, built_in, pattern_of, patterns_of, unasked, unasked_pattern, released, unasked_patterns}
use Rattle.path_shape.specs.Agreement.{kind, FitsOpen, FitsHere, Fits, Agrees, Keeps}
use Rattle.path_shape.specs.Passing.{entries_past, built_in_fields, released_fields, at_root, past}
use Rattle.path_shape.specs.Walk.{form, Going, pattern_from, patterns_in, goes_on, FitsSpot}
use Rattle.path_shape.specs.Beginning.{read_as, root_class, root_or}
use Rattle.path_shape.proofs.ClassLemmas.{Found, lt_true, lt_false, longer_keeps, longest_some, first_or, first_or-none, goes_on-append, is_open-append, or_true}

-- the patterns that have a token
abbrev pub nonempty : List Pattern → List Going
nonempty [] = []
nonempty (p ∷ ps) = goes_on p.0 p.1 (nonempty ps)

nonempty-append : (ps qs : List Pattern) → nonempty (ps ++ qs) ≡ nonempty ps ++ nonempty qs
nonempty-append [] qs = refl
nonempty-append (p ∷ ps) qs = ap (goes_on p.0 p.1) (nonempty-append ps qs) ∙ goes_on-append p.0 p.1 (nonempty ps) (nonempty qs)

is_open-nonempty : (ps : List Pattern) (path : List (List ℕ)) → is_open ps path ≡ is_open (map pattern_from (nonempty ps)) path
is_open-nonempty [] path = refl
is_open-nonempty (([], c) ∷ ps) path = is_open-nonempty ps path
is_open-nonempty ((t ∷ ts, c) ∷ ps) path = ap (λ b. goes_past (t ∷ ts) path || b) (is_open-nonempty ps path)

-- what matches the root has no token
longest_zero : (ps : List Pattern) → IfSome (longest [] ps) (λ f. f.0 ≤ 0)
longest_zero [] = tt
longest_zero (([], c) ∷ ps) = longer_keeps (λ n. n ≤ 0) (0, c) (longest [] ps) (omega arith) (longest_zero ps)
longest_zero ((t ∷ ts, c) ∷ ps) = longest_zero ps

abbrev over : Option Found → Option Found → Option Found
over one None = one
over one (Some more) = Some more

empty_step : (n : ℕ) (c : FieldClass) (one more : Option Found) → n ≤ 0 → IfSome more (λ f. 0 < f.0)
    → Some (longer (n, c) (over one more)) ≡ over (Some (longer (n, c) one)) more
empty_step n c one None le some = refl
empty_step n c one (Some f) le some = rw (lt_true n f.0 (omega (arith, some))) refl

token_step : (n : ℕ) (c : FieldClass) (one more : Option Found) → 0 < n → IfSome one (λ f. f.0 ≤ 0)
    → Some (longer (n, c) (over one more)) ≡ over one (Some (longer (n, c) more))
token_step n c None None some le = refl
token_step n c (Some f) None some le = rw (lt_false n f.0 (omega (arith, le))) refl
token_step n c one (Some f) some le = refl

longest-nonempty : (path : List (List ℕ)) (ps : List Pattern) → longest path ps ≡ over (longest [] ps) (longest path (map pattern_from (nonempty ps)))
longest-nonempty path [] = refl
longest-nonempty path (([], c) ∷ ps) =
    ap (λ l. Some (longer (0, c) l)) (longest-nonempty path ps)
    ∙ empty_step 0 c (longest [] ps) (longest path (map pattern_from (nonempty ps))) (omega arith) (longest_some path (nonempty ps))
longest-nonempty path ((t ∷ ts, c) ∷ ps) = go (longest-nonempty path ps) (matches (t ∷ ts) path) refl
  where
    go : longest path ps ≡ over (longest [] ps) (longest path (map pattern_from (nonempty ps))) → (m : Bool) → matches (t ∷ ts) path ≡ m
        → longest path ((t ∷ ts, c) ∷ ps) ≡ over (longest [] ((t ∷ ts, c) ∷ ps)) (longest path (map pattern_from (nonempty ((t ∷ ts, c) ∷ ps))))
    go rest true m = rw m (ap (λ l. Some (longer (length (t ∷ ts), c) l)) rest ∙ token_step (length (t ∷ ts)) c (longest [] ps) (longest path (map pattern_from (nonempty ps))) (omega arith) (longest_zero ps))
    go rest false m = rw m rest

class_or-over : (class : FieldClass) (one more : Option Found) → class_or class (over one more) ≡ class_or (class_or class one) more
class_or-over class one None = refl
class_or-over class one (Some f) = refl

class_at-nonempty : (class : FieldClass) (path : List (List ℕ)) (ps : List Pattern) → class_at class ps path ≡ class_at (class_at class ps []) (map pattern_from (nonempty ps)) path
class_at-nonempty class path ps = ap (class_or class) (longest-nonempty path ps) ∙ class_or-over class (longest [] ps) (longest path (map pattern_from (nonempty ps)))

-- patterns for the root only give its class
module _ (class : FieldClass) (ps : List Pattern) (had : Bool) (o a r : Option Meaning) where
  abbrev There : List (List ℕ) → Bool × FieldClass → Type 0
  There path z = FitsHere z.0 z.1 had (at path o) (at path a) (at path r)

  one_class : (path : List (List ℕ)) → ◌≡◌ {A = Bool × FieldClass} (is_open ps path, class_at class ps path)
      (is_open (map pattern_from (nonempty ps)) path, class_at (class_at class ps []) (map pattern_from (nonempty ps)) path)
  one_class path = λ i. (is_open-nonempty ps path i, class_at-nonempty class path ps i)

  pub Fits-from : Fits (class_at class ps []) (map pattern_from (nonempty ps)) had o a r → Fits class ps had o a r
  Fits-from h = record {
    here = subst (There []) (sym (one_class [])) h.here;
    below = λ path token past. subst (There (path ++ token ∷ [])) (sym (one_class (path ++ token ∷ []))) (h.below path token (sym (is_open-nonempty ps path) ∙ past));
  }

  pub Fits-to : Fits class ps had o a r → Fits (class_at class ps []) (map pattern_from (nonempty ps)) had o a r
  Fits-to h = record {
    here = subst (There []) (one_class []) h.here;
    below = λ path token past. subst (There (path ++ token ∷ [])) (one_class (path ++ token ∷ [])) (h.below path token (is_open-nonempty ps path ∙ past));
  }

abbrev first_root : List Pattern → Option FieldClass
first_root [] = None
first_root (([], c) ∷ ps) = Some c
first_root ((t ∷ ts, c) ∷ ps) = first_root ps

root_step : (c : FieldClass) (rest : Option FieldClass) → ◌≡◌ {A = Option Found} (Some (longer (0, c) (option_map (λ k. (0, k)) rest))) (Some (0, c))
root_step c None = refl
root_step c (Some k) = refl

longest-first_root : (ps : List Pattern) → longest [] ps ≡ option_map (λ k. (0, k)) (first_root ps)
longest-first_root [] = refl
longest-first_root (([], c) ∷ ps) = ap (λ l. Some (longer (0, c) l)) (longest-first_root ps) ∙ root_step c (first_root ps)
longest-first_root ((t ∷ ts, c) ∷ ps) = longest-first_root ps

class_or-root : (class : FieldClass) (o : Option FieldClass) → class_or class (option_map (λ k. (0, k)) o) ≡ unwrap_or o class
class_or-root class None = refl
class_or-root class (Some k) = refl

class_at-first_root : (class : FieldClass) (ps : List Pattern) → class_at class ps [] ≡ unwrap_or (first_root ps) class
class_at-first_root class ps = ap (class_or class) (longest-first_root ps) ∙ class_or-root class (first_root ps)

first_root-append : (ps qs : List Pattern) → first_root (ps ++ qs) ≡ first_or (first_root ps) (first_root qs)
first_root-append [] qs = refl
first_root-append (([], c) ∷ ps) qs = refl
first_root-append ((t ∷ ts, c) ∷ ps) qs = first_root-append ps qs

abbrev read_entry : Bool → ShapeEntry → Pattern
read_entry nothing e = (e.path, read_as nothing e.class)

root_class-first_root : (nothing : Bool) (es : List ShapeEntry) (root : FieldClass) → root_class nothing es root ≡ unwrap_or (first_root (map (read_entry nothing) es)) (read_as nothing root)
root_class-first_root nothing [] root = refl
root_class-first_root nothing (e ∷ es) root = go (root_class-first_root nothing es root) e.path (read_as nothing e.class)
  where
    go : root_class nothing es root ≡ unwrap_or (first_root (map (read_entry nothing) es)) (read_as nothing root) → (path : List (List ℕ)) (c : FieldClass)
        → root_or path c (root_class nothing es root) ≡ unwrap_or (first_root ((path, c) ∷ map (read_entry nothing) es)) (read_as nothing root)
    go rest [] c = refl
    go rest (t ∷ ts) c = rest

entries-nonempty : (nothing : Bool) (es : List ShapeEntry) → entries_past [] nothing es ≡ nonempty (map (read_entry nothing) es)
entries-nonempty nothing [] = refl
entries-nonempty nothing (e ∷ es) = ap (goes_on e.path (read_as nothing e.class)) (entries-nonempty nothing es)

-- the patterns before the entries, the entries, and the patterns behind them
abbrev pub begun : Bool → List Pattern → List ShapeEntry → List Pattern → List Pattern
begun nothing front es back = front ++ (map (read_entry nothing) es ++ back)

begun_patterns : (nothing : Bool) (front back : List Pattern) (es : List ShapeEntry) → map at_root (released_fields nothing) ≡ nonempty front → map at_root (built_in_fields nothing) ≡ nonempty back
    → patterns_in (past nothing es []) ≡ map pattern_from (nonempty (begun nothing front es back))
begun_patterns nothing front back es first last =
    ap (map pattern_from) ((λ i. first i ++ (entries-nonempty nothing es i ++ last i))
    ∙ ap (λ l. nonempty front ++ l) (sym (nonempty-append (map (read_entry nothing) es) back)) ∙ sym (nonempty-append front (map (read_entry nothing) es ++ back)))

begun_class : (nothing : Bool) (front back : List Pattern) (es : List ShapeEntry) (root : FieldClass) → first_root front ≡ None → first_root back ≡ None
    → root_class nothing es root ≡ class_at (read_as nothing root) (begun nothing front es back) []
begun_class nothing front back es root first last =
    let mine = map (read_entry nothing) es in
    let all : first_root (begun nothing front es back) ≡ first_root mine =
    first_root-append front (mine ++ back) ∙ ap (λ o. first_or o (first_root (mine ++ back))) first ∙ first_root-append mine back ∙ ap (first_or (first_root mine)) last ∙ first_or-none (first_root mine) in
    root_class-first_root nothing es root ∙ ap (λ o. unwrap_or o (read_as nothing root)) (sym all) ∙ sym (class_at-first_root (read_as nothing root) (begun nothing front es back))

-- an object and what is left of it have the same members, so they agree alike at an open root
object_at : (fs : Fields) (name : List ℕ) → child_in name (Some (members fs)) ≡ child_in name (if has_no_fields fs then None else Some (members fs))
object_at no_fields name = refl
object_at (field k t ms) name = refl

root_child : (t : Meaning) (name : List ℕ) → child_in name (Some (thin_root t)) ≡ child_in name (left_root t)
root_child null name = refl
root_child (flag b) name = refl
root_child (whole z) name = refl
root_child (words s) name = refl
root_child (items ts) name = refl
root_child (members ms) name = object_at (thin_fields ms) name

object_kind : (fs : Fields) → kind (if has_no_fields fs then None else Some (members fs)) ≡ members no_fields
object_kind no_fields = refl
object_kind (field k t ms) = refl

left_kind : (t : Meaning) → kind (left_root t) ≡ members no_fields
left_kind null = refl
left_kind (flag b) = refl
left_kind (whole z) = refl
left_kind (words s) = refl
left_kind (items ts) = refl
left_kind (members ms) = object_kind (thin_fields ms)

root_kind : (t : Meaning) → kind (Some (thin_root t)) ≡ members no_fields
root_kind null = refl
root_kind (flag b) = refl
root_kind (whole z) = refl
root_kind (words s) = refl
root_kind (items ts) = refl
root_kind (members ms) = refl

abbrev IsRoot : Option Meaning → Type 0
IsRoot t = kind t ≡ members no_fields

root_open : (class : FieldClass) (had : Bool) (o a r : Option Meaning) → IsRoot o → IsRoot a → IsRoot r → FitsOpen class had o a r
root_open Asked had o a r ko ka kr = ka ∙ sym kr
root_open Defaulted had o None r ko ka kr = tt
root_open Defaulted had o (Some t) r ko ka kr = ka ∙ sym kr
root_open Owned had o a r ko ka kr = tt
root_open Kept had o a r ko ka kr = λ _. ko ∙ sym kr

abbrev SameChildren : Option Meaning → Option Meaning → Type 0
SameChildren x y = (name : List ℕ) → child_in name x ≡ child_in name y

at-same : (x y : Option Meaning) → SameChildren x y → (path : List (List ℕ)) (token : List ℕ) → at (path ++ token ∷ []) x ≡ at (path ++ token ∷ []) y
at-same x y same [] token = same token
at-same x y same (name ∷ path) token = ap (at (path ++ token ∷ [])) (same name)

Fits-root : (class : FieldClass) (ps : List Pattern) (had : Bool) (o a r o' a' r' : Option Meaning) → is_open ps [] ≡ true
    → SameChildren o o' → SameChildren a a' → SameChildren r r' → IsRoot o' → IsRoot a' → IsRoot r' → Fits class ps had o a r → Fits class ps had o' a' r'
Fits-root class ps had o a r o' a' r' past so sa sr ko ka kr h = record {
  here = subst (λ b. FitsHere b (class_at class ps []) had o' a' r') (sym past) (root_open (class_at class ps []) had o' a' r' ko ka kr);
  below = λ path token past'.
      let p = path ++ token ∷ [] in
      let one : FitsHere (is_open ps p) (class_at class ps p) had (at p o') (at p a) (at p r) = subst (λ t. FitsHere (is_open ps p) (class_at class ps p) had t (at p a) (at p r)) (at-same o o' so path token) (h.below path token past') in
      let two : FitsHere (is_open ps p) (class_at class ps p) had (at p o') (at p a') (at p r) = subst (λ t. FitsHere (is_open ps p) (class_at class ps p) had (at p o') t (at p r)) (at-same a a' sa path token) one in
      subst (λ t. FitsHere (is_open ps p) (class_at class ps p) had (at p o') (at p a') t) (at-same r r' sr path token) two;
}

old_child : (old : Option Meaning) → SameChildren (option_map thin_root old) (option_and_then left_root old)
old_child None name = refl
old_child (Some t) name = root_child t name

old_kind : (old : Option Meaning) → IsRoot (option_map thin_root old)
old_kind None = refl
old_kind (Some t) = root_kind t

old_left_kind : (old : Option Meaning) → IsRoot (option_and_then left_root old)
old_left_kind None = refl
old_left_kind (Some t) = left_kind t

same_back : (x y : Option Meaning) → SameChildren x y → SameChildren y x
same_back x y same name = sym (same name)

abbrev Whole : Type 0
Whole = FieldClass × List Pattern × Bool × Option Meaning × Option Meaning × Option Meaning

abbrev FitsWhole : Whole → Type 0
FitsWhole z = Fits z.0 z.1 z.2 z.3 z.4 z.5

module _ (nothing : Bool) (front back : List Pattern) (es : List ShapeEntry) (root : FieldClass)
    (first : map at_root (released_fields nothing) ≡ nonempty front) (last : map at_root (built_in_fields nothing) ≡ nonempty back) (none : first_root front ≡ None) (none' : first_root back ≡ None)
    (at_start : is_open (begun nothing front es back) [] ≡ true) (spot : Spot) (old : Option Meaning) (asked answered : Meaning)
    (o : form spot.old ≡ option_and_then left_root old) (a : form spot.asked ≡ left_root asked) (r : form spot.answered ≡ left_root answered) where
  abbrev All : List Pattern
  All = begun nothing front es back

  same_whole : ◌≡◌ {A = Whole} (root_class nothing es root, patterns_in (past nothing es []), spot.had, form spot.old, form spot.asked, form spot.answered)
      (class_at (read_as nothing root) All [], map pattern_from (nonempty All), spot.had, option_and_then left_root old, left_root asked, left_root answered)
  same_whole = λ i. (begun_class nothing front back es root none none' i, begun_patterns nothing front back es first last i, spot.had, o i, a i, r i)

  pub begun_to : FitsSpot (root_class nothing es root) (patterns_in (past nothing es [])) spot
      → Fits (read_as nothing root) All spot.had (option_map thin_root old) (Some (thin_root asked)) (Some (thin_root answered))
  begun_to h =
      let left = Fits-from (read_as nothing root) All spot.had (option_and_then left_root old) (left_root asked) (left_root answered) (subst FitsWhole same_whole h) in
      Fits-root (read_as nothing root) All spot.had (option_and_then left_root old) (left_root asked) (left_root answered) (option_map thin_root old) (Some (thin_root asked)) (Some (thin_root answered)) at_start
      (same_back (option_map thin_root old) (option_and_then left_root old) (old_child old)) (same_back (Some (thin_root asked)) (left_root asked) (root_child asked)) (same_back (Some (thin_root answered)) (left_root answered) (root_child answered)) (old_kind old) (root_kind asked) (root_kind answered) left

  pub begun_from : Fits (read_as nothing root) All spot.had (option_map thin_root old) (Some (thin_root asked)) (Some (thin_root answered))
      → FitsSpot (root_class nothing es root) (patterns_in (past nothing es [])) spot
  begun_from h =
      let left = Fits-root (read_as nothing root) All spot.had (option_map thin_root old) (Some (thin_root asked)) (Some (thin_root answered)) (option_and_then left_root old) (left_root asked) (left_root answered) at_start
      (old_child old) (root_child asked) (root_child answered) (old_left_kind old) (left_kind asked) (left_kind answered) h in
      subst FitsWhole (sym same_whole) (Fits-to (read_as nothing root) All spot.had (option_and_then left_root old) (left_root asked) (left_root answered) left)

past_built_in : (es : List ShapeEntry) → is_open (map (read_entry false) es ++ built_in) [] ≡ true
past_built_in es = is_open-append (map (read_entry false) es) built_in [] ∙ or_true (is_open (map (read_entry false) es) [])

pub agrees_begun : (shape : Shape) (spot : Spot) (old : Option Meaning) (asked answered : Meaning) → spot.had ≡ is_some old
    → form spot.old ≡ option_and_then left_root old → form spot.asked ≡ left_root asked → form spot.answered ≡ left_root answered
    → (FitsSpot (root_class false shape.entries shape.root) (patterns_in (past false shape.entries [])) spot) ↔ Agrees shape old asked answered
agrees_begun shape spot old asked answered had o a r = (
  λ h. subst (λ b. Fits shape.root (patterns_of shape) b (option_map thin_root old) (Some (thin_root asked)) (Some (thin_root answered))) had
      (begun_to false [] built_in shape.entries shape.root refl refl refl refl (past_built_in shape.entries) spot old asked answered o a r h),
  λ h. begun_from false [] built_in shape.entries shape.root refl refl refl refl (past_built_in shape.entries) spot old asked answered o a r
      (subst (λ b. Fits shape.root (patterns_of shape) b (option_map thin_root old) (Some (thin_root asked)) (Some (thin_root answered))) (sym had) h),
)

unasked_entries : (es : List ShapeEntry) → map unasked_pattern (map pattern_of es) ≡ map (read_entry true) es
unasked_entries [] = refl
unasked_entries (e ∷ es) = ap (λ l. read_entry true e ∷ l) (unasked_entries es)

unasked_all : (shape : Shape) → begun true released shape.entries (map unasked_pattern built_in) ≡ unasked_patterns shape
unasked_all shape =
    ap (λ l. released ++ l) (ap (λ l. l ++ map unasked_pattern built_in) (sym (unasked_entries shape.entries)) ∙ sym (map-append unasked_pattern (map pattern_of shape.entries) built_in))

pub keeps_begun : (shape : Shape) (spot : Spot) (old answered : Meaning) → spot.had ≡ true
    → form spot.old ≡ left_root old → form spot.asked ≡ left_root old → form spot.answered ≡ left_root answered
    → (FitsSpot (root_class true shape.entries shape.root) (patterns_in (past true shape.entries [])) spot) ↔ Keeps shape old answered
keeps_begun shape spot old answered had o a r = (
  λ h. subst (λ b. Fits (unasked shape.root) (unasked_patterns shape) b (Some (thin_root old)) (Some (thin_root old)) (Some (thin_root answered))) had
      (subst (λ ps. Fits (unasked shape.root) ps spot.had (Some (thin_root old)) (Some (thin_root old)) (Some (thin_root answered))) (unasked_all shape)
      (begun_to true released (map unasked_pattern built_in) shape.entries shape.root refl refl refl refl refl spot (Some old) old answered o a r h)),
  λ h. begun_from true released (map unasked_pattern built_in) shape.entries shape.root refl refl refl refl refl spot (Some old) old answered o a r
      (subst (λ ps. Fits (unasked shape.root) ps spot.had (Some (thin_root old)) (Some (thin_root old)) (Some (thin_root answered))) (sym (unasked_all shape))
      (subst (λ b. Fits (unasked shape.root) (unasked_patterns shape) b (Some (thin_root old)) (Some (thin_root old)) (Some (thin_root answered))) (sym had) h)),
)
