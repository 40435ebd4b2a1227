-- One name and value of a patch, and the members on both sides of it.
use Rattle.std.proofs.Common.{◌≡◌, ℕ, zero, suc, ◌+◌, ◌<◌, Bool, true, false, List, [], ◌∷◌, ◌++◌, length, get_or, take, drop, Option, Some, None, refl, sym, ap, subst, ◌∙◌, append_assoc, length-append, arith}
use Rattle.std.proofs.lemmas.Bool.{true≢false}
use Rattle.std.specs.Prelude.{remove, if◌then◌else◌}
use Rattle.std.specs.Ordering.{nat_cmp}
use Rattle.std.specs.declared.cmp.Ordering.{Ordering}
use Rattle.std.specs.declared.cmp.Ordering.TheVariants.{Less, Equal, Greater}
use Rattle.std.specs.Cmp.Lexicographic.{slice_cmp, nat_list_cmp_total}
use Rattle.std.specs.List.{AllByRecursion}
use Rattle.std.specs.List.Sorted.{IsStrictlySortedBy}
use Rattle.std.proofs.lemmas.List.{take_at, drop_at, set_at, take_more, drop_more, get_or_default}
use Rattle.base_types.specs.Edits.{put}
use Rattle.base_types.specs.Meaning.{Meaning, Fields, fields_of}
use Rattle.base_types.specs.Names.{names, AreSorted}
use Rattle.base_types.specs.Parts.{lookup, is_null}
use Rattle.base_types.specs.Search.{IsNamedAt, IsPlaceFor}
use Rattle.base_types.proofs.Ordered.{same_name, lookup_found, lookup_absent}
use Rattle.base_types.proofs.Placing.{above-below, below-above, put_found, put_absent, without_found, without_absent, sorted_inserted, sorted_removed}
use Rattle.base_types.proofs.Removing.{sorted-set}
use Rattle.merge_patch.specs.Merging.{merged, merged_fields, changed}
use Rattle.merge_patch.specs.Walking.{AllBelow, StartsNotBelow, IsFirstValue, behind}

pub no_members_sorted : AreSorted []
unfolding IsStrictlySortedBy
no_members_sorted = tt

pub all_below_snoc : (name : List ℕ) (ms : List (List ℕ × Meaning)) (m : List ℕ × Meaning) → AllBelow name ms → slice_cmp nat_cmp m.0 name ≡ Less → AllBelow name (ms ++ m ∷ [])
all_below_snoc name [] m all lt = (lt, tt)
all_below_snoc name (x ∷ ms) m all lt = (all.0, all_below_snoc name ms m all.1 lt)

pub all_below_above : (name above : List ℕ) (ms : List (List ℕ × Meaning)) → AllBelow name ms → slice_cmp nat_cmp name above ≡ Less → AllBelow above ms
all_below_above name above [] all lt = tt
all_below_above name above (m ∷ ms) all lt = (nat_list_cmp_total.trans m.0 name above all.0 lt, all_below_above name above ms all.1 lt)

back_sorted : (done l : List (List ℕ × Meaning)) → AreSorted (done ++ l) → AreSorted l
unfolding IsStrictlySortedBy
back_sorted [] l s = s
back_sorted (m ∷ done) l s = back_sorted done l s.1

all_above : (name : List ℕ) (ks : List (List ℕ)) (k : List ℕ) → slice_cmp nat_cmp k name ≡ Greater → AllByRecursion (λ y. slice_cmp nat_cmp k y ≡ Less) ks → AllByRecursion (λ y. slice_cmp nat_cmp y name ≡ Greater) ks
all_above name [] k gt all = tt
all_above name (y ∷ ks) k gt all =
    let below : slice_cmp nat_cmp name k ≡ Less = below-above k name gt in
    (above-below name y (nat_list_cmp_total.trans name k y below all.0), all_above name ks k gt all.1)

not_below : (o : Ordering) (k name : List ℕ) → slice_cmp nat_cmp k name ≡ o → (slice_cmp nat_cmp k name ≡ Less → ⊥) → (k ≡ name → ⊥) → slice_cmp nat_cmp k name ≡ Greater
not_below Less k name is starts other = absurd (starts is)
not_below Equal k name is starts other = absurd (other (same_name k name is))
not_below Greater k name is starts other = is

above_rest : (name : List ℕ) (l : List (List ℕ × Meaning)) → AreSorted l → StartsNotBelow name l → IsFirstValue name l None → AllByRecursion (λ k. slice_cmp nat_cmp k name ≡ Greater) (names l)
unfolding IsStrictlySortedBy
above_rest name [] s starts other = tt
above_rest name (m ∷ l) s starts other =
    let gt = not_below (slice_cmp nat_cmp m.0 name) m.0 name refl starts other in
    (gt, all_above name (names l) m.0 gt s.0)

place_between : (name : List ℕ) (done l : List (List ℕ × Meaning)) → AreSorted (done ++ l) → AllBelow name done → StartsNotBelow name l → IsFirstValue name l None → IsPlaceFor name (done ++ l) (length done)
place_between name done l s below starts other = record {
  within = let n = length-append done l in omega arith;
  before = rw (take_at done l (length done) refl) below;
  after = rw (drop_at done l (length done) refl) (above_rest name l (back_sorted done l s) starts other);
}

names_middle : (name : List ℕ) (done more : List (List ℕ × Meaning)) (m : List ℕ × Meaning) → m.0 ≡ name → IsNamedAt name (done ++ m ∷ more) (length done)
names_middle name [] more m same = ap Some same
names_middle name (x ∷ done) more m same = names_middle name done more m same

remove_middle : (done more : List (List ℕ × Meaning)) (m : List ℕ × Meaning) → remove (done ++ m ∷ more) (length done) ≡ done ++ more
remove_middle [] more m = refl
remove_middle (x ∷ done) more m = ap (λ l. x ∷ l) (remove_middle done more m)

get_middle : (done more : List (List ℕ × Meaning)) (m d : List ℕ × Meaning) → get_or (done ++ m ∷ more) (length done) d ≡ m
get_middle [] more m d = refl
get_middle (x ∷ done) more m d = get_middle done more m d

some_none : {u : Meaning} → Some u ≡ None → ⊥
some_none e = absurd (cc)

-- a null: the member goes, where it is there
pub dropped : (name : List ℕ) (v : Meaning) (value : Option Meaning) (done l : List (List ℕ × Meaning)) → AreSorted (done ++ l) → AllBelow name done → StartsNotBelow name l → IsFirstValue name l value
    → is_null v ≡ true → fields_of (done ++ behind value l) ≡ changed (name, v) (fields_of (done ++ l))
dropped name v None done l s below starts first null = rw null (sym (without_absent name (done ++ l) (length done) (place_between name done l s below starts first)))
dropped name v (Some u) done [] s below starts first null = absurd (some_none first)
dropped name v (Some u) done (m ∷ l) s below starts first null =
    rw null (ap fields_of (sym (remove_middle done l m)) ∙ sym (without_found name (done ++ m ∷ l) (length done) s (names_middle name done l m first.0)))

unless_null : {X : Type 0} (b : Bool) → b ≡ false → (x y : X) → y ≡ (if b then x else y)
unless_null true e x y = absurd (true≢false e)
unless_null false e x y = refl

-- any other value: what is merged of it stands between the members before and those behind
pub put_between : (name : List ℕ) (v w : Meaning) (value : Option Meaning) (done l : List (List ℕ × Meaning)) → AreSorted (done ++ l) → AllBelow name done → StartsNotBelow name l → IsFirstValue name l value
    → is_null v ≡ false → w ≡ merged value v → fields_of ((done ++ (name, w) ∷ []) ++ behind value l) ≡ changed (name, v) (fields_of (done ++ l))
put_between name v w None done l s below starts first other made =
    let place = place_between name done l s below starts first in
    let absent : lookup name (fields_of (done ++ l)) ≡ None = lookup_absent (done ++ l) name (length done) place in
    let at : fields_of ((done ++ (name, w) ∷ []) ++ l) ≡ put name w (fields_of (done ++ l)) =
    ap fields_of (append_assoc done ((name, w) ∷ []) l ∙ (λ i. sym (take_at done l (length done) refl) i ++ (name, w) ∷ sym (drop_at done l (length done) refl) i)) ∙ sym (put_absent name w (done ++ l) (length done) place) in
    at ∙ ap (λ x. put name x (fields_of (done ++ l))) (made ∙ ap (λ o. merged o v) (sym absent)) ∙ unless_null (is_null v) other _ _
put_between name v w (Some u) done [] s below starts first other made = absurd (some_none first)
put_between name v w (Some u) done (m ∷ l) s below starts first other made =
    let named = names_middle name done l m first.0 in
    let found : lookup name (fields_of (done ++ m ∷ l)) ≡ Some u = lookup_found (done ++ m ∷ l) name (length done) m s named ∙ ap Some (ap (λ x. x.1) (get_middle done l m m) ∙ first.1) in
    let at : fields_of ((done ++ (name, w) ∷ []) ++ l) ≡ put name w (fields_of (done ++ m ∷ l)) =
    ap fields_of (append_assoc done ((name, w) ∷ []) l ∙ sym (set_at done m l (name, w) (length done) refl)) ∙ sym (put_found name w (done ++ m ∷ l) (length done) s named) in
    at ∙ ap (λ x. put name x (fields_of (done ++ m ∷ l))) (made ∙ ap (λ o. merged o v) (sym found)) ∙ unless_null (is_null v) other _ _

pub sorted_dropped : (name : List ℕ) (value : Option Meaning) (done l : List (List ℕ × Meaning)) → AreSorted (done ++ l) → AreSorted (done ++ behind value l)
sorted_dropped name None done l s = s
sorted_dropped name (Some u) done [] s = s
sorted_dropped name (Some u) done (m ∷ l) s = subst AreSorted (remove_middle done l m) (sorted_removed (done ++ m ∷ l) (length done) s)

pub sorted_put : (name : List ℕ) (w : Meaning) (value : Option Meaning) (done l : List (List ℕ × Meaning)) → AreSorted (done ++ l) → AllBelow name done → StartsNotBelow name l → IsFirstValue name l value
    → AreSorted ((done ++ (name, w) ∷ []) ++ behind value l)
sorted_put name w None done l s below starts first =
    subst AreSorted ((λ i. take_at done l (length done) refl i ++ (name, w) ∷ drop_at done l (length done) refl i) ∙ sym (append_assoc done ((name, w) ∷ []) l))
    (sorted_inserted name w (done ++ l) (length done) s (place_between name done l s below starts first))
sorted_put name w (Some u) done [] s below starts first = absurd (some_none first)
sorted_put name w (Some u) done (m ∷ l) s below starts first =
    subst AreSorted (set_at done m l (name, w) (length done) refl ∙ sym (append_assoc done ((name, w) ∷ []) l))
    (sorted-set (done ++ m ∷ l) (length done) name w (names_middle name done l m first.0) s)

-- the patch, one change after another
pub merged_fields-snoc : (target : Fields) (cs : List (List ℕ × Meaning)) (c : List ℕ × Meaning) → merged_fields target (fields_of (cs ++ c ∷ [])) ≡ changed c (merged_fields target (fields_of cs))
merged_fields-snoc target [] c = refl
merged_fields-snoc target (x ∷ cs) c = merged_fields-snoc (changed x target) cs c

pub merged_more : (target : Fields) (cs : List (List ℕ × Meaning)) (i : ℕ) (c : List ℕ × Meaning) → i < length cs → c ≡ get_or cs i c → changed c (merged_fields target (fields_of (take i cs))) ≡ merged_fields target (fields_of (take (i + 1) cs))
merged_more target cs i c lt read =
    sym (ap (λ l. merged_fields target (fields_of l)) (take_more cs i c lt ∙ ap (λ x. take i cs ++ x ∷ []) (sym read)) ∙ merged_fields-snoc target (take i cs) c)

later_names : (k : List ℕ) (cs : List (List ℕ × Meaning)) → AllByRecursion (λ y. slice_cmp nat_cmp k y ≡ Less) (names cs) → AllByRecursion (λ (d : List ℕ × Meaning). slice_cmp nat_cmp k d.0 ≡ Less) cs
later_names k [] all = tt
later_names k (c ∷ cs) all = (all.0, later_names k cs all.1)

pub later_changes : (cs : List (List ℕ × Meaning)) (i : ℕ) (c : List ℕ × Meaning) → AreSorted cs → i < length cs → c ≡ get_or cs i c → AllByRecursion (λ d. slice_cmp nat_cmp c.0 d.0 ≡ Less) (drop (i + 1) cs)
unfolding IsStrictlySortedBy
later_changes [] i c s lt read = absurd (omega arith)
later_changes (x ∷ cs) zero c s lt read = subst (λ y. AllByRecursion (λ d. slice_cmp nat_cmp y.0 d.0 ≡ Less) cs) (sym read) (later_names x.0 cs s.0)
later_changes (x ∷ cs) (suc i) c s lt read =
    let e : suc i + 1 ≡ suc (i + 1) = omega arith in
    rw e (later_changes cs i c s.1 (omega arith) read)

pub below_later : (k : List ℕ) (cs ms : List (List ℕ × Meaning)) → AllByRecursion (λ d. slice_cmp nat_cmp k d.0 ≡ Less) cs → ((name : List ℕ) → slice_cmp nat_cmp k name ≡ Less → AllBelow name ms) → AllByRecursion (λ d. AllBelow d.0 ms) cs
below_later k [] ms all below = tt
below_later k (c ∷ cs) ms all below = (below c.0 all.0, below_later k cs ms all.1 below)

pub below_this : (cs ms : List (List ℕ × Meaning)) (i : ℕ) (c : List ℕ × Meaning) → i < length cs → c ≡ get_or cs i c → AllByRecursion (λ d. AllBelow d.0 ms) (drop i cs) → AllBelow c.0 ms
below_this [] ms i c lt read all = absurd (omega arith)
below_this (x ∷ cs) ms zero c lt read all = subst (λ y. AllBelow y.0 ms) (sym read) all.0
below_this (x ∷ cs) ms (suc i) c lt read all = below_this cs ms i c (omega arith) read all

pub below_nothing : (cs : List (List ℕ × Meaning)) → AllByRecursion (λ d. AllBelow d.0 []) cs
below_nothing [] = tt
below_nothing (c ∷ cs) = (tt, below_nothing cs)

-- a copied member stands as it stood
pub kept_more : (all old : List (List ℕ × Meaning)) (next : ℕ) (m : List ℕ × Meaning) → next < length old → m ≡ get_or old next m → (all ++ m ∷ []) ++ drop (next + 1) old ≡ all ++ drop next old
kept_more all old next m lt read =
    append_assoc all (m ∷ []) (drop (next + 1) old) ∙ ap (λ l. all ++ l) (ap (λ x. x ∷ drop (next + 1) old) read ∙ sym (drop_more old next m lt))

pub same_item : (old : List (List ℕ × Meaning)) (n : ℕ) (x y : List ℕ × Meaning) → n < length old → x ≡ get_or old n x → y ≡ get_or old n y → x ≡ y
same_item old n x y lt a b = a ∙ get_or_default old n x y lt ∙ sym b
