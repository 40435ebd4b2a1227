-- A merge patch gives an object the same members, those of one name aside, whatever the object has at that name.
use Rattle.std.proofs.Common.{◌≡◌, ℕ, Bool, true, false, List, Some, refl, sym, ap, subst, ◌∙◌, bytes_eq}
use Rattle.std.specs.Prelude.{⊤, if◌then◌else◌, codes}
use Rattle.std.specs.Ordering.{nat_cmp, match_ordering}
use Rattle.std.specs.declared.cmp.Ordering.{Ordering}
use Rattle.std.specs.declared.cmp.Ordering.TheVariants.{Less, Equal, Greater}
use Rattle.std.specs.Cmp.Lexicographic.{slice_cmp, nat_list_cmp_total}
use Rattle.std.specs.List.{AllByRecursion}
use Rattle.std.specs.List.Sorted.{IsStrictlySortedBy}
use Rattle.std.proofs.lemmas.Bool.{false≢true}
use Rattle.std.proofs.lemmas.Slice.Eq.{bytes_eq-Decides}
use Rattle.base_types.specs.Edits.{put}
use Rattle.base_types.specs.Meaning.{Meaning, null, flag, whole, words, items, members, Fields, no_fields, field, fields_list}
use Rattle.base_types.specs.Names.{names, AreSorted}
use Rattle.base_types.specs.Parts.{lookup, is_null}
use Rattle.base_types.specs.Stored.{fields_without}
use Rattle.base_types.proofs.Ordered.{bytes_eq-self, same_name}
use Rattle.base_types.proofs.Placing.{below-above}
use Rattle.merge_patch.specs.Merging.{merged, merged_fields}
use Rattle.setup_file.specs.Objects.{api_version_of}
use Rattle.setup_file.specs.declared.setup.Tracked.{Tracked}
use Rattle.request_bodies.specs.Patched.{IsOrdered, typed, untyped}

-- a name below each of these
abbrev AllAbove : List ℕ → Fields → Type 0
AllAbove name no_fields = ⊤
AllAbove name (field k t ms) = (slice_cmp nat_cmp name k ≡ Less) × AllAbove name ms

abbrev AreOrdered : Fields → Type 0
AreOrdered no_fields = ⊤
AreOrdered (field k t ms) = AllAbove k ms × AreOrdered ms

above_names : (name : List ℕ) (ms : Fields) → AllByRecursion (λ k. slice_cmp nat_cmp name k ≡ Less) (names (fields_list ms)) → AllAbove name ms
above_names name no_fields all = tt
above_names name (field k t ms) all = (all.0, above_names name ms all.1)

ordered : (ms : Fields) → AreSorted (fields_list ms) → AreOrdered ms
unfolding IsStrictlySortedBy
ordered no_fields sorted = tt
ordered (field k t ms) sorted = (above_names k ms sorted.0, ordered ms sorted.1)

above_less : (lower name : List ℕ) (ms : Fields) → slice_cmp nat_cmp lower name ≡ Less → AllAbove name ms → AllAbove lower ms
above_less lower name no_fields less all = tt
above_less lower name (field k t ms) less all = (nat_list_cmp_total.trans lower name k less all.0, above_less lower name ms less all.1)

-- what is put in or taken out leaves the order

put_above : (name k : List ℕ) (x : Meaning) (ms : Fields) → slice_cmp nat_cmp name k ≡ Less → AllAbove name ms → AllAbove name (put k x ms)
put_above name k x no_fields less all = (less, tt)
put_above name k x (field u t ms) less all = go (slice_cmp nat_cmp k u) (put_above name k x ms less)
  where
    go : (o : Ordering) → (AllAbove name ms → AllAbove name (put k x ms)) → AllAbove name (match_ordering o (field k x (field u t ms)) (field k x ms) (field u t (put k x ms)))
    go Less rest = (less, all)
    go Equal rest = (less, all.1)
    go Greater rest = (all.0, rest all.1)

put_ordered : (k : List ℕ) (x : Meaning) (ms : Fields) → AreOrdered ms → AreOrdered (put k x ms)
put_ordered k x no_fields o = (tt, tt)
put_ordered k x (field u t ms) o = go (slice_cmp nat_cmp k u) refl (put_ordered k x ms)
  where
    go : (c : Ordering) → slice_cmp nat_cmp k u ≡ c → (AreOrdered ms → AreOrdered (put k x ms)) → AreOrdered (match_ordering c (field k x (field u t ms)) (field k x ms) (field u t (put k x ms)))
    go Less is rest = ((is, above_less k u ms is o.0), o)
    go Equal is rest = (subst (λ n. AllAbove n ms) (sym (same_name k u is)) o.0, o.1)
    go Greater is rest = (put_above u k x ms (below-above k u is) o.0, rest o.1)

without_above : (name k : List ℕ) (ms : Fields) → AllAbove name ms → AllAbove name (fields_without k ms)
without_above name k no_fields all = tt
without_above name k (field u t ms) all = go (bytes_eq u k) (without_above name k ms all.1)
  where
    go : (b : Bool) → AllAbove name (fields_without k ms) → AllAbove name (if b then fields_without k ms else field u t (fields_without k ms))
    go true rest = rest
    go false rest = (all.0, rest)

without_ordered : (k : List ℕ) (ms : Fields) → AreOrdered ms → AreOrdered (fields_without k ms)
without_ordered k no_fields o = tt
without_ordered k (field u t ms) o = go (bytes_eq u k) (without_ordered k ms o.1)
  where
    go : (b : Bool) → AreOrdered (fields_without k ms) → AreOrdered (if b then fields_without k ms else field u t (fields_without k ms))
    go true rest = rest
    go false rest = (without_above u k ms o.0, rest)

-- a member is taken out, and another is put in or taken out

without-without : (a b : List ℕ) (ms : Fields) → fields_without a (fields_without b ms) ≡ fields_without b (fields_without a ms)
without-without a b no_fields = refl
without-without a b (field u t ms) = go (bytes_eq u a) refl (bytes_eq u b) refl (without-without a b ms)
  where
    go : (x : Bool) → bytes_eq u a ≡ x → (y : Bool) → bytes_eq u b ≡ y → fields_without a (fields_without b ms) ≡ fields_without b (fields_without a ms)
        → fields_without a (fields_without b (field u t ms)) ≡ fields_without b (fields_without a (field u t ms))
    go true in_a true in_b rest = rw (in_a, in_b) rest
    go true in_a false in_b rest = rw (in_a, in_b, in_a) rest
    go false in_a true in_b rest = rw (in_a, in_b) rest
    go false in_a false in_b rest = rw (in_a, in_b, in_a) (ap (field u t) rest)

without-put_same : (k : List ℕ) (x : Meaning) (ms : Fields) → fields_without k (put k x ms) ≡ fields_without k ms
without-put_same k x no_fields = rw (bytes_eq-self k) refl
without-put_same k x (field u t ms) = go (slice_cmp nat_cmp k u) refl (without-put_same k x ms)
  where
    go : (c : Ordering) → slice_cmp nat_cmp k u ≡ c → fields_without k (put k x ms) ≡ fields_without k ms
        → fields_without k (match_ordering c (field k x (field u t ms)) (field k x ms) (field u t (put k x ms))) ≡ fields_without k (field u t ms)
    go Less is rest = rw (bytes_eq-self k) refl
    go Equal is rest = rw (bytes_eq-self k) (rw (subst (λ n. bytes_eq n k ≡ true) (same_name k u is) (bytes_eq-self k)) refl)
    go Greater is rest = ap (λ l. if bytes_eq u k then l else field u t l) rest

put_first : (k : List ℕ) (x : Meaning) (ms : Fields) → AllAbove k ms → put k x ms ≡ field k x ms
put_first k x no_fields all = refl
put_first k x (field u t ms) all = rw (all.0) refl

without-put_other : (name k : List ℕ) (x : Meaning) (ms : Fields) → bytes_eq k name ≡ false → AreOrdered ms → fields_without name (put k x ms) ≡ put k x (fields_without name ms)
without-put_other name k x no_fields other o = rw other refl
without-put_other name k x (field u t ms) other o = go (slice_cmp nat_cmp k u) refl (bytes_eq u name) refl (without-put_other name k x ms other o.1)
  where
    go : (c : Ordering) → slice_cmp nat_cmp k u ≡ c → (b : Bool) → bytes_eq u name ≡ b → fields_without name (put k x ms) ≡ put k x (fields_without name ms)
        → fields_without name (match_ordering c (field k x (field u t ms)) (field k x ms) (field u t (put k x ms))) ≡ put k x (if b then fields_without name ms else field u t (fields_without name ms))
    go Less is true named rest = rw (other, named) (sym (put_first k x (fields_without name ms) (without_above k name ms (above_less k u ms is o.0))))
    go Less is false unnamed rest = rw (other, unnamed, is) refl
    go Equal is true named rest = absurd (false≢true (sym other ∙ subst (λ n. bytes_eq n name ≡ true) (sym (same_name k u is)) named))
    go Equal is false unnamed rest = rw (other, is) refl
    go Greater is true named rest = rw named rest
    go Greater is false unnamed rest = rw (unnamed, is) (ap (field u t) rest)

lookup-without : (name k : List ℕ) (ms : Fields) → bytes_eq k name ≡ false → lookup k (fields_without name ms) ≡ lookup k ms
lookup-without name k no_fields other = refl
lookup-without name k (field u t ms) other = go (bytes_eq u name) refl (bytes_eq u k) refl (lookup-without name k ms other)
  where
    go : (b : Bool) → bytes_eq u name ≡ b → (d : Bool) → bytes_eq u k ≡ d → lookup k (fields_without name ms) ≡ lookup k ms
        → lookup k (fields_without name (field u t ms)) ≡ lookup k (field u t ms)
    go true named true is rest = absurd (false≢true (sym other ∙ subst (λ n. bytes_eq n name ≡ true) ((bytes_eq-Decides u k).0 is) named))
    go true named false is rest = rw (named, is) rest
    go false unnamed true is rest = rw (unnamed, is) refl
    go false unnamed false is rest = rw (unnamed, is) rest

-- two objects that differ in one member stay such objects

module _ (name : List ℕ) where
  changed_alike : (k : List ℕ) (v : Meaning) (S T : Fields) → AreOrdered S → AreOrdered T → fields_without name S ≡ fields_without name T
      → fields_without name (if is_null v then fields_without k S else put k (merged (lookup k S) v) S) ≡ fields_without name (if is_null v then fields_without k T else put k (merged (lookup k T) v) T)
  changed_alike k v S T in_s in_t alike = go (is_null v) (bytes_eq k name) refl
    where
      go : (b d : Bool) → bytes_eq k name ≡ d
          → fields_without name (if b then fields_without k S else put k (merged (lookup k S) v) S) ≡ fields_without name (if b then fields_without k T else put k (merged (lookup k T) v) T)
      go true d is = without-without name k S ∙ ap (fields_without k) alike ∙ without-without k name T
      go false true is =
          let same : k ≡ name = (bytes_eq-Decides k name).0 is in
          let dropped : (x : Meaning) (ms : Fields) → fields_without name (put k x ms) ≡ fields_without name ms =
          λ x ms. subst (λ n. fields_without n (put k x ms) ≡ fields_without n ms) same (without-put_same k x ms) in
          dropped (merged (lookup k S) v) S ∙ alike ∙ sym (dropped (merged (lookup k T) v) T)
      go false false is =
          let found : lookup k S ≡ lookup k T = sym (lookup-without name k S is) ∙ ap (lookup k) alike ∙ lookup-without name k T is in
          without-put_other name k (merged (lookup k S) v) S is in_s ∙ (λ i. put k (merged (found i) v) (alike i)) ∙ sym (without-put_other name k (merged (lookup k T) v) T is in_t)

  changed_ordered : (k : List ℕ) (v : Meaning) (S : Fields) → AreOrdered S → AreOrdered (if is_null v then fields_without k S else put k (merged (lookup k S) v) S)
  changed_ordered k v S o = go (is_null v)
    where
      go : (b : Bool) → AreOrdered (if b then fields_without k S else put k (merged (lookup k S) v) S)
      go true = without_ordered k S o
      go false = put_ordered k (merged (lookup k S) v) S o

  merged_alike : (changes S T : Fields) → AreOrdered S → AreOrdered T → fields_without name S ≡ fields_without name T
      → fields_without name (merged_fields S changes) ≡ fields_without name (merged_fields T changes)
  merged_alike no_fields S T in_s in_t alike = alike
  merged_alike (field k v changes) S T in_s in_t alike =
      merged_alike changes _ _ (changed_ordered k v S in_s) (changed_ordered k v T in_t) (changed_alike k v S T in_s in_t alike)

  put_alike : (x : Meaning) (ms changes : Fields) → AreOrdered ms → fields_without name (merged_fields (put name x ms) changes) ≡ fields_without name (merged_fields ms changes)
  put_alike x ms changes o = merged_alike changes (put name x ms) ms (put_ordered name x ms o) o (without-put_same name x ms)

both_alike : (a b : List ℕ) (x y : Meaning) (ms changes : Fields) → AreOrdered ms
    → fields_without b (fields_without a (merged_fields (put b y (put a x ms)) changes)) ≡ fields_without b (fields_without a (merged_fields ms changes))
both_alike a b x y ms changes o =
    without-without b a (merged_fields (put b y (put a x ms)) changes)
    ∙ ap (fields_without a) (put_alike b y (put a x ms) changes (put_ordered a x ms o))
    ∙ without-without a b (merged_fields (put a x ms) changes)
    ∙ ap (fields_without b) (put_alike a x ms changes o)

to_object : (tracked : Tracked) (ms : Fields) (body : Meaning) → AreOrdered ms → untyped (merged (Some (typed tracked (members ms))) body) ≡ untyped (merged (Some (members ms)) body)
to_object tracked ms null o = refl
to_object tracked ms (flag b) o = refl
to_object tracked ms (whole z) o = refl
to_object tracked ms (words s) o = refl
to_object tracked ms (items ts) o = refl
to_object tracked ms (members changes) o =
    ap members (both_alike (codes "apiVersion") (codes "kind") (words (api_version_of tracked.group tracked.version)) (words tracked.kind) ms changes o)

-- the version and the kind of the old object don't matter to a merge patch
pub merged-typed : (tracked : Tracked) (old body : Meaning) → IsOrdered old → untyped (merged (Some (typed tracked old)) body) ≡ untyped (merged (Some old) body)
merged-typed tracked null body o = refl
merged-typed tracked (flag b) body o = refl
merged-typed tracked (whole z) body o = refl
merged-typed tracked (words s) body o = refl
merged-typed tracked (items ts) body o = refl
merged-typed tracked (members ms) body o = to_object tracked ms body (ordered ms o)
