-- Roles and bindings, once their turns are sorted, come by key and revision.
use Rattle.std.proofs.Common.{◌≡◌, ◌≢◌, ℕ, zero, suc, ◌+◌, ◌-◌, ◌<◌, ◌≤◌, ◌⊎◌, inl, inr, Bool, true, false, List, [], ◌∷◌, length, Option, Some, None, slice_get, All, AllPairs, Contains, refl, sym, ap, ◌∙◌, subst, true≢false, is_some, option_and_then, arith}
use Rattle.std.specs.Cmp.{IsStrictWeakOrder, nat_cmp_total}
use Rattle.std.specs.List.Sorted.{IsPermutation, IsSorted}
use Rattle.std.specs.Ordering.{ordering_then, ordering_reverse, is_eq, is_lt, nat_cmp}
use Rattle.std.specs.declared.cmp.Ordering.{Ordering}
use Rattle.std.specs.declared.cmp.Ordering.TheVariants.{Less, Equal, Greater}
use Rattle.std.proofs.lemmas.Cmp.{on_total, then_total}
use Rattle.std.proofs.lemmas.List.Sorted.{Contains-permutation, IsPermutation-sym, ranks_by, sorted_far}
use Rattle.std.proofs.lemmas.Option.{same_Some, slice_get_within}
use Rattle.clouds.proofs.Adding.{key_order_total, same_key_from}
use Rattle.clouds.specs.Kept.{key_order}
use Rattle.history_model.proofs.Members.{here, there, in_cons, not_in_none, all_from, at_apart, pairs_cons, in_at, at_in}
use Rattle.base_types.specs.Meaning.{Meaning}
use Rattle.base_types.proofs.Orderings.{nat_less, then_less, then_next}
use Rattle.object_past.specs.declared.version.Version.{Version}
use Rattle.rbac_timeline.specs.Kinds.{kind_of_key}
use Rattle.rbac_timeline.specs.Sound.{IsBefore}
use Rattle.rbac_timeline.specs.declared.kind.Kind.{Kind}
use Rattle.rbac_timeline.specs.declared.version.RbacVersion.{RbacVersion}
use Rattle.write_groups.proofs.Judging.{apart_moved}
use Rattle.write_groups.proofs.Lists.{made_from, made_has, made_pairs}
use Rattle.log_context.specs.Roles.{AreRoles, is_role, rbac_version, roles_at, turn_order, turns_from, version_with}
use Rattle.log_context.specs.declared.roles.RoleTurn.{RoleTurn}

-- the turn of a role or binding among the versions, which stand from a position on
record IsTurn (position : ℕ) (versions : List Version) (turn : RoleTurn) : Type 0 where
  pub behind : position ≤ turn.position
  pub version : Version
  pub at : slice_get versions (turn.position - position) ≡ Some version
  pub of_key : turn.key ≡ version.key
  pub of_revision : turn.revision ≡ version.revision

turn_later : (position : ℕ) (v : Version) (versions : List Version) (turn : RoleTurn) → IsTurn (position + 1) versions turn → IsTurn position (v ∷ versions) turn
turn_later position v versions turn t = record {
  behind = let b = t.behind in omega arith;
  version = t.version;
  at = subst (λ i. slice_get (v ∷ versions) i ≡ Some t.version) (let b = t.behind in let e : suc (turn.position - (position + 1)) ≡ turn.position - position = omega arith in e) t.at;
  of_key = t.of_key;
  of_revision = t.of_revision;
}

turn_here : (position : ℕ) (v : Version) (versions : List Version) → IsTurn position (v ∷ versions) (record { key = v.key; revision = v.revision; position = position })
turn_here position v versions = record {
  behind = omega arith;
  version = v;
  at = subst (λ i. slice_get (v ∷ versions) i ≡ Some v) (let e : 0 ≡ position - position = omega arith in e) refl;
  of_key = refl;
  of_revision = refl;
}

turns_are : (position : ℕ) (versions : List Version) (turn : RoleTurn) → Contains (turns_from position versions) turn → IsTurn position versions turn
turns_are position [] turn c = absurd (not_in_none c)
turns_are position (v ∷ versions) turn c = go (is_role v.key) refl (λ d. turns_are (position + 1) versions turn d)
  where
    go : (b : Bool) → is_role v.key ≡ b → (Contains (turns_from (position + 1) versions) turn → IsTurn (position + 1) versions turn) → IsTurn position (v ∷ versions) turn
    go false e rest = turn_later position v versions turn (rest (rw e at c))
    go true e rest = by (in_cons (record { key = v.key; revision = v.revision; position = position }) (turns_from (position + 1) versions) turn (rw e at c))
      where
        by : ((record { key = v.key; revision = v.revision; position = position }) ≡ turn) ⊎ Contains (turns_from (position + 1) versions) turn → IsTurn position (v ∷ versions) turn
        by (inl same) = subst (IsTurn position (v ∷ versions)) same (turn_here position v versions)
        by (inr d) = turn_later position v versions turn (rest d)

turns_have : (position i : ℕ) (versions : List Version) (v : Version) → slice_get versions i ≡ Some v → is_role v.key ≡ true
    → Contains (turns_from position versions) (record { key = v.key; revision = v.revision; position = position + i })
turns_have position i [] v e role = absurd (cc e)
turns_have position zero (w ∷ versions) v e role = subst (λ n. Contains (turns_from position (w ∷ versions)) (record { key = v.key; revision = v.revision; position = n })) (let p : position ≡ position + 0 = omega arith in p)
    (subst (λ z. Contains (turns_from position (w ∷ versions)) (record { key = z.key; revision = z.revision; position = position })) (same_Some w v e)
    (let r : is_role w.key ≡ true = subst (λ z. is_role z.key ≡ true) (sym (same_Some w v e)) role in
    rw r (here (record { key = w.key; revision = w.revision; position = position }) (turns_from (position + 1) versions))))
turns_have position (suc i) (w ∷ versions) v e role = go (is_role w.key) refl
    (subst (λ n. Contains (turns_from (position + 1) versions) (record { key = v.key; revision = v.revision; position = n })) (let p : position + 1 + i ≡ position + suc i = omega arith in p)
    (turns_have (position + 1) i versions v e role))
  where
    turn : RoleTurn
    turn = record { key = v.key; revision = v.revision; position = position + suc i }

    go : (b : Bool) → is_role w.key ≡ b → Contains (turns_from (position + 1) versions) turn → Contains (turns_from position (w ∷ versions)) turn
    go false q c = rw q c
    go true q c = rw q (there (record { key = w.key; revision = w.revision; position = position }) turn (turns_from (position + 1) versions) c)

turns_apart : (position : ℕ) (versions : List Version) → AllPairs (λ a b. a.position ≢ b.position) (turns_from position versions)
turns_apart position [] = λ i j d l m. absurd (omega arith)
turns_apart position (v ∷ versions) = go (is_role v.key) refl (turns_apart (position + 1) versions)
  where
    go : (b : Bool) → is_role v.key ≡ b → AllPairs (λ a b. a.position ≢ b.position) (turns_from (position + 1) versions) → AllPairs (λ a b. a.position ≢ b.position) (turns_from position (v ∷ versions))
    go false e rest = rw e rest
    go true e rest = rw e (pairs_cons (λ (a b : RoleTurn). a.position ≢ b.position) (record { key = v.key; revision = v.revision; position = position }) (turns_from (position + 1) versions)
        (all_from (λ (b : RoleTurn). position ≢ b.position) (turns_from (position + 1) versions) (λ t c same. let b = (turns_are (position + 1) versions t c).behind in omega (arith, b, same)))
        rest)

-- what an order of three parts says of the first two
order_cases : (o : Ordering) → (o ≡ Less) ⊎ (o ≡ Equal) ⊎ (o ≡ Greater)
order_cases Less = inl refl
order_cases Equal = inr (inl refl)
order_cases Greater = inr (inr refl)

module _ (trees : List Meaning) (versions : List Version) (order : List RoleTurn) (same : IsPermutation (turns_from 0 versions) order) (sorted : IsSorted turn_order order)
    (rising : AllPairs (λ a b. a.revision < b.revision) versions) (nodes : All (λ v. v.node.0 < length trees) versions) where
  is_turn : (turn : RoleTurn) → Contains order turn → IsTurn 0 versions turn
  is_turn turn c = turns_are 0 versions turn (Contains-permutation order (turns_from 0 versions) turn (IsPermutation-sym (turns_from 0 versions) order same) c)

  at_position : (turn : RoleTurn) (t : IsTurn 0 versions turn) → slice_get versions turn.position ≡ Some t.version
  at_position turn t = subst (λ i. slice_get versions i ≡ Some t.version) (let e : turn.position - 0 ≡ turn.position = omega arith in e) t.at

  pub turns_within : All (λ turn. turn.position < length versions) order
  turns_within = all_from (λ (turn : RoleTurn). turn.position < length versions) order (λ turn c. let t = is_turn turn c in slice_get_within versions turn.position t.version (at_position turn t))

  abbrev f : RoleTurn → Option RbacVersion
  f turn = option_and_then (rbac_version trees) (slice_get versions turn.position)

  apart : AllPairs (λ (a b : RoleTurn). a.position ≢ b.position) order
  apart = apart_moved (λ (turn : RoleTurn). turn.position) (turns_from 0 versions) order same (turns_apart 0 versions)

  ranks : IsStrictWeakOrder (λ a b. is_lt (turn_order a b))
  ranks = ranks_by (then_total (on_total (λ (t : RoleTurn). t.key) key_order_total) (then_total (on_total (λ (t : RoleTurn). t.revision) nat_cmp_total) (on_total (λ (t : RoleTurn). t.position) nat_cmp_total))) (λ t. t)

  far : AllPairs (λ a b. is_lt (turn_order b a) ≡ false) order
  far = λ i j d l m. sorted_far (λ a b. is_lt (turn_order a b)) ranks order sorted i j d (omega arith) m

  read_as : (v : Version) (r : RbacVersion) → rbac_version trees v ≡ Some r → (r.key ≡ v.key) × (r.revision ≡ v.revision)
  read_as v r e = go (kind_of_key v.key) (slice_get trees v.node.0) e
    where
      go : (k : Option Kind) (t : Option Meaning) → version_with v k t ≡ Some r → (r.key ≡ v.key) × (r.revision ≡ v.revision)
      go None t q = absurd (cc q)
      go (Some k) None q = absurd (cc q)
      go (Some k) (Some t) q = (ap (λ (z : RbacVersion). z.key) (sym (same_Some _ r q)), ap (λ (z : RbacVersion). z.revision) (sym (same_Some _ r q)))

  made_of : (turn : RoleTurn) (t : IsTurn 0 versions turn) (r : RbacVersion) → f turn ≡ Some r → rbac_version trees t.version ≡ Some r
  made_of turn t r e = sym (ap (option_and_then (rbac_version trees)) (at_position turn t)) ∙ e

  before : (a b : RoleTurn) (x y : RbacVersion) → Contains order a → Contains order b → (a.position ≢ b.position) × (is_lt (turn_order b a) ≡ false) → f a ≡ Some x → f b ≡ Some y → IsBefore x y
  before a b x y ca cb (differ, not) ex ey = go (order_cases (key_order a.key b.key))
    where
      s : IsTurn 0 versions a
      s = is_turn a ca

      t : IsTurn 0 versions b
      t = is_turn b cb

      xs : (x.key ≡ s.version.key) × (x.revision ≡ s.version.revision)
      xs = read_as s.version x (made_of a s x ex)

      ys : (y.key ≡ t.version.key) × (y.revision ≡ t.version.revision)
      ys = read_as t.version y (made_of b t y ey)

      x_key : x.key ≡ a.key
      x_key = xs.0 ∙ sym s.of_key

      y_key : y.key ≡ b.key
      y_key = ys.0 ∙ sym t.of_key

      back : key_order b.key a.key ≡ ordering_reverse (key_order a.key b.key)
      back = key_order_total.antisymm b.key a.key

      go : (key_order a.key b.key ≡ Less) ⊎ (key_order a.key b.key ≡ Equal) ⊎ (key_order a.key b.key ≡ Greater) → IsBefore x y
      go (inl less) = inl (ap (λ k. key_order k y.key) x_key ∙ ap (key_order a.key) y_key ∙ less)
      go (inr (inr more)) = absurd (true≢false (sym (then_less (key_order b.key a.key) (ordering_then (nat_cmp b.revision a.revision) (nat_cmp b.position a.position)) (back ∙ ap ordering_reverse more)) ∙ not))
      go (inr (inl equal)) = inr (x_key ∙ same_key_from a.key b.key (ap is_eq equal) ∙ sym y_key, by)
        where
          tied : key_order b.key a.key ≡ Equal
          tied = back ∙ ap ordering_reverse equal

          not_before : b.revision < a.revision → ⊥
          not_before l = true≢false (sym (then_next (key_order b.key a.key) (ordering_then (nat_cmp b.revision a.revision) (nat_cmp b.position a.position)) tied
              (then_less (nat_cmp b.revision a.revision) (nat_cmp b.position a.position) (nat_less b.revision a.revision l))) ∙ not)

          not_same : a.revision ≡ b.revision → ⊥
          not_same e = differ (at_apart (λ (v : Version). v.revision) versions a.position b.position s.version t.version rising (at_position a s) (at_position b t)
              (let p = s.of_revision in let q = t.of_revision in omega (arith, p, q, e)))

          by : x.revision < y.revision
          by = let p = s.of_revision in let q = t.of_revision in let u = xs.1 in let w = ys.1 in omega (arith, p, q, u, w, not_before, not_same)

  pub roles_are : AreRoles trees versions (roles_at trees versions order)
  roles_are = record {
    rising = made_pairs f (λ a b. (a.position ≢ b.position) × (is_lt (turn_order b a) ≡ false)) IsBefore order (λ i j d l m. (apart i j d l m, far i j d l m)) before;
    sound = λ r c. let m = made_from f order r c in let t = is_turn m.0 m.1 in (t.version, at_in versions m.0.position t.version (at_position m.0 t), made_of m.0 t r m.2);
    full = λ v r c e. let i = in_at versions v c in
        made_has f order (record { key = v.key; revision = v.revision; position = i.0 }) r
        (Contains-permutation (turns_from 0 versions) order (record { key = v.key; revision = v.revision; position = i.0 }) same
        (subst (λ n. Contains (turns_from 0 versions) (record { key = v.key; revision = v.revision; position = n })) (let p : 0 + i.0 ≡ i.0 = omega arith in p) (turns_have 0 i.0 versions v i.1 (role v r e))))
        (ap (option_and_then (rbac_version trees)) i.1 ∙ e);
  }
    where
      role : (v : Version) (r : RbacVersion) → rbac_version trees v ≡ Some r → is_role v.key ≡ true
      role v r e = go (kind_of_key v.key) refl
        where
          go : (k : Option Kind) → kind_of_key v.key ≡ k → is_role v.key ≡ true
          go None q = absurd (let n : None ≡ Some r = sym (ap (λ k. version_with v k (slice_get trees v.node.0)) q) ∙ e in cc n)
          go (Some k) q = ap is_some q
