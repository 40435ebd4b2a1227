-- What the latest version of a key and the removal behind it tell of the object.
use Rattle.std.proofs.Common.{◌≡◌, ◌≢◌, ◌==◌, ◌<◌, ◌≤◌, ◌⊎◌, inl, inr, Bor, ℕ, Bool, true, List, [], ◌∷◌, map, Option, Some, None, option_map, slice_get, All, AllPairs, Contains, refl, sym, ap, ◌∙◌, subst, arith}
use Rattle.std.specs.Prelude.{◌↔◌, IfNone, IfSome, IsSomeAnd, IsTrue}
use Rattle.std.proofs.lemmas.Option.{same_Some}
use Rattle.base_types.specs.declared.kubernetes.key.ObjectKey.{ObjectKey}
use Rattle.history_model.proofs.Members.{all_at, all_from, at_in, in_cons, not_in_none, pairs_head, pairs_tail}
use Rattle.history_model.proofs.WordLemmas.{eq_test, find_is, found_in, not_found, test_eq}
use Rattle.history_model.specs.Histories as past
use Rattle.history_model.specs.States.{latest}
use Rattle.object_past.proofs.Looking.{from_map, in_map}
use Rattle.object_past.proofs.Searching.{find_none}
use Rattle.object_past.specs.Modelled.{recorded, version_of}
use Rattle.object_past.specs.declared.removal.Removal.{Removal}
use Rattle.object_past.specs.declared.version.Version.{Version}
use Rattle.log_context.specs.Histories.{history_of}
use Rattle.log_context.specs.Known.{Known}
use Rattle.history_query.specs.Sights.{IsRemovalOfLast, IsPresence, ObjectMayBeAbsent, ObjectMayBeThere, gone, not_yet}
use Rattle.history_query.specs.Versions.{removal_behind}

-- of items that differ by a number, two with the same are one
only_one : {X : Type 0} (number : X → ℕ) (xs : List X) (x y : X) → AllPairs (λ a b. number a ≢ number b) xs → Contains xs x → Contains xs y → number x ≡ number y → x ≡ y
only_one number [] x y differ c d e = absurd (not_in_none c)
only_one {X} number (z ∷ zs) x y differ c d e = go (λ a b. only_one number zs x y (pairs_tail (λ v w. number v ≢ number w) z zs differ) a b e) (in_cons z zs x c) (in_cons z zs y d)
  where
    other : (w : X) → Contains zs w → number z ≢ number w
    other w among = all_at (λ v. number z ≢ number v) zs w (pairs_head (λ v w. number v ≢ number w) z zs differ) among

    go : (Contains zs x → Contains zs y → x ≡ y) → (z ≡ x) ⊎ Contains zs x → (z ≡ y) ⊎ Contains zs y → x ≡ y
    go rest (inl p) (inl q) = sym p ∙ q
    go rest (inl p) (inr b) = absurd (other y b (ap number p ∙ e))
    go rest (inr a) (inl q) = absurd (other x a (ap number q ∙ sym e))
    go rest (inr a) (inr b) = rest a b

-- the removal of the version's object, by its position
pub alone_at : (removals : List Removal) (last position : ℕ) (removal : Removal) → AllPairs (λ a b. a.last ≢ b.last) removals → slice_get removals position ≡ Some removal → removal.last ≡ last
    → All (λ other. other.last ≡ last → other ≡ removal) removals
alone_at removals last position removal apart at is =
    all_from (λ (other : Removal). other.last ≡ last → other ≡ removal) removals
    (λ other among e. only_one (λ (x : Removal). x.last) removals other removal apart among (at_in removals position removal at) (e ∙ sym is))

pub behind_at : (removals : List Removal) (v : Version) (position : ℕ) (removal : Removal) → AllPairs (λ a b. a.last ≢ b.last) removals → slice_get removals position ≡ Some removal
    → removal.last ≡ v.revision → removal_behind removals v ≡ Some removal
behind_at removals v position removal apart at is =
    let among = at_in removals position removal at in
    find_is (λ (other : Removal). other.last == v.revision) removals removal among (test_eq removal.last v.revision is)
    (λ other there passes. only_one (λ (x : Removal). x.last) removals other removal apart there among (eq_test other.last v.revision passes ∙ sym is))

pub none_behind : (removals : List Removal) (v : Version) → All (λ removal. removal.last ≢ v.revision) removals → removal_behind removals v ≡ None
none_behind removals v none = find_none (λ (other : Removal). other.last == v.revision) removals
    (λ other among passes. all_at (λ (x : Removal). x.last ≢ v.revision) removals other none among (eq_test other.last v.revision passes))

-- what holds of the removal that is lent
pub lent : (P : Removal → Type 0) (found : Option (Bor Removal)) (removal : Removal) → option_map (λ (r : Bor Removal). r.now) found ≡ Some removal → P removal → IfSome found (λ r. P r.now)
lent P None removal is holds = absurd (cc is)
lent P (Some r) removal is holds = subst P (sym (same_Some r.now removal is)) holds

module _ (known : Known) (key : ObjectKey) (place : ℕ) where
  -- an end of the version is that of the removal behind it
  ended : (v : Version) (removal : Removal) (end : past.Removal) → All (λ other. other.last ≡ v.revision → other ≡ removal) known.removals
      → IsRemovalOfLast (history_of known) (version_of v) end → recorded removal ≡ end
  ended v removal end alone ends =
      let found = from_map recorded known.removals end ends.known in
      let same : found.0 ≡ removal = all_at (λ (other : Removal). other.last ≡ v.revision → other ≡ removal) known.removals found.0 alone found.1 (ap (λ (x : past.Removal). x.last) found.2 ∙ ends.of_last) in
      ap recorded (sym same) ∙ found.2

  unended : (v : Version) (end : past.Removal) → removal_behind known.removals v ≡ None → IsRemovalOfLast (history_of known) (version_of v) end → ⊥
  unended v end none ends =
      let found = from_map recorded known.removals end ends.known in
      not_found (λ (other : Removal). other.last == v.revision) known.removals none found.0 found.1
      (test_eq found.0.last v.revision (ap (λ (x : past.Removal). x.last) found.2 ∙ ends.of_last))

  is_end : (v : Version) (removal : Removal) → removal_behind known.removals v ≡ Some removal → IsRemovalOfLast (history_of known) (version_of v) (recorded removal)
  is_end v removal found =
      let at = found_in (λ (other : Removal). other.last == v.revision) known.removals removal found in record {
        known = in_map recorded known.removals removal at.0;
        of_last = eq_test removal.last v.revision at.1;
      }

  -- without a version
  pub none_there : latest (map version_of known.versions) key place ≡ None → IsPresence known key place None
  none_there none v there = let some : Some v ≡ None = sym there.is_latest ∙ none in cc some

  pub none_absent : latest (map version_of known.versions) key place ≡ None → (true ≡ true) ↔ ObjectMayBeAbsent (history_of known) key place
  none_absent none = (λ t. not_yet none, λ m. refl)

  pub presence : (v : Version) (removal : Option (Bor Removal)) (present : Option (Bor Version)) → latest (map version_of known.versions) key place ≡ Some (version_of v) → Contains known.versions v
      → option_map (λ (r : Bor Removal). r.now) removal ≡ removal_behind known.removals v
      → IfSome removal (λ (r : Bor Removal). All (λ other. other.last ≡ v.revision → other ≡ r.now) known.removals)
      → IfSome present (λ (w : Bor Version). (w.now ≡ v) × IfSome removal (λ r. place < r.now.range.high))
      → IfNone present (IsSomeAnd removal (λ (r : Bor Removal). r.now.range.high ≤ place))
      → IsPresence known key place (option_map (λ (w : Bor Version). w.now) present)
  presence v removal (Some w) is_latest among behind alone some none =
      subst (λ (x : Version). Contains known.versions x × ObjectMayBeThere (history_of known) key place (version_of x)) (sym some.0)
      (among, record { is_latest = is_latest; not_gone = λ end ends. before removal behind alone some.1 end ends })
    where
      before : (removal : Option (Bor Removal)) → option_map (λ (r : Bor Removal). r.now) removal ≡ removal_behind known.removals v
          → IfSome removal (λ (r : Bor Removal). All (λ other. other.last ≡ v.revision → other ≡ r.now) known.removals) → IfSome removal (λ (r : Bor Removal). place < r.now.range.high)
          → (end : past.Removal) → IsRemovalOfLast (history_of known) (version_of v) end → place < end.range.high
      before None behind alone below end ends = absurd (unended v end (sym behind) ends)
      before (Some r) behind alone below end ends = subst (λ (x : past.Removal). place < x.range.high) (ended v r.now end alone ends) below
  presence v None None is_latest among behind alone some none = absurd none
  presence v (Some r) None is_latest among behind alone some none = λ w there.
      let same : version_of v ≡ w = same_Some (version_of v) w (sym is_latest ∙ there.is_latest) in
      let below : place < r.now.range.high = there.not_gone (recorded r.now) (subst (λ (x : past.Version). IsRemovalOfLast (history_of known) x (recorded r.now)) same (is_end v r.now (sym behind))) in
      omega (arith, below, none)

  pub absence : (v : Version) (removal : Option (Bor Removal)) (may_be : Bool) → latest (map version_of known.versions) key place ≡ Some (version_of v)
      → option_map (λ (r : Bor Removal). r.now) removal ≡ removal_behind known.removals v
      → IfSome removal (λ (r : Bor Removal). All (λ other. other.last ≡ v.revision → other ≡ r.now) known.removals)
      → (IsTrue may_be ↔ IsSomeAnd removal (λ (r : Bor Removal). r.now.range.low ≤ place)) → (may_be ≡ true) ↔ ObjectMayBeAbsent (history_of known) key place
  absence v removal may_be is_latest behind alone told = (λ t. forth removal behind (told.0 t), λ m. told.1 (back removal behind alone m))
    where
      forth : (removal : Option (Bor Removal)) → option_map (λ (r : Bor Removal). r.now) removal ≡ removal_behind known.removals v
          → IsSomeAnd removal (λ (r : Bor Removal). r.now.range.low ≤ place) → ObjectMayBeAbsent (history_of known) key place
      forth None behind low = absurd low
      forth (Some r) behind low = gone (version_of v) (recorded r.now) is_latest (is_end v r.now (sym behind)) low

      of_latest : (w : past.Version) (end : past.Removal) → latest (map version_of known.versions) key place ≡ Some w → IsRemovalOfLast (history_of known) w end → IsRemovalOfLast (history_of known) (version_of v) end
      of_latest w end other ends = subst (λ (x : past.Version). IsRemovalOfLast (history_of known) x end) (sym (same_Some (version_of v) w (sym is_latest ∙ other))) ends

      back : (removal : Option (Bor Removal)) → option_map (λ (r : Bor Removal). r.now) removal ≡ removal_behind known.removals v
          → IfSome removal (λ (r : Bor Removal). All (λ other. other.last ≡ v.revision → other ≡ r.now) known.removals)
          → ObjectMayBeAbsent (history_of known) key place → IsSomeAnd removal (λ (r : Bor Removal). r.now.range.low ≤ place)
      back removal behind alone (not_yet none) = let some : Some (version_of v) ≡ None = sym is_latest ∙ none in absurd (cc some)
      back None behind alone (gone w end other ends low) = absurd (unended v end (sym behind) (of_latest w end other ends))
      back (Some r) behind alone (gone w end other ends low) = subst (λ (x : past.Removal). x.range.low ≤ place) (sym (ended v r.now end alone (of_latest w end other ends))) low
