-- The next versions of keys, found from the latest version on.
use Rattle.std.proofs.Common.{◌≡◌, ℕ, ◌+◌, ◌*◌, ◌<◌, ◌≤◌, ⊎_elim, List, map, length, set, length-set, Option, Some, None, option_and_then, slice_get, refl, sym, ap, ◌∙◌, subst, arith}
use Rattle.std.specs.Prelude.{AllPairs, Contains}
use Rattle.std.specs.BTreeMap.{BTreeMap, Updates, get}
use Rattle.std.proofs.lemmas.Bool.{cases_lt}
use Rattle.std.proofs.lemmas.List.{get_or-set_other, get_or-set_same}
use Rattle.std.proofs.lemmas.Option.{get_or_from_slice_get, same_Some, slice_get-get_or, slice_get_within}
use Rattle.base_types.specs.declared.kubernetes.key.ObjectKey.{ObjectKey}
use Rattle.clouds.specs.Kept.{key_order}
use Rattle.history_model.specs.Histories as past
use Rattle.history_model.specs.Histories.{History}
use Rattle.object_past.proofs.Looking.{from_map, in_map}
use Rattle.object_past.specs.Modelled.{version_of}
use Rattle.object_past.specs.declared.version.Version.{Version}
use Rattle.past_building.proofs.Finding.{AreNext, next_more, next_of}
use Rattle.log_moments.specs.Nexts.{AreNexts, IsNextOf, number_before}
use Rattle.log_moments.specs.Things.{IsLastNumber, before_next, no_end, without_end}

-- the next versions of those from a position on, and where each key's first one from there is
pub record AreNextsFrom (versions : List Version) (i : ℕ) (first : BTreeMap ObjectKey ℕ) (nexts : List (Option ℕ)) : Type 0 where
  pub all : length nexts ≡ length versions
  pub firsts : AreNext versions i first
  pub each : (j : ℕ) (v : Version) (next : Option ℕ) → i ≤ j → slice_get versions j ≡ Some v → slice_get nexts j ≡ Some next
      → IsNextOf versions v (option_and_then (slice_get versions) next)

-- one version more in front
pub nexts_more : (versions : List Version) (i : ℕ) (v : Version) (next : Option ℕ) (old new : BTreeMap ObjectKey ℕ) (nexts : List (Option ℕ))
    → AllPairs (λ a b. a.revision < b.revision) versions → slice_get versions i ≡ Some v → next ≡ get key_order old v.key → Updates key_order old new v.key (Some i)
    → AreNextsFrom versions (i + 1) old nexts → AreNextsFrom versions i new (set nexts i next)
nexts_more versions i v next old new nexts rising at is updates from = record {
  all = length-set nexts i next ∙ from.all;
  firsts = next_more versions i v old new at from.firsts updates;
  each = λ j w found upto at_w at_found. ⊎_elim
      (λ later. from.each j w found (omega (arith, later)) at_w (unchanged j found later at_found))
      (λ not_later. here j w found (omega (arith, upto, not_later)) at_w at_found)
      (cases_lt i j);
}
  where
    within : i < length nexts
    within = let inside = slice_get_within versions i v at in omega (arith, inside, from.all)

    unchanged : (j : ℕ) (found : Option ℕ) → i < j → slice_get (set nexts i next) j ≡ Some found → slice_get nexts j ≡ Some found
    unchanged j found later at_found =
        let inside : j < length nexts = (let l = slice_get_within (set nexts i next) j found at_found in omega (arith, l, length-set nexts i next)) in
        slice_get-get_or nexts j None inside
        ∙ ap Some (sym (get_or-set_other nexts i j next None (λ same. omega (arith, same, later))) ∙ get_or_from_slice_get (set nexts i next) j found None at_found)

    here : (j : ℕ) (w : Version) (found : Option ℕ) → j ≡ i → slice_get versions j ≡ Some w → slice_get (set nexts i next) j ≡ Some found
        → IsNextOf versions w (option_and_then (slice_get versions) found)
    here j w found same at_w at_found =
        let one : v ≡ w = same_Some v w (sym at ∙ ap (slice_get versions) (sym same) ∙ at_w) in
        let put : next ≡ found = sym (get_or-set_same nexts i next None within) ∙ get_or_from_slice_get (set nexts i next) i found None (ap (slice_get (set nexts i next)) (sym same) ∙ at_found) in
        subst (λ (x : Version). IsNextOf versions x (option_and_then (slice_get versions) found)) one
        (subst (λ o. IsNextOf versions v (option_and_then (slice_get versions) o)) (sym is ∙ put)
        (next_of versions i v (get key_order old v.key) rising at (from.firsts v.key)))

-- all of them
pub all_nexts : (versions : List Version) (first : BTreeMap ObjectKey ℕ) (nexts : List (Option ℕ)) → AreNextsFrom versions 0 first nexts → AreNexts versions nexts
all_nexts versions first nexts from = record { all = from.all; each = λ i v next at at_next. from.each i v next (omega arith) at at_next }

-- none of them
pub no_nexts : (versions : List Version) (first : BTreeMap ObjectKey ℕ) (nexts : List (Option ℕ)) → length nexts ≡ length versions → AreNext versions (length versions) first
    → AreNextsFrom versions (length versions) first nexts
no_nexts versions first nexts long firsts = record {
  all = long;
  firsts = firsts;
  each = λ j v next upto at at_next. absurd (let within = slice_get_within versions j v at in omega (arith, within, upto));
}

-- the last number of a version, by its next one
pub last_is : (h : History) (versions : List Version) (v : Version) (next : Option Version) → h.versions ≡ map version_of versions → IsNextOf versions v next
    → IsLastNumber h v.key v.revision (number_before next)
last_is h versions v None are next = without_end (λ w among of_key. let from = from_map version_of versions w (subst (λ l. Contains l w) are among) in
    let upto = next from.0 from.1 (ap (λ (x : past.Version). x.key) from.2 ∙ of_key) in
    let same = ap (λ (x : past.Version). x.revision) from.2 in omega (arith, upto, same)) refl
last_is h versions v (Some n) are next = before_next (version_of n) (record {
  known = subst (λ l. Contains l (version_of n)) (sym are) (in_map version_of versions n next.0);
  of_key = next.1;
  behind = next.2;
  first = λ w among of_key behind. let from = from_map version_of versions w (subst (λ l. Contains l w) are among) in
      let same = ap (λ (x : past.Version). x.revision) from.2 in
      ⊎_elim
      (λ upto. absurd (omega (arith, upto, same, behind)))
      (λ above. omega (arith, above, same))
      (next.3 from.0 from.1 (ap (λ (x : past.Version). x.key) from.2 ∙ of_key));
}) refl

-- it isn't below the gap behind the version
pub last_behind : (versions : List Version) (v : Version) (next : Option Version) → IsNextOf versions v next → 2 * v.revision + 1 < no_end → 2 * v.revision + 1 ≤ number_before next
last_behind versions v None next below = omega (arith, below)
last_behind versions v (Some n) next below = let behind = next.2 in omega (arith, behind)
