-- The removals of a log, found from its latest version on.
use Rattle.std.proofs.Common.{◌≡◌, ◌≢◌, ℕ, zero, suc, ◌+◌, ◌<◌, ◌≤◌, ◌⊎◌, inl, inr, ⊎_elim, Bool, true, List, [], ◌∷◌, ◌++◌, map, length, get_or, Option, Some, None, option_and_then, slice_get, take, max, min, refl, sym, ap, ◌∙◌, subst, arith, true≢false}
use Rattle.std.specs.Prelude.{◌↔◌, IsTrue, All, AllPairs, Contains}
use Rattle.std.specs.BTreeMap.{BTreeMap, Updates, get}
use Rattle.std.specs.List.Sorted.{IsPermutation}
use Rattle.std.specs.Ordering.{is_eq, ordering_reverse}
use Rattle.std.specs.declared.cmp.Ordering.{Ordering}
use Rattle.std.specs.declared.cmp.Ordering.TheVariants.{Equal, Greater, Less}
use Rattle.std.proofs.lemmas.Bool.{cases_Bool, cases_lt, cond-false, cond-true}
use Rattle.std.proofs.lemmas.List.{map-append}
use Rattle.std.proofs.lemmas.List.Elements.{Contains-push_cases, Contains-append_left, Contains-append_right}
use Rattle.std.proofs.lemmas.List.Sorted.{Contains-permutation, IsPermutation-sym}
use Rattle.std.proofs.lemmas.Option.{same_Some, slice_get_within}
use Rattle.base_types.specs.declared.kubernetes.key.ObjectKey.{ObjectKey}
use Rattle.clouds.proofs.Adding.{key_order_total, same_key_from}
use Rattle.clouds.specs.Kept.{key_order}
use Rattle.history_model.proofs.CutLemmas.{same_removal}
use Rattle.history_model.proofs.Members.{all_at, all_from, apart, at_apart, at_in, here, in_at}
use Rattle.history_model.specs.Events as event
use Rattle.history_model.specs.Histories as past
use Rattle.history_model.specs.Incarnations.{AreRemovals, EndsBefore, IsFirstWithUid, IsRemoval, IsRemovalBehind, IsRemovalOf, place_before}
use Rattle.history_model.specs.Judging.{IsFirst, IsOrder}
use Rattle.history_model.specs.Windows.{lowest, highest}
use Rattle.time_windows.specs.History as timed_history
use Rattle.write_groups.proofs.Lists.{pairs_map}
use Rattle.write_groups.specs.declared.event.LogEvent.{LogEvent}
use Rattle.object_past.specs.Modelled.{recorded, version_of}
use Rattle.object_past.specs.declared.removal.Removal.{Removal}
use Rattle.object_past.specs.declared.version.Version.{Version}
use Rattle.past_building.proofs.Keeping.{rising_in}
use Rattle.object_past.proofs.Looking.{from_map, in_map}
use Rattle.past_building.proofs.Mapped.{pairs_push}
use Rattle.past_building.proofs.Removing.{Precedes, in_turn}
use Rattle.past_building.specs.Ended.{AreFound, IsEnd, IsFoundAfter, revision_of}
use Rattle.past_building.specs.Following.{AreBefore, AreNexts}
use Rattle.past_building.specs.Growing.{AreFlagged, AreLinked}
use Rattle.past_building.specs.Keyed.{RemovalNumbers}
use Rattle.past_building.specs.Surrounded.{HasLog}

-- the key's first version from a position on
abbrev pub IsNextAt : List Version → ℕ → ObjectKey → Option ℕ → Type 0
IsNextAt versions from key None = (j : ℕ) (w : Version) → from ≤ j → slice_get versions j ≡ Some w → w.key ≢ key
IsNextAt versions from key (Some p) = (from ≤ p) × ((v : Version) × (slice_get versions p ≡ Some v) × (v.key ≡ key))
    × ((j : ℕ) (w : Version) → from ≤ j → j < p → slice_get versions j ≡ Some w → w.key ≢ key)

abbrev pub AreNext : List Version → ℕ → BTreeMap ObjectKey ℕ → Type 0
AreNext versions from next = (key : ObjectKey) → IsNextAt versions from key (get key_order next key)

-- each key ties with itself
tied_self : (k : ObjectKey) → is_eq (key_order k k) ≡ true
tied_self k = go (key_order k k) (key_order_total.antisymm k k)
  where
    go : (o : Ordering) → o ≡ ordering_reverse o → is_eq o ≡ true
    go Less is = cc
    go Equal is = refl
    go Greater is = cc

next_kept : (versions : List Version) (i : ℕ) (v : Version) (key : ObjectKey) (at : Option ℕ) → slice_get versions i ≡ Some v → v.key ≢ key → IsNextAt versions (i + 1) key at → IsNextAt versions i key at
next_kept versions i v key None here' other next = λ j w from at. ⊎_elim
    (λ later. next j w (omega (arith, later)) at)
    (λ upto. other_key j w at (omega (arith, from, upto)))
    (cases_lt i j)
  where
    other_key : (j : ℕ) (w : Version) → slice_get versions j ≡ Some w → j ≡ i → w.key ≢ key
    other_key j w at same is = other (ap (λ (x : Version). x.key) (same_Some v w (sym here' ∙ sym (ap (slice_get versions) same) ∙ at)) ∙ is)
next_kept versions i v key (Some p) here' other next = (
  omega (arith, next.0),
  next.1,
  λ j w from before at. ⊎_elim
      (λ later. next.2 j w (omega (arith, later)) before at)
      (λ upto. other_key j w at (omega (arith, from, upto)))
      (cases_lt i j),
)
  where
    other_key : (j : ℕ) (w : Version) → slice_get versions j ≡ Some w → j ≡ i → w.key ≢ key
    other_key j w at same is = other (ap (λ (x : Version). x.key) (same_Some v w (sym here' ∙ sym (ap (slice_get versions) same) ∙ at)) ∙ is)

-- one version more in front
pub next_more : (versions : List Version) (i : ℕ) (v : Version) (old new : BTreeMap ObjectKey ℕ) → slice_get versions i ≡ Some v → AreNext versions (i + 1) old
    → Updates key_order old new v.key (Some i) → AreNext versions i new
next_more versions i v old new at next updates key = ⊎_elim
    (λ tied. subst (IsNextAt versions i key) (sym (updates.0 key ∙ cond-true (is_eq (key_order v.key key)) (Some i) (get key_order old key) tied))
    (omega arith, (v, at, same_key_from v.key key tied), λ j w from before here'. absurd (omega (arith, from, before))))
    (λ other. subst (IsNextAt versions i key) (sym (updates.0 key ∙ cond-false (is_eq (key_order v.key key)) (Some i) (get key_order old key) other))
    (next_kept versions i v key (get key_order old key) at (λ same. true≢false (sym (subst (λ k. is_eq (key_order v.key k) ≡ true) same (tied_self v.key)) ∙ other)) (next key)))
    (cases_Bool (is_eq (key_order v.key key)))

-- the next version of v's key
abbrev pub IsNextOf : List Version → Version → Option Version → Type 0
IsNextOf versions v None = (w : Version) → Contains versions w → w.key ≡ v.key → w.revision ≤ v.revision
IsNextOf versions v (Some next) = Contains versions next × (next.key ≡ v.key) × (v.revision < next.revision)
    × ((w : Version) → Contains versions w → w.key ≡ v.key → (w.revision ≤ v.revision) ⊎ (next.revision ≤ w.revision))

-- positions and revisions rise together
ranked : (versions : List Version) (i j : ℕ) (v w : Version) → AllPairs (λ a b. a.revision < b.revision) versions → slice_get versions i ≡ Some v → slice_get versions j ≡ Some w
    → i < j → v.revision < w.revision
ranked versions i j v w rising at_v at_w before =
    let within = slice_get_within versions j w at_w in
    let order = rising i j v before within in
    subst (λ (x : Version). x.revision < w.revision) (at_is versions i v v at_v) (subst (λ (x : Version). (get_or versions i v).revision < x.revision) (at_is versions j w v at_w) order)
  where
    at_is : (xs : List Version) (k : ℕ) (x d : Version) → slice_get xs k ≡ Some x → get_or xs k d ≡ x
    at_is [] k x d at = absurd (cc at)
    at_is (y ∷ xs) zero x d at = same_Some y x at
    at_is (y ∷ xs) (suc k) x d at = at_is xs k x d at

ranked_upto : (versions : List Version) (i j : ℕ) (v w : Version) → AllPairs (λ a b. a.revision < b.revision) versions → slice_get versions i ≡ Some v → slice_get versions j ≡ Some w
    → j ≤ i → w.revision ≤ v.revision
ranked_upto versions i j v w rising at_v at_w upto = ⊎_elim
    (λ before. let order = ranked versions j i w v rising at_w at_v before in omega (arith, order))
    (λ from. same (omega (arith, upto, from)))
    (cases_lt j i)
  where
    same : j ≡ i → w.revision ≤ v.revision
    same is = let one = ap (λ (x : Version). x.revision) (same_Some w v (sym at_w ∙ ap (slice_get versions) is ∙ at_v)) in omega (arith, one)

-- what a map of next positions tells of a version's next one
pub next_of : (versions : List Version) (i : ℕ) (v : Version) (found : Option ℕ) → AllPairs (λ a b. a.revision < b.revision) versions → slice_get versions i ≡ Some v
    → IsNextAt versions (i + 1) v.key found → IsNextOf versions v (option_and_then (slice_get versions) found)
next_of versions i v None rising at next = λ w among of_key. let place = in_at versions w among in ⊎_elim
    (λ later. absurd (next place.0 w (omega (arith, later)) place.1 of_key))
    (λ upto. ranked_upto versions i place.0 v w rising at place.1 upto)
    (cases_lt i place.0)
next_of versions i v (Some p) rising at next =
    let n = next.1.0 in
    let is : slice_get versions p ≡ Some n = next.1.1 in
    subst (IsNextOf versions v) (sym is) (
      at_in versions p n is,
      next.1.2,
      ranked versions i p v n rising at is (omega (arith, next.0)),
      λ w among of_key. let place = in_at versions w among in ⊎_elim
          (λ later. ⊎_elim
          (λ before. absurd (next.2 place.0 w (omega (arith, later)) before place.1 of_key))
          (λ from. inr (ranked_upto versions place.0 p w n rising place.1 is from))
          (cases_lt place.0 p))
          (λ upto. inl (ranked_upto versions i place.0 v w rising at place.1 upto))
          (cases_lt i place.0),
    )

-- a list has an item at each of its positions
item_at : {X : Type 0} (xs : List X) (i : ℕ) → i < length xs → (x : X) × (slice_get xs i ≡ Some x)
item_at [] i within = absurd (omega (arith, within))
item_at (x ∷ xs) zero within = (x, refl)
item_at (x ∷ xs) (suc i) within = item_at xs i (omega (arith, within))

taken_at : {X : Type 0} (n : ℕ) (xs : List X) (i : ℕ) (x : X) → slice_get (take n xs) i ≡ Some x → (i < n) × (slice_get xs i ≡ Some x)
taken_at zero xs i x at = absurd (cc at)
taken_at (suc n) [] i x at = absurd (cc at)
taken_at (suc n) (y ∷ xs) zero x at = (omega arith, at)
taken_at (suc n) (y ∷ xs) (suc i) x at = let rest = taken_at n xs i x at in ((let under = rest.0 in omega (arith, under)), rest.1)

at_taken : {X : Type 0} (n : ℕ) (xs : List X) (i : ℕ) (x : X) → i < n → slice_get xs i ≡ Some x → slice_get (take n xs) i ≡ Some x
at_taken zero xs i x under at = absurd (omega (arith, under))
at_taken (suc n) [] i x under at = absurd (cc at)
at_taken (suc n) (y ∷ xs) zero x under at = at
at_taken (suc n) (y ∷ xs) (suc i) x under at = at_taken n xs i x (omega (arith, under)) at

-- the position of the key's version before one is before it
pub linked_before : (versions : List Version) (earlier : List (Option ℕ)) → AreLinked versions earlier → AreBefore earlier
linked_before versions earlier linked position before at =
    let within = slice_get_within earlier position (Some before) at in
    let long = linked.all in
    let v = item_at versions position (omega (arith, within, long)) in
    let last = linked.each position v.0 (Some before) v.1 at in
    (taken_at position versions before last.0 last.1).0

module _ (versions : List Version) (earlier nexts : List (Option ℕ)) (i : ℕ) (v : Version) (rising : AllPairs (λ a b. a.revision < b.revision) versions) (linked : AreLinked versions earlier)
    (follow : AreNexts earlier nexts) (at_v : slice_get versions i ≡ Some v) where
  -- a version is among those in front of a later one
  in_front : (j : ℕ) → i < j → Contains (take j versions) v
  in_front j later = at_in (take j versions) i v (at_taken j versions i v later at_v)

  -- behind a version that none follows there is none of its key
  none_later : slice_get nexts i ≡ Some None → (fuel j : ℕ) (w : Version) → j ≤ fuel → i < j → slice_get versions j ≡ Some w → w.key ≡ v.key → ⊥
  none_later none zero j w upto later at same = omega (arith, upto, later)
  none_later none (suc fuel) j w upto later at same =
      let within = slice_get_within versions j w at in
      let before = item_at earlier j (let long = linked.all in omega (arith, within, long)) in
      by before.0 before.1 (none_later none fuel)
    where
      by : (b : Option ℕ) → slice_get earlier j ≡ Some b → ((p : ℕ) (x : Version) → p ≤ fuel → i < p → slice_get versions p ≡ Some x → x.key ≡ v.key → ⊥) → ⊥
      by None is rest = all_at (λ x. x.key ≢ w.key) (take j versions) v (linked.each j w None at is) (in_front j later) (sym same)
      by (Some p) is rest =
          let last = linked.each j w (Some p) at is in
          let x = last.0 in
          let taken = taken_at j versions p x last.1 in
          let order = all_at (λ y. y.key ≡ w.key → y.revision ≤ x.revision) (take j versions) v last.2.greatest (in_front j later) (sym same) in
          ⊎_elim
          (λ behind. rest p x (let under = taken.0 in omega (arith, under, upto)) behind taken.1 (last.2.of_key ∙ same))
          (λ upto_i. ⊎_elim
          (λ in_front_of. let below = ranked versions p i x v rising taken.1 at_v in_front_of in omega (arith, below, order))
          (λ from. let one : p ≡ i = omega (arith, upto_i, from) in
          follow.each i None none j (slice_get_within earlier j (Some p) is) (is ∙ ap (λ n. Some (Some n)) one))
          (cases_lt p i))
          (cases_lt i p)

  -- the key's next version, as it is found
  pub next_in : (found : Option ℕ) → slice_get nexts i ≡ Some found → IsNextAt versions (i + 1) v.key found
  next_in None none = λ j w from at same. none_later none j j w (omega arith) (omega (arith, from)) at same
  next_in (Some j) is =
      let link : slice_get earlier j ≡ Some (Some i) = follow.each i (Some j) is in
      let w = item_at versions j (let within = slice_get_within earlier j (Some i) link in let long = linked.all in omega (arith, within, long)) in
      let last = linked.each j w.0 (Some i) w.1 link in
      let taken = taken_at j versions i last.0 last.1 in
      let one : last.0 ≡ v = same_Some last.0 v (sym taken.1 ∙ at_v) in
      let keys : w.0.key ≡ v.key = sym last.2.of_key ∙ ap (λ (x : Version). x.key) one in (
        (let under = taken.0 in omega (arith, under)),
        (w.0, w.1, keys),
        λ k u from before at_u same.
            let upto = all_at (λ y. y.key ≡ w.0.key → y.revision ≤ last.0.revision) (take j versions) u last.2.greatest (at_in (take j versions) k u (at_taken j versions k u before at_u)) (same ∙ sym keys) in
            let revision = ap (λ (x : Version). x.revision) one in
            let above = ranked versions i k v u rising at_v at_u (omega (arith, from)) in
            omega (arith, upto, revision, above),
      )

-- a version ends its incarnation where the next one of its key is of another object
pub ends_if : (versions : List Version) (v : Version) (after : Option Version) → IsNextOf versions v after → IsEnd v after → EndsBefore (map version_of versions) (version_of v) (revision_of after)
ends_if versions v None next end = λ w among of_key. let from = from_map version_of versions w among in
    let upto = next from.0 from.1 (ap (λ (x : past.Version). x.key) from.2 ∙ of_key) in
    let is = ap (λ (x : past.Version). x.revision) from.2 in omega (arith, upto, is)
ends_if versions v (Some n) next end = (
  next.2,
  (version_of n, in_map version_of versions n next.0, refl, next.1, end),
  λ w among of_key. let from = from_map version_of versions w among in
      subst (λ (x : past.Version). (x.revision ≤ v.revision) ⊎ (n.revision ≤ x.revision)) from.2 (next.3 from.0 from.1 (ap (λ (x : past.Version). x.key) from.2 ∙ of_key)),
)

pub end_of : (versions : List Version) (v : Version) (after : Option Version) (next : Option ℕ) → AllPairs (λ a b. a.revision < b.revision) versions → IsNextOf versions v after
    → EndsBefore (map version_of versions) (version_of v) next → (next ≡ revision_of after) × IsEnd v after
end_of versions v None None rising is ends = (refl, tt)
end_of versions v None (Some r) rising is ends =
    let from = from_map version_of versions ends.1.0 ends.1.1 in
    let upto : from.0.revision ≤ v.revision = is from.0 from.1 (ap (λ (x : past.Version). x.key) from.2 ∙ ends.1.3) in
    let one = ap (λ (x : past.Version). x.revision) from.2 in
    let at = ends.1.2 in
    absurd (omega (arith, upto, one, at, ends.0))
end_of versions v (Some n) None rising is ends =
    absurd (let upto : n.revision ≤ v.revision = ends (version_of n) (in_map version_of versions n is.0) is.1 in omega (arith, upto, is.2))
end_of versions v (Some n) (Some r) rising is ends =
    let from = from_map version_of versions ends.1.0 ends.1.1 in
    let one = ap (λ (x : past.Version). x.revision) from.2 in
    let at = ends.1.2 in
    let of_key : from.0.key ≡ v.key = ap (λ (x : past.Version). x.key) from.2 ∙ ends.1.3 in
    let below : r ≤ n.revision = ⊎_elim (λ upto. absurd (omega (arith, upto, is.2))) (λ up. up) (ends.2 (version_of n) (in_map version_of versions n is.0) is.1) in
    let above : n.revision ≤ from.0.revision = ⊎_elim (λ upto. absurd (omega (arith, upto, one, at, ends.0))) (λ up. up) (is.3 from.0 from.1 of_key) in
    let same : n ≡ from.0 = apart (λ (x : Version). x.revision) versions n from.0 rising is.0 from.1 (omega (arith, below, above, one, at)) in
    (ap Some (omega (arith, below, above, one, at)), λ uid. ends.1.4 (sym (ap (λ (x : past.Version). x.uid) from.2) ∙ sym (ap (λ (x : Version). x.uid) same) ∙ uid))

-- the first of which something holds is one
pub first_once : (h : past.History) (Holds : event.Event → Type 0) (n m : ℕ) (x y : event.Event) → IsOrder h → IsFirst h Holds n x → IsFirst h Holds m y → n ≡ m
first_once h Holds n m x y order a b = ⊎_elim
    (λ same. same)
    (λ turn. ⊎_elim
    (λ before. absurd (b.none_before n x a.known a.holds (before x y a.known b.known)))
    (λ before. absurd (a.none_before m y b.known b.holds (before y x b.known a.known)))
    turn)
    (in_turn (Precedes h) h.order n m order.sorted (order.full n (slice_get_within h.events n x a.known)) (order.full m (slice_get_within h.events m y b.known)))

-- behind a version there is one removal
pub behind_once : (h : past.History) (v : past.Version) (next : Option ℕ) (a b : past.Removal) → IsOrder h → IsRemovalBehind h v next a → IsRemovalBehind h v next b → a ≡ b
behind_once h v next a b order x y =
    let numbers : a.range.event ≡ b.range.event = first_once h (IsRemovalOf v.key v.uid) a.range.event b.range.event x.event y.event order x.first y.first in
    let events : x.event ≡ y.event = same_Some x.event y.event (sym x.first.known ∙ ap (slice_get h.events) numbers ∙ y.first.known) in
    same_removal a b (x.of_key ∙ sym y.of_key) (x.of_uid ∙ sym y.of_uid) (x.of_last ∙ sym y.of_last) numbers
    (x.low ∙ ap (λ (e : event.Event). max (lowest h e.lo) v.revision + 1) events ∙ sym y.low)
    (x.high ∙ ap (λ (e : event.Event). min (highest h e.hi) (place_before next)) events ∙ sym y.high)

-- behind the end of an incarnation no version is of the first one with its uid
not_behind : (versions : List past.Version) (v w : past.Version) (next : Option ℕ) → AllPairs (λ a b. a.revision < b.revision) versions → Contains versions v → Contains versions w
    → v.key ≡ w.key → v.uid ≡ w.uid → EndsBefore versions v next → IsFirstWithUid versions w → v.revision < w.revision → ⊥
not_behind versions v w None rising v_in w_in keys uids ends first below = let upto = ends w w_in (sym keys) in omega (arith, upto, below)
not_behind versions v w (Some r) rising v_in w_in keys uids ends first below =
    let x = ends.1.0 in
    let at : x.revision ≡ r = ends.1.2 in
    let other : x.uid ≢ v.uid = ends.1.4 in
    let from : r ≤ w.revision = ⊎_elim (λ upto. absurd (omega (arith, upto, below))) (λ up. up) (ends.2 w w_in (sym keys)) in
    ⊎_elim
    (λ under. other (first v x v_in keys uids ends.1.1 (ends.1.3 ∙ keys) (omega (arith, at, ends.0)) under ∙ sym uids))
    (λ ge. other (ap (λ (z : past.Version). z.uid) (apart (λ (z : past.Version). z.revision) versions x w rising ends.1.1 w_in (omega (arith, at, from, ge))) ∙ sym uids))
    (cases_lt x.revision w.revision)

-- an event removes one version's object
pub removal_once : (h : past.History) (v w : past.Version) (next other : Option ℕ) (a b : past.Removal) → AllPairs (λ a b. a.revision < b.revision) h.versions
    → Contains h.versions v → Contains h.versions w → EndsBefore h.versions v next → EndsBefore h.versions w other
    → IsRemovalBehind h v next a → IsRemovalBehind h w other b → a.range.event ≡ b.range.event → v ≡ w
removal_once h v w next other a b rising v_in w_in v_ends w_ends x y numbers =
    let events : x.event ≡ y.event = same_Some x.event y.event (sym x.first.known ∙ ap (slice_get h.events) numbers ∙ y.first.known) in
    let answers : event.Removed v.key v.uid ≡ event.Removed w.key w.uid = sym x.first.holds ∙ ap (λ (e : event.Event). e.answer) events ∙ y.first.holds in
    let keys : v.key ≡ w.key = cc answers in
    let uids : v.uid ≡ w.uid = cc answers in
    ⊎_elim
    (λ below. absurd (not_behind h.versions v w next rising v_in w_in keys uids v_ends y.only below))
    (λ from. ⊎_elim
    (λ below. absurd (not_behind h.versions w v other rising w_in v_in (sym keys) (sym uids) w_ends x.only below))
    (λ upto. apart (λ (z : past.Version). z.revision) h.versions v w rising v_in w_in (omega (arith, from, upto)))
    (cases_lt w.revision v.revision))
    (cases_lt v.revision w.revision)

-- the removal is that behind a version at or after a position
pub record IsEndedFrom (h : past.History) (versions : List Version) (from : ℕ) (removal : Removal) : Type 0 where
  pub position : ℕ
  pub version : Version
  pub next : Option ℕ
  pub upto : from ≤ position
  pub at : slice_get versions position ≡ Some version
  pub ends : EndsBefore h.versions (version_of version) next
  pub behind : IsRemovalBehind h (version_of version) next (recorded removal)

-- the removals behind the versions from a position on
pub record AreFoundFrom (h : past.History) (versions : List Version) (from : ℕ) (removals : List Removal) : Type 0 where
  pub sound : All (IsEndedFrom h versions from) removals
  pub full : (position : ℕ) (w : Version) (next : Option ℕ) (removal : past.Removal) → from ≤ position → slice_get versions position ≡ Some w
      → EndsBefore h.versions (version_of w) next → IsRemovalBehind h (version_of w) next removal → Contains (map recorded removals) removal
  pub apart : AllPairs (λ a b. a.range.event ≢ b.range.event) removals

abbrev pub with_found : List Removal → Option Removal → List Removal
with_found removals None = removals
with_found removals (Some removal) = removals ++ removal ∷ []

module _ (windows : timed_history.History) (events : List LogEvent) (removed : RemovalNumbers) (h : past.History) (versions : List Version) (i : ℕ) (v : Version) (is_first : Bool) (after : Option Version)
    (log : HasLog windows events removed h) (is : h.versions ≡ map version_of versions) (rising : AllPairs (λ a b. a.revision < b.revision) versions) (at : slice_get versions i ≡ Some v)
    (next : IsNextOf versions v after) (flag : IsTrue is_first ↔ IsFirstWithUid h.versions (version_of v)) (removals : List Removal) (done : AreFoundFrom h versions (i + 1) removals) where
  rising_h : AllPairs (λ a b. a.revision < b.revision) h.versions
  rising_h = subst (AllPairs (λ a b. a.revision < b.revision)) (sym is) (rising_in versions rising)

  known : (j : ℕ) (w : Version) → slice_get versions j ≡ Some w → Contains h.versions (version_of w)
  known j w at_w = subst (λ l. Contains l (version_of w)) (sym is) (in_map version_of versions w (at_in versions j w at_w))

  -- a position from i on is i or behind it
  from_here : (j : ℕ) → i ≤ j → (j ≡ i) ⊎ (i + 1 ≤ j)
  from_here j from = ⊎_elim (λ later. inr (omega (arith, later))) (λ upto. inl (omega (arith, from, upto))) (cases_lt i j)

  this_end : (w : Version) (n : Option ℕ) → slice_get versions i ≡ Some w → EndsBefore h.versions (version_of w) n → (w ≡ v) × (n ≡ revision_of after) × IsEnd v after
  this_end w n at_w ends =
      let one : w ≡ v = same_Some w v (sym at_w ∙ at) in
      let end = end_of versions v after n rising next (subst (λ l. EndsBefore l (version_of v) n) is (subst (λ (x : Version). EndsBefore h.versions (version_of x) n) one ends)) in
      (one, end.0, end.1)

  kept : (r : Removal) → IsEndedFrom h versions (i + 1) r → IsEndedFrom h versions i r
  kept r e = record { position = e.position; version = e.version; next = e.next; upto = (let from = e.upto in omega (arith, from)); at = e.at; ends = e.ends; behind = e.behind }

  pub found_more : (found : Option Removal) → IsFoundAfter windows events removed v is_first after found → AreFoundFrom h versions i (with_found removals found)
  found_more None none = record {
    sound = all_from (IsEndedFrom h versions i) removals (λ r among. kept r (all_at (IsEndedFrom h versions (i + 1)) removals r done.sound among));
    full = λ j w n removal from at_w ends behind. ⊎_elim
        (λ here'. let this = this_end w n (subst (λ k. slice_get versions k ≡ Some w) here' at_w) ends in
        absurd (none this.2 h log flag removal (subst (λ o. IsRemovalBehind h (version_of v) o removal) this.1
        (subst (λ (x : Version). IsRemovalBehind h (version_of x) n removal) this.0 behind))))
        (λ later. done.full j w n removal later at_w ends behind)
        (from_here j from);
    apart = done.apart;
  }
  found_more (Some new) (end, behind_v) = record {
    sound = all_from (IsEndedFrom h versions i) (removals ++ new ∷ []) (λ r among. ⊎_elim
        (λ before. kept r (all_at (IsEndedFrom h versions (i + 1)) removals r done.sound before))
        (λ same. subst (IsEndedFrom h versions i) same this)
        (Contains-push_cases removals new r among));
    full = λ j w n removal from at_w ends behind. subst (λ l. Contains l removal) (sym (map-append recorded removals (new ∷ []))) (⊎_elim
        (λ here'. let one = this_end w n (subst (λ k. slice_get versions k ≡ Some w) here' at_w) ends in
        let same : recorded new ≡ removal = behind_once h (version_of v) (revision_of after) (recorded new) removal log.order (behind_v h log flag)
        (subst (λ o. IsRemovalBehind h (version_of v) o removal) one.1 (subst (λ (x : Version). IsRemovalBehind h (version_of x) n removal) one.0 behind)) in
        Contains-append_right (map recorded removals) (recorded new ∷ []) removal (subst (Contains (recorded new ∷ [])) same (here (recorded new) [])))
        (λ later. Contains-append_left (map recorded removals) (recorded new ∷ []) removal (done.full j w n removal later at_w ends behind))
        (from_here j from));
    apart = pairs_push (λ a b. a.range.event ≢ b.range.event) removals new done.apart (all_from (λ (r : Removal). r.range.event ≢ new.range.event) removals (λ r among numbers.
        let e = all_at (IsEndedFrom h versions (i + 1)) removals r done.sound among in
        let one : version_of e.version ≡ version_of v = removal_once h (version_of e.version) (version_of v) e.next (revision_of after) (recorded r) (recorded new) rising_h
        (known e.position e.version e.at) (known i v at) e.ends ends_v e.behind (behind_v h log flag) numbers in
        let places : e.position ≡ i = at_apart (λ (x : Version). x.revision) versions e.position i e.version v rising e.at at (ap (λ (x : past.Version). x.revision) one) in
        let from = e.upto in omega (arith, places, from)));
  }
    where
      ends_v : EndsBefore h.versions (version_of v) (revision_of after)
      ends_v = subst (λ l. EndsBefore l (version_of v) (revision_of after)) (sym is) (ends_if versions v after next end)

      this : IsEndedFrom h versions i new
      this = record { position = i; version = v; next = revision_of after; upto = omega arith; at = at; ends = ends_v; behind = behind_v h log flag }

-- no version is behind the last
pub found_none : (h : past.History) (versions : List Version) → AreFoundFrom h versions (length versions) []
found_none h versions = record {
  sound = λ k d within. absurd (omega (arith, within));
  full = λ j w n removal from at ends behind. let within = slice_get_within versions j w at in absurd (omega (arith, from, within));
  apart = λ i j d before within. absurd (omega (arith, within));
}

pub next_none : (versions : List Version) (next : BTreeMap ObjectKey ℕ) → ((key : ObjectKey) → get key_order next key ≡ None) → AreNext versions (length versions) next
next_none versions next empty key = subst (IsNextAt versions (length versions) key) (sym (empty key)) (λ j w from at. let within = slice_get_within versions j w at in absurd (omega (arith, from, within)))

-- all of them
pub all_found : (h : past.History) (versions : List Version) (removals : List Removal) → h.versions ≡ map version_of versions → AreFoundFrom h versions 0 removals → AreFound h removals
all_found h versions removals is found = record {
  sound = all_from (λ r. IsRemoval h (recorded r)) removals (λ r among. let e = all_at (IsEndedFrom h versions 0) removals r found.sound among in record {
    version = version_of e.version;
    next = e.next;
    known = subst (λ l. Contains l (version_of e.version)) (sym is) (in_map version_of versions e.version (at_in versions e.position e.version e.at));
    ends = e.ends;
    behind = e.behind;
  });
  full = λ removal r. go removal r (from_map version_of versions r.version (subst (λ l. Contains l r.version) is r.known));
  apart = found.apart;
}
  where
    go : (removal : past.Removal) → (r : IsRemoval h removal) → (w : Version) × Contains versions w × (version_of w ≡ r.version) → Contains (map recorded removals) removal
    go removal r (w, among, same) = let place = in_at versions w among in
        found.full place.0 w r.next removal (omega arith) place.1 (subst (λ x. EndsBefore h.versions x r.next) (sym same) r.ends) (subst (λ x. IsRemovalBehind h x r.next removal) (sym same) r.behind)

pub are_removals : (h : past.History) (found sorted : List Removal) → IsPermutation found sorted → AllPairs (λ a b. a.range.event < b.range.event) sorted → AreFound h found
    → h.removals ≡ map recorded sorted → AreRemovals h
are_removals h found sorted same rising f is = record {
  rising = subst (AllPairs (λ a b. a.range.event < b.range.event)) (sym is) (pairs_map recorded (λ a b. a.range.event < b.range.event) sorted rising);
  sound = λ removal among. let from = from_map recorded sorted removal (subst (λ l. Contains l removal) is among) in
      subst (IsRemoval h) from.2 (all_at (λ r. IsRemoval h (recorded r)) found from.0 f.sound (Contains-permutation sorted found from.0 (IsPermutation-sym found sorted same) from.1));
  full = λ removal r. let from = from_map recorded found removal (f.full removal r) in
      subst (λ l. Contains l removal) (sym is) (subst (Contains (map recorded sorted)) from.2 (in_map recorded sorted from.0 (Contains-permutation found sorted from.0 same from.1)));
}

-- what is known behind a position
abbrev pub AreFoundBehind : timed_history.History → List LogEvent → RemovalNumbers → List Version → ℕ → List Removal → Type 0
AreFoundBehind windows events removed versions from removals = (h : past.History) → HasLog windows events removed h → h.versions ≡ map version_of versions → AreFoundFrom h versions from removals

-- the same, one position earlier
pub found_behind : (windows : timed_history.History) (events : List LogEvent) (removed : RemovalNumbers) (versions : List Version) (firsts : List Bool) (earlier nexts : List (Option ℕ)) (i : ℕ) (v : Version)
    (is_first : Bool) (next : Option ℕ) (after : Option Version) (removals : List Removal) (found : Option Removal)
    → AllPairs (λ a b. a.revision < b.revision) versions → AreFlagged versions firsts → AreLinked versions earlier → AreNexts earlier nexts
    → slice_get versions i ≡ Some v → slice_get firsts i ≡ Some is_first → slice_get nexts i ≡ Some next → after ≡ option_and_then (slice_get versions) next
    → IsFoundAfter windows events removed v is_first after found → AreFoundBehind windows events removed versions (i + 1) removals
    → AreFoundBehind windows events removed versions i (with_found removals found)
found_behind windows events removed versions firsts earlier nexts i v is_first next after removals found rising flagged linked follow at flag_at next_at after_is found_after done = λ h log is.
    found_more windows events removed h versions i v is_first after log is rising at next_v
    (subst (λ l. IsTrue is_first ↔ IsFirstWithUid l (version_of v)) (sym is) (flagged.each i v is_first at flag_at)) removals (done h log is) found found_after
  where
    next_v : IsNextOf versions v after
    next_v = subst (IsNextOf versions v) (sym after_is) (next_of versions i v next rising at (next_in versions earlier nexts i v rising linked follow at next next_at))
