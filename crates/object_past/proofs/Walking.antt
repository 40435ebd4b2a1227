-- One walk over keys in order finds which of them are among others in order.
use Rattle.std.proofs.Common.{◌≡◌, ◌≢◌, ℕ, ◌+◌, ◌<◌, ◌≤◌, ◌⊎◌, ⊎_elim, inl, inr, Bool, true, false, cond, not, Bor, List, [], ◌∷◌, ◌++◌, length, get_or, take, Contains, refl, sym, ap, ◌∙◌, subst, true≢false, arith, Any, ◌↔◌}
use Rattle.std.specs.List.{filter}
use Rattle.std.specs.Ordering.{is_lt, ordering_reverse}
use Rattle.std.specs.declared.cmp.Ordering.{Ordering}
use Rattle.std.specs.declared.cmp.Ordering.TheVariants.{Equal, Greater, Less}
use Rattle.std.proofs.lemmas.Bool.{cases_lt}
use Rattle.std.proofs.lemmas.Cmp.{tied_itself}
use Rattle.std.proofs.lemmas.List.{append-nil, get_or-map, get_or_default, length-map, take_all}
use Rattle.std.proofs.lemmas.List.Elements.{filter_more}
use Rattle.std.proofs.lemmas.List.Folds.{Any-from_list_any, list_any_at, list_any_none}
use Rattle.std.proofs.lemmas.List.Kept.{AllPairs-filter}
use Rattle.base_types.specs.declared.kubernetes.key.ObjectKey.{ObjectKey}
use Rattle.base_types.specs.Keys.{same_key}
use Rattle.clouds.proofs.Adding.{key_order_total, same_key_from}
use Rattle.clouds.specs.Kept.{key_order}
use Rattle.history_model.proofs.KeyLemmas.{key_decides, key_differs, key_is, key_tells}
use Rattle.history_model.proofs.Members.{all_from}
use Rattle.history_model.proofs.Steps.{in_filter, filter_in}
use Rattle.object_past.specs.Among.{keys_at, is_one_of, without, AreBelow, IsPlaceOf}
use Rattle.object_past.specs.Scopes.{AreInOrder}

pub less_apart : (a b : ObjectKey) → key_order a b ≡ Less → a ≢ b
less_apart a b less same = absurd (cc (tied_itself key_order_total a, ap (λ z. key_order a z) same ∙ less))

pub less_back : (a b : ObjectKey) → a ≢ b → (key_order a b ≡ Less → ⊥) → key_order b a ≡ Less
less_back a b apart not_less = go (key_order a b) refl
  where
    go : (o : Ordering) → key_order a b ≡ o → key_order b a ≡ Less
    go Less e = absurd (not_less e)
    go Equal e = absurd (apart (same_key_from a b (rw e refl)))
    go Greater e = key_order_total.antisymm b a ∙ ap ordering_reverse e

pub is_less : (o : Ordering) → is_lt o ≡ true → o ≡ Less
is_less Less e = refl
is_less Equal e = absurd (true≢false (sym e))
is_less Greater e = absurd (true≢false (sym e))

-- what a reference among others refers to
pub key_at : (keys : List (Bor ObjectKey)) (place : ℕ) (at : Bor ObjectKey) (d : ObjectKey) → place < length keys → at ≡ get_or keys place at → get_or (keys_at keys) place d ≡ at.now
key_at keys place at d within is = get_or-map (λ (key : Bor ObjectKey). key.now) keys place at d within ∙ ap (λ (z : Bor ObjectKey). z.now) (sym is)

module _ (keys : List (Bor ObjectKey)) (key : ObjectKey) (place : ℕ) (below : AreBelow (keys_at keys) key place) where
  pub below_more : (at : Bor ObjectKey) → place < length keys → at ≡ get_or keys place at → is_lt (key_order at.now key) ≡ true → AreBelow (keys_at keys) key (place + 1)
  below_more at within is less = λ k d l. ⊎_elim
      (λ (before : k < place). below k d before)
      (λ (after : place ≤ k). let here : k ≡ place = omega (arith, l, after) in
      subst (λ n. key_order (get_or (keys_at keys) n d) key ≡ Less) (sym here) (subst (λ z. key_order z key ≡ Less) (sym (key_at keys place at d within is)) (is_less (key_order at.now key) less)))
      (cases_lt k place)

  pub place_here : (at : Bor ObjectKey) → place < length keys → at ≡ get_or keys place at → is_lt (key_order at.now key) ≡ false → IsPlaceOf (keys_at keys) key place
  place_here at within is not_less = record {
    within = omega (arith, within, length-map keys (λ (key : Bor ObjectKey). key.now));
    below = below;
    here = λ d l less. true≢false (sym (ap is_lt (subst (λ z. key_order z key ≡ Less) (key_at keys place at d within is) less)) ∙ not_less);
  }

  pub place_behind : length keys ≤ place → IsPlaceOf (keys_at keys) key (length keys)
  place_behind over = record {
    within = omega (arith, length-map keys (λ (key : Bor ObjectKey). key.now));
    below = λ k d l. below k d (omega (arith, l, over));
    here = λ d l less. absurd (omega (arith, l, length-map keys (λ (key : Bor ObjectKey). key.now)));
  }

module _ (keys : List ObjectKey) (key : ObjectKey) (place : ℕ) (order : AreInOrder keys) (is : IsPlaceOf keys key place) where
  none_is : ((k : ℕ) (d : ObjectKey) → k < length keys → key ≢ get_or keys k d) → is_one_of keys key ≡ false
  none_is apart = list_any_none (same_key key) keys (all_from (λ other. same_key key other ≡ false) keys (λ other (k, l, at). key_differs key other (λ e. apart k other l (e ∙ sym at))))

  before_place : (k : ℕ) (d : ObjectKey) → k < place → key ≢ get_or keys k d
  before_place k d l e = less_apart (get_or keys k d) key (is.below k d l) (sym e)

  none_left : length keys ≤ place → is_one_of keys key ≡ false
  none_left over = none_is (λ k d l. before_place k d (omega (arith, l, over)))

  at_place : (at : ObjectKey) → place < length keys → at ≡ get_or keys place at → same_key key at ≡ is_one_of keys key
  at_place at within here = go (key_tells key at)
    where
      go : ((same_key key at ≡ true) × (key ≡ at)) ⊎ ((same_key key at ≡ false) × (key ≢ at)) → same_key key at ≡ is_one_of keys key
      go (inl t) = t.0 ∙ sym (list_any_at (same_key key) keys place at within (ap (same_key key) (sym here) ∙ t.0))
      go (inr t) = t.0 ∙ sym (none_is apart)
        where
          below_here : (d : ObjectKey) → key_order key (get_or keys place d) ≡ Less
          below_here d = less_back (get_or keys place d) key (λ e. t.1 (sym e ∙ get_or_default keys place d at within ∙ sym here)) (is.here d within)

          apart : (k : ℕ) (d : ObjectKey) → k < length keys → key ≢ get_or keys k d
          apart k d l = ⊎_elim
              (λ (before : k < place). before_place k d before)
              (λ (after : place ≤ k). ⊎_elim
              (λ (behind : place < k). less_apart key (get_or keys k d) (key_order_total.trans key (get_or keys place d) (get_or keys k d) (below_here d) (order place k d behind l)))
              (λ (over : k ≤ place). let same : place ≡ k = omega (arith, after, over) in subst (λ n. key ≢ get_or keys n d) same (less_apart key (get_or keys place d) (below_here d)))
              (cases_lt place k))
              (cases_lt k place)

module _ (keys : List (Bor ObjectKey)) (key : ObjectKey) (place : ℕ) (order : AreInOrder (keys_at keys)) (is : IsPlaceOf (keys_at keys) key place) where
  pub stands_here : (at : Bor ObjectKey) → place < length keys → at ≡ get_or keys place at → same_key key at.now ≡ is_one_of (keys_at keys) key
  stands_here at within here =
      at_place (keys_at keys) key place order is at.now (omega (arith, within, length-map keys (λ (key : Bor ObjectKey). key.now))) (sym (key_at keys place at at.now within here))

  pub stands_nowhere : length keys ≤ place → is_one_of (keys_at keys) key ≡ false
  stands_nowhere over = none_left (keys_at keys) key place order is (omega (arith, over, length-map keys (λ (key : Bor ObjectKey). key.now)))

-- one more that passes, or doesn't
kept_more : {X : Type 0} (p : X → Bool) (xs : List X) (i : ℕ) (x : X) (before after : List X) → i < length xs → x ≡ get_or xs i x → p x ≡ true
    → before ≡ filter p (take i xs) → after ≡ before ++ x ∷ [] → after ≡ filter p (take (i + 1) xs)
kept_more {X} p xs i x before after within is passes b e =
    e ∙ ap (λ l. l ++ x ∷ []) b ∙ ap (λ l. filter p (take i xs) ++ l) (ap (λ t. cond t (x ∷ []) []) (sym passes) ∙ ap (λ z. cond (p z) (z ∷ []) []) is)
    ∙ sym (filter_more p xs i x within)

dropped_more : {X : Type 0} (p : X → Bool) (xs : List X) (i : ℕ) (x : X) (before : List X) → i < length xs → x ≡ get_or xs i x → p x ≡ false
    → before ≡ filter p (take i xs) → before ≡ filter p (take (i + 1) xs)
dropped_more {X} p xs i x before within is fails b =
    b ∙ sym (append-nil (filter p (take i xs))) ∙ ap (λ l. filter p (take i xs) ++ l) (ap (λ t. cond t (x ∷ []) []) (sym fails) ∙ ap (λ z. cond (p z) (z ∷ []) []) is)
    ∙ sym (filter_more p xs i x within)

-- how far the walk has come: of the keys in front of the i-th one those that aren't shown are kept, and no key from there
-- on is one of the shown ones in front of the place
pub record IsWalked (keys shown : List ObjectKey) (i place : ℕ) (others : List ObjectKey) : Type 0 where
  pub within : place ≤ length shown
  pub below : (j : ℕ) (d : ObjectKey) → i ≤ j → j < length keys → AreBelow shown (get_or keys j d) place
  pub kept : others ≡ without (take i keys) shown

module _ (keys shown : List ObjectKey) (i place next : ℕ) (others : List ObjectKey) (key : ObjectKey) (order : AreInOrder keys) (inside : i < length keys) (at : key ≡ get_or keys i key)
    (walked : IsWalked keys shown i place others) where
  pub below_key : AreBelow shown key place
  below_key = subst (λ z. AreBelow shown z place) (sym at) (walked.below i key (omega arith) inside)

  module _ (is : IsPlaceOf shown key next) where
    below_next : (j : ℕ) (d : ObjectKey) → i + 1 ≤ j → j < length keys → AreBelow shown (get_or keys j d) next
    below_next j d from upto = λ k e l. key_order_total.trans (get_or shown k e) key (get_or keys j d) (is.below k e l)
        (subst (λ z. key_order z (get_or keys j d) ≡ Less) (get_or_default keys i d key inside ∙ sym at) (order i j d (omega arith) upto))

    pub walked_by : (after : List ObjectKey) → is_one_of shown key ≡ false → after ≡ others ++ key ∷ [] → IsWalked keys shown (i + 1) next after
    walked_by after apart more = record {
      within = is.within;
      below = below_next;
      kept = kept_more (λ z. not (is_one_of shown z)) keys i key others after inside at (ap not apart) walked.kept more;
    }

    pub walked_over : is_one_of shown key ≡ true → IsWalked keys shown (i + 1) next others
    walked_over among = record {
      within = is.within;
      below = below_next;
      kept = dropped_more (λ z. not (is_one_of shown z)) keys i key others inside at (ap not among) walked.kept;
    }

-- what a test whether a key is one of others tells
one_is : (keys : List ObjectKey) (key : ObjectKey) → is_one_of keys key ≡ true → Contains keys key
one_is keys key e = go (Any-from_list_any (same_key key) keys e)
  where
    go : Any (λ other. same_key key other ≡ true) keys → Contains keys key
    go (k, other, within, at, same) = subst (Contains keys) (sym ((key_decides key other).0 same)) (k, within, at)

is_one : (keys : List ObjectKey) (key : ObjectKey) → Contains keys key → is_one_of keys key ≡ true
is_one keys key (k, within, at) = list_any_at (same_key key) keys k key within (ap (same_key key) at ∙ key_is key key refl)

not_one : (keys : List ObjectKey) (key : ObjectKey) → (Contains keys key → ⊥) → is_one_of keys key ≡ false
not_one keys key none = go (is_one_of keys key) refl
  where
    go : (t : Bool) → is_one_of keys key ≡ t → is_one_of keys key ≡ false
    go true e = absurd (none (one_is keys key e))
    go false e = e

module _ (keys shown : List ObjectKey) (i place : ℕ) (others : List ObjectKey) (walked : IsWalked keys shown i place others) (end : length keys ≤ i) where
  all_walked : others ≡ without keys shown
  all_walked = walked.kept ∙ ap (λ l. without l shown) (take_all i keys end)

  pub walked_order : AreInOrder keys → AreInOrder others
  walked_order order = subst AreInOrder (sym all_walked) (AllPairs-filter (λ a b. key_order a b ≡ Less) (λ key. not (is_one_of shown key)) keys order)

  pub walked_exact : (key : ObjectKey) → Contains others key ↔ (Contains keys key × (Contains shown key → ⊥))
  walked_exact key = ((λ among. forth (subst (λ l. Contains l key) all_walked among)), (λ apart. subst (λ l. Contains l key) (sym all_walked) (back apart)))
    where
      forth : Contains (without keys shown) key → Contains keys key × (Contains shown key → ⊥)
      forth among = let held = in_filter (λ z. not (is_one_of shown z)) keys key among in
          (held.0, λ there. true≢false (sym held.1 ∙ ap not (is_one shown key there)))

      back : Contains keys key × (Contains shown key → ⊥) → Contains (without keys shown) key
      back (among, none) = filter_in (λ z. not (is_one_of shown z)) keys key among (ap not (not_one shown key none))
