-- When the first of the unrecorded writes that cover a key may have begun.
use Rattle.std.proofs.Common.{◌≡◌, ℕ, zero, suc, ◌+◌, ◌-◌, ◌<◌, ◌≤◌, ◌≤ℤ◌, ◌⊎◌, inl, inr, List, [], ◌∷◌, length, get_or, map, Option, Some, None, slice_get, Contains, refl, sym, ap, ap₂, ◌∙◌, subst, arith}
use Rattle.std.specs.Cmp.{int_cmp_total}
use Rattle.std.specs.List.Sorted.{IsSortedBy}
use Rattle.std.specs.Option.{option_map}
use Rattle.std.specs.Ordering.{is_lt, int_cmp}
use Rattle.std.proofs.lemmas.Int.{ints}
use Rattle.std.proofs.lemmas.List.Sorted.{ranks_by, sorted_far}
use Rattle.std.proofs.lemmas.Option.{same_Some, slice_get_within, get_or_from_slice_get}
use Rattle.base_types.specs.Covers.{Covers}
use Rattle.base_types.specs.declared.kubernetes.key.ObjectKey.{ObjectKey}
use Rattle.base_types.specs.declared.kubernetes.revision.Moment.{Moment}
use Rattle.base_types.proofs.Integers.{ge_from_test}
use Rattle.base_types.proofs.Quantifiers.{Any-contains}
use Rattle.clouds.specs.Clouds.{IsHiddenBy, IsClouded}
use Rattle.clouds.specs.FirstPlace.{HoldsNowhere, IsLeastPlace}
use Rattle.clouds.specs.Writes.{Writes}
use Rattle.clouds.specs.declared.span.OpaqueSpan.{OpaqueSpan}
use Rattle.history_model.proofs.Members.{not_in_none, all_from, at_in, in_at}
use Rattle.write_groups.specs.declared.hidden.Hiding.{Hiding}
use Rattle.write_groups.specs.Hiding.{IsSorted, numbered, spans_from, hidings_in, AreNumbered, IsFirstSince}

-- writes that are sorted by a test of their beginnings
pub in_time : (hidings : List Hiding) → IsSortedBy (λ a b. is_lt (int_cmp a.since.0 b.since.0)) hidings → IsSorted hidings
in_time hidings s = λ i j d l m.
    ge_from_test (get_or hidings j d).since.0 (get_or hidings i d).since.0
    (sorted_far (λ a b. is_lt (int_cmp a.since.0 b.since.0)) (ranks_by int_cmp_total (λ (h : Hiding). h.since.0)) hidings s i j d (omega arith) m)

-- what is kept of unrecorded writes gives them back
given_back : (n : ℕ) (hidings : List Hiding) → hidings_in (spans_from n hidings) (map (λ hiding. hiding.since) hidings) ≡ hidings
given_back n [] = refl
given_back n (h ∷ hs) = ap (λ l. h ∷ l) (given_back (n + 1) hs)

as_many : (n : ℕ) (hidings : List Hiding) → length (map (λ (hiding : Hiding). hiding.since) hidings) ≡ length (spans_from n hidings)
as_many n [] = refl
as_many n (h ∷ hs) = ap suc (as_many (n + 1) hs)

pub kept_as : (writes : Writes) (begins : List Moment) (hidings : List Hiding) → writes.spans ≡ spans_from 0 hidings → begins ≡ map (λ hiding. hiding.since) hidings → hidings_in writes.spans begins ≡ hidings
kept_as writes begins hidings s b = ap₂ hidings_in s b ∙ given_back 0 hidings

pub numbered_as : (writes : Writes) (begins : List Moment) (hidings : List Hiding) → writes.spans ≡ spans_from 0 hidings → writes.revisions ≡ [] → begins ≡ map (λ hiding. hiding.since) hidings → IsSorted hidings
    → AreNumbered writes begins
numbered_as writes begins hidings s r b sorted = record {
  spans = s ∙ ap (spans_from 0) (sym (kept_as writes begins hidings s b));
  all = ap length b ∙ as_many 0 hidings ∙ ap length (sym s);
  revisions = r;
  sorted = subst IsSorted (sym (kept_as writes begins hidings s b)) sorted;
}

-- the writes and their beginnings by their places
span_at : (n : ℕ) (hidings : List Hiding) (k : ℕ) → slice_get (spans_from n hidings) k ≡ option_map (numbered (n + k)) (slice_get hidings k)
span_at n [] k = refl
span_at n (h ∷ hs) zero = ap (λ i. Some (numbered i h)) (let same : n ≡ n + 0 = omega arith in same)
span_at n (h ∷ hs) (suc k) = span_at (n + 1) hs k ∙ ap (λ i. option_map (numbered i) (slice_get hs k)) (let same : n + 1 + k ≡ n + suc k = omega arith in same)

begin_at : (spans : List OpaqueSpan) (begins : List Moment) (k : ℕ) (hiding : Hiding) → slice_get (hidings_in spans begins) k ≡ Some hiding → slice_get begins k ≡ Some hiding.since
begin_at [] begins k hiding e = absurd (cc e)
begin_at (s ∷ spans) [] k hiding e = absurd (cc e)
begin_at (s ∷ spans) (b ∷ begins) zero hiding e = ap (λ o. option_map (λ (h : Hiding). h.since) o) e
begin_at (s ∷ spans) (b ∷ begins) (suc k) hiding e = begin_at spans begins k hiding e

module _ (writes : Writes) (begins : List Moment) (kept : AreNumbered writes begins) (key : ObjectKey) where
  abbrev hidings : List Hiding
  hidings = hidings_in writes.spans begins

  span_of_place : (k : ℕ) → slice_get writes.spans k ≡ option_map (numbered k) (slice_get hidings k)
  span_of_place k = ap (λ l. slice_get l k) kept.spans ∙ span_at 0 hidings k ∙ ap (λ n. option_map (numbered n) (slice_get hidings k)) (let same : 0 + k ≡ k = omega arith in same)

  -- a write that covers the key clouds the place behind its own
  clouds_next : (k : ℕ) (hiding : Hiding) → slice_get hidings k ≡ Some hiding → Covers hiding.cover key → IsClouded writes key (k + 1)
  clouds_next k hiding e covers = Any-contains (IsHiddenBy writes.revisions key (k + 1)) writes.spans (numbered k hiding)
      (at_in writes.spans k (numbered k hiding) (span_of_place k ∙ ap (option_map (numbered k)) e))
      (record { hides = covers; begun = omega arith; unseen = λ r c. absurd (not_in_none (subst (λ l. Contains l r) kept.revisions c)) })

  within_begins : (k : ℕ) (hiding : Hiding) → slice_get hidings k ≡ Some hiding → k < length begins
  within_begins k hiding e = slice_get_within begins k hiding.since (begin_at writes.spans begins k hiding e)

  pub none_since : (last : ℕ) → length begins ≤ last → HoldsNowhere (IsClouded writes key) 1 last → IsFirstSince hidings key None
  none_since last long nowhere = all_from (λ hiding. Covers hiding.cover key → ⊥) hidings (λ hiding c covers. at hiding covers (in_at hidings hiding c))
    where
      at : (hiding : Hiding) → Covers hiding.cover key → (k : ℕ) × (slice_get hidings k ≡ Some hiding) → ⊥
      at hiding covers (k, e) = nowhere (k + 1) (omega arith) (let within = within_begins k hiding e in omega arith) (clouds_next k hiding e covers)

  -- the write that clouds the first place that is clouded
  pub record IsFirstAt (place : ℕ) : Type 0 where
    pub hiding : Hiding
    pub at : slice_get hidings (place - 1) ≡ Some hiding
    pub covers : Covers hiding.cover key
    pub least : (k : ℕ) (other : Hiding) → slice_get hidings k ≡ Some other → Covers other.cover key → place ≤ k + 1

  first_at : (last place : ℕ) → IsLeastPlace (IsClouded writes key) 1 last place → IsFirstAt place
  first_at last place l = go l.here
    where
      least : (k : ℕ) (other : Hiding) → slice_get hidings k ≡ Some other → Covers other.cover key → place ≤ k + 1
      least k other e covers = l.least (k + 1) (omega arith) (clouds_next k other e covers)

      go : IsClouded writes key place → IsFirstAt place
      go (i, span, within, is, hidden) = with_place (in_at writes.spans span (i, within, is))
        where
          with_place : (k : ℕ) × (slice_get writes.spans k ≡ Some span) → IsFirstAt place
          with_place (k, e) = by (slice_get hidings k) refl
            where
              by : (o : Option Hiding) → slice_get hidings k ≡ o → IsFirstAt place
              by None p = absurd (let none : None ≡ Some span = sym (ap (option_map (numbered k)) p) ∙ sym (span_of_place k) ∙ e in cc none)
              by (Some hiding) p = record { hiding = hiding; at = ap (slice_get hidings) before ∙ p; covers = covers; least = least }
                where
                  span_is : numbered k hiding ≡ span
                  span_is = same_Some (numbered k hiding) span (sym (ap (option_map (numbered k)) p) ∙ sym (span_of_place k) ∙ e)

                  covers : Covers hiding.cover key
                  covers = subst (λ (s : OpaqueSpan). Covers s.cover key) (sym span_is) hidden.hides

                  before : place - 1 ≡ k
                  before = let low = ap (λ (s : OpaqueSpan). s.low) span_is in let begun = hidden.begun in let upto = least k hiding p covers in omega (arith, low, begun, upto)

  pub never_past : (last place : ℕ) → IsLeastPlace (IsClouded writes key) 1 last place → slice_get begins (place - 1) ≡ None → ⊥
  never_past last place l e = go (first_at last place l)
    where
      go : IsFirstAt place → ⊥
      go f = let some = begin_at writes.spans begins (place - 1) f.hiding f.at in cc (some, e)

  pub some_since : (last place : ℕ) (begin : Moment) → IsLeastPlace (IsClouded writes key) 1 last place → slice_get begins (place - 1) ≡ Some begin → IsFirstSince hidings key (Some begin)
  some_since last place begin l e = go (first_at last place l)
    where
      go : IsFirstAt place → IsFirstSince hidings key (Some begin)
      go f = (
        Any-contains (λ hiding. Covers hiding.cover key × (hiding.since ≡ begin)) hidings f.hiding (at_in hidings (place - 1) f.hiding f.at) (f.covers, begin_is),
        all_from (λ hiding. Covers hiding.cover key → begin.0 ≤ℤ hiding.since.0) hidings (λ hiding c covers. after hiding covers (in_at hidings hiding c)),
      )
        where
          begin_is : f.hiding.since ≡ begin
          begin_is = same_Some f.hiding.since begin (sym (begin_at writes.spans begins (place - 1) f.hiding f.at) ∙ e)

          after : (hiding : Hiding) → Covers hiding.cover key → (k : ℕ) × (slice_get hidings k ≡ Some hiding) → begin.0 ≤ℤ hiding.since.0
          after hiding covers (k, p) = by (places (place - 1) k (let upto = f.least k hiding p covers in omega arith))
            where
              places : (i j : ℕ) → i ≤ j → (i < j) ⊎ (i ≡ j)
              places i j l = grind arith

              by : (place - 1 < k) ⊎ (place - 1 ≡ k) → begin.0 ≤ℤ hiding.since.0
              by (inl l) = subst (λ (m : Moment). m.0 ≤ℤ hiding.since.0) begin_is
                  (subst (λ (h : Hiding). h.since.0 ≤ℤ hiding.since.0) (get_or_from_slice_get hidings (place - 1) f.hiding hiding f.at)
                  (subst (λ (h : Hiding). (get_or hidings (place - 1) hiding).since.0 ≤ℤ h.since.0) (get_or_from_slice_get hidings k hiding hiding p)
                  (kept.sorted (place - 1) k hiding l (slice_get_within hidings k hiding p))))
              by (inr s) = let same : f.hiding ≡ hiding = same_Some f.hiding hiding (sym f.at ∙ ap (slice_get hidings) s ∙ p) in
                  let at : hiding.since.0 ≡ begin.0 = ap (λ (h : Hiding). h.since.0) (sym same) ∙ ap (λ (m : Moment). m.0) begin_is in omega (arith, ints)
