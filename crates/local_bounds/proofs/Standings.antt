-- What is known of an object whose latest version has a removal.
use Rattle.std.proofs.Common.{◌≡◌, ℕ, ◌+◌, ◌<◌, ◌≤◌, ◌⊎◌, List, Some, None, slice_get, slice_index, inl, inr, sym, ap, ◌∙◌, subst, arith}
use Rattle.std.specs.Prelude.{option_map}
use Rattle.std.proofs.lemmas.Option.{slice_get-map, same_Some}
use Rattle.base_types.specs.Choices.{IsChoice}
use Rattle.base_types.specs.declared.kubernetes.key.ObjectKey.{ObjectKey}
use Rattle.history_model.proofs.CutLemmas.{cut_of, cut_chosen, cut_at}
use Rattle.history_model.proofs.Latest.{latest_is}
use Rattle.history_model.proofs.LocalBounds.{absence_is, presence_is}
use Rattle.history_model.proofs.Members.{apart, at_in}
use Rattle.history_model.specs.Bounding.{IsRemovalAt}
use Rattle.history_model.specs.Histories as model
use Rattle.history_model.specs.Histories.{History, Removal, ranges}
use Rattle.history_model.specs.Incarnations.{IsRemoval}
use Rattle.history_model.specs.Readable.{IsReadable}
use Rattle.history_model.specs.States.{latest, IsLatest, state}
use Rattle.object_past.specs.declared.version.Version.{Version}
use Rattle.object_past.specs.Modelled.{version_of}
use Rattle.local_bounds.specs.Standings.{IsEither, IsLeaving}

module _ (h : History) (r : IsReadable h) (key : ObjectKey) (place position : ℕ) (v : Version) (removal : Removal)
    (e : latest h.versions key place ≡ Some (version_of v)) (a : IsRemovalAt h position (version_of v) removal) where
  pub place_chosen : (choice : List ℕ) → IsChoice (ranges h) choice
      → (removal.range.low ≤ slice_index choice position) × (slice_index choice position ≤ removal.range.high)
  place_chosen choice chosen = cut_chosen h.removals choice (cut_of removal (slice_index choice position)) chosen (cut_at h.removals choice position removal chosen a.0)

  pub always_gone : removal.range.high ≤ place → (choice : List ℕ) → IsChoice (ranges h) choice → state h choice place key ≡ None
  always_gone over choice chosen = go (place_chosen choice chosen)
    where
      go : (removal.range.low ≤ slice_index choice position) × (slice_index choice position ≤ removal.range.high) → state h choice place key ≡ None
      go (l, m) = (absence_is h choice r chosen key place position (version_of v) removal e a).1 (l, omega arith)

  pub always_there : place < removal.range.low → (choice : List ℕ) → IsChoice (ranges h) choice → state h choice place key ≡ Some (version_of v)
  always_there under choice chosen = go (place_chosen choice chosen)
    where
      go : (removal.range.low ≤ slice_index choice position) × (slice_index choice position ≤ removal.range.high) → state h choice place key ≡ Some (version_of v)
      go (l, m) = (presence_is h choice r chosen key place position (version_of v) removal e a).1 (omega arith, m)

  -- the removal is of the key
  of_key : (other : Removal) → slice_get h.removals position ≡ Some other → other.key ≡ key
  of_key other f = at (r.removals.sound removal (at_in h.removals position removal a.0)) (subst (λ z. IsLatest h.versions key place z) e (latest_is h.versions key place))
    where
      same : removal ≡ other
      same = same_Some removal other (sym a.0 ∙ f)

      at : IsRemoval h removal → IsLatest h.versions key place (Some (version_of v)) → other.key ≡ key
      at i k = ap (λ (z : Removal). z.key) (sym same) ∙ i.behind.of_key
          ∙ ap (λ (z : model.Version). z.key) (apart (λ z. z.revision) h.versions i.version (version_of v) r.versions.rising i.known k.0 (sym i.behind.of_last ∙ a.1)) ∙ k.1

  range_at : slice_get (ranges h) position ≡ Some removal.range
  range_at = slice_get-map (λ (z : Removal). z.range) h.removals position ∙ ap (λ o. option_map (λ (z : Removal). z.range) o) a.0

  pub is_leaving : removal.range.low ≤ place → place < removal.range.high
      → IsLeaving h key place v (record { range = position; low = removal.range.low; high = place }) (record { range = position; low = place + 1; high = removal.range.high })
  is_leaving from to = record {
    gone_decides = record {
      has_room = record { range = removal.range; known = range_at; from = omega arith; to = omega arith; room = from };
      removal = removal;
      known = a.0;
      narrow = inr to;
    };
    gone_on = of_key;
    there_decides = record {
      has_room = record { range = removal.range; known = range_at; from = omega arith; to = omega arith; room = omega arith };
      removal = removal;
      known = a.0;
      narrow = inl (omega arith);
    };
    there_on = of_key;
    either = λ choice chosen. go choice chosen (place_chosen choice chosen) (grind arith);
  }
    where
      go : (choice : List ℕ) → IsChoice (ranges h) choice → (removal.range.low ≤ slice_index choice position) × (slice_index choice position ≤ removal.range.high)
          → (slice_index choice position ≤ place) ⊎ (place < slice_index choice position)
          → IsEither h key place choice v (record { range = position; low = removal.range.low; high = place }) (record { range = position; low = place + 1; high = removal.range.high })
      go choice chosen (l, m) (inl x) =
          inl ((absence_is h choice r chosen key place position (version_of v) removal e a).1 (l, omega arith), (l, x), λ w. absurd (omega (arith, w.0)))
      go choice chosen (l, m) (inr x) =
          inr ((presence_is h choice r chosen key place position (version_of v) removal e a).1 (omega arith, m), (omega arith, m), λ w. absurd (omega (arith, w.1)))
