-- What a choice's cuts are in a readable history.
use Rattle.std.proofs.Common.{◌≡◌, ℕ, ◌<◌, ◌≤◌, ◌⊎◌, List, Option, Some, None, AllPairs, Contains, inl, inr, sym, ◌∙◌, subst, arith}
use Rattle.std.proofs.lemmas.Option.{same_Some}
use Rattle.base_types.specs.Choices.{IsChoice}
use Rattle.history_model.proofs.CutLemmas.{cut_removal, cut_chosen, cuts_apart}
use Rattle.history_model.proofs.JudgingLemmas.{first_same}
use Rattle.history_model.proofs.Members.{apart}
use Rattle.history_model.proofs.WindowLemmas.{start_lowest}
use Rattle.history_model.specs.Histories.{History, Version, IsEvent, ranges}
use Rattle.history_model.specs.Incarnations.{EndsBefore, IsRemoval, IsRemovalOf, place_before}
use Rattle.history_model.specs.Judging.{IsFirst}
use Rattle.history_model.specs.Readable.{IsReadable}
use Rattle.history_model.specs.States.{Cut, cuts}

-- the version that a cut ends
pub record CutEnds (start : ℕ) (versions : List Version) (cut : Cut) : Type 0 where
  pub version : Version
  pub known : Contains versions version
  pub of_key : version.key ≡ cut.removal.key
  pub of_uid : version.uid ≡ cut.removal.uid
  pub of_last : version.revision ≡ cut.removal.last
  pub behind : version.revision < cut.place
  pub above : start < cut.place
  pub before : (w : Version) → Contains versions w → w.key ≡ version.key → (w.revision ≤ version.revision) ⊎ (cut.place < w.revision)

pub record CutsFit (start : ℕ) (versions : List Version) (cs : List Cut) : Type 0 where
  pub rising : AllPairs (λ v w. v.revision < w.revision) versions
  pub ends : (cut : Cut) → Contains cs cut → CutEnds start versions cut
  pub one : (a b : Cut) → Contains cs a → Contains cs b → a.removal.last ≡ b.removal.last → a ≡ b

-- the version of a removal comes before a place that isn't behind its range
ends_before : (versions : List Version) (v : Version) (next : Option ℕ) (place : ℕ) → EndsBefore versions v next → place ≤ place_before next
    → (w : Version) → Contains versions w → w.key ≡ v.key → (w.revision ≤ v.revision) ⊎ (place < w.revision)
ends_before versions v None place e l w c k = inl (e w c k)
ends_before versions v (Some next) place e l w c k = go (e.2 w c k)
  where
    go : (w.revision ≤ v.revision) ⊎ (next ≤ w.revision) → (w.revision ≤ v.revision) ⊎ (place < w.revision)
    go (inl a) = inl a
    go (inr b) = inr (omega (arith, b, l, e.0))

-- an event is one at its number
pub same_event : (h : History) (number : ℕ) (a b : Rattle.history_model.specs.Events.Event) → IsEvent h number a → IsEvent h number b → a ≡ b
same_event h number a b x y = same_Some a b (sym x ∙ y)

pub cuts_fit : (h : History) (choice : List ℕ) → IsReadable h → IsChoice (ranges h) choice → CutsFit h.start h.versions (cuts h.removals choice)
cuts_fit h choice r chosen = record { rising = r.versions.rising; ends = ends; one = one }
  where
    ends : (cut : Cut) → Contains (cuts h.removals choice) cut → CutEnds h.start h.versions cut
    ends cut c = of (r.removals.sound cut.removal (cut_removal h.removals choice cut c)) (cut_chosen h.removals choice cut chosen c)
      where
        of : IsRemoval h cut.removal → (cut.removal.range.low ≤ cut.place) × (cut.place ≤ cut.removal.range.high) → CutEnds h.start h.versions cut
        of i p = record {
          version = i.version;
          known = i.known;
          of_key = sym i.behind.of_key;
          of_uid = sym i.behind.of_uid;
          of_last = sym i.behind.of_last;
          behind = omega (arith, i.behind.low, p.0);
          above = omega (arith, i.behind.low, p.0, start_lowest h.start h.spans i.behind.event.lo);
          before = ends_before h.versions i.version i.next cut.place i.ends (omega (arith, i.behind.high, p.1));
        }

    one : (a b : Cut) → Contains (cuts h.removals choice) a → Contains (cuts h.removals choice) b → a.removal.last ≡ b.removal.last → a ≡ b
    one a b c d e = of (r.removals.sound a.removal (cut_removal h.removals choice a c)) (r.removals.sound b.removal (cut_removal h.removals choice b d))
      where
        of : IsRemoval h a.removal → IsRemoval h b.removal → a ≡ b
        of i j = cuts_apart h.removals choice a b r.removals.rising c d
            (first_same h (IsRemovalOf i.version.key i.version.uid) a.removal.range.event b.removal.range.event i.behind.event j.behind.event r.lines i.behind.first
            (subst (λ (v : Version). IsFirst h (IsRemovalOf v.key v.uid) b.removal.range.event j.behind.event) same j.behind.first))
          where
            same : j.version ≡ i.version
            same = apart (λ z. z.revision) h.versions j.version i.version r.versions.rising j.known i.known (sym j.behind.of_last ∙ sym e ∙ i.behind.of_last)
