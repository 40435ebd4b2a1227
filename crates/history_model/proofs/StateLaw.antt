-- The machine's map after all writes up to a place is the state there.
use Rattle.std.proofs.Common.{◌≡◌, ℕ, ◌<◌, ◌≤◌, ◌⊎◌, true, false, List, Option, Some, None, Contains, nat_le, inl, inr, refl, sym, ap, ◌∙◌, arith}
use mathlib.Core.Path.{fun_ext}
use Rattle.std.proofs.lemmas.Bool.Decides.{leb_tells}
use Rattle.base_types.specs.Choices.{IsChoice}
use Rattle.base_types.specs.declared.kubernetes.key.ObjectKey.{ObjectKey}
use Rattle.history_model.proofs.CutLemmas.{gone_tells}
use Rattle.history_model.proofs.Fits.{CutEnds, CutsFit, cuts_fit}
use Rattle.history_model.proofs.Latest.{latest_is, latest_same}
use Rattle.history_model.proofs.Members.{apart}
use Rattle.history_model.proofs.Steps.{Writes, Spares, no_write, last_write, up_to, in_filter, filter_in, filter_order}
use Rattle.history_model.specs.Histories.{History, Version, ranges}
use Rattle.history_model.specs.Machine.{Step, Put, Remove, Reply, after_all, snapshot_map, step_place, InOrder}
use Rattle.history_model.specs.Readable.{IsReadable}
use Rattle.history_model.specs.Runs.{Placement, AreSteps, IsStep}
use Rattle.history_model.specs.States.{Cut, cuts, latest, IsLatest, is_gone, unless_gone, state}

-- the writes of a history, with these cuts
abbrev pub IsWriteOf : History → List Cut → Step → Type 0
IsWriteOf h cs (Put v) = Contains h.versions v × (h.start < v.revision)
IsWriteOf h cs (Remove cut) = Contains cs cut
IsWriteOf h cs (Reply number event place) = ⊥

-- the steps hold exactly the key's writes up to the place
pub record HoldsWrites (h : History) (cs : List Cut) (key : ObjectKey) (place : ℕ) (steps : List Step) : Type 0 where
  pub sound : (step : Step) (entry : Option Version) → Contains steps step → Writes step key entry → IsWriteOf h cs step × (step_place step ≤ place)
  pub full : (step : Step) (entry : Option Version) → IsWriteOf h cs step → Writes step key entry → step_place step ≤ place → Contains steps step

-- what is known of a key at a place
pub data Stands (h : History) (cs : List Cut) (key : ObjectKey) (place : ℕ) : Option Version → Type 0 where
  never : IsLatest h.versions key place None → Stands h cs key place None
  removed : (v : Version) (cut : Cut) → IsLatest h.versions key place (Some v) → Contains cs cut → cut.removal.last ≡ v.revision → cut.place ≤ place
      → Stands h cs key place None
  stays : (v : Version) → IsLatest h.versions key place (Some v) → ((cut : Cut) → Contains cs cut → cut.removal.last ≡ v.revision → place < cut.place)
      → Stands h cs key place (Some v)

stands_at : (h : History) (cs : List Cut) (key : ObjectKey) (place : ℕ) (o : Option Version) → IsLatest h.versions key place o
    → Stands h cs key place (unless_gone cs place o)
stands_at h cs key place None l = never l
stands_at h cs key place (Some v) l = go (gone_tells cs v.revision place)
  where
    go : ((is_gone cs v.revision place ≡ true) × ((cut : Cut) × Contains cs cut × (cut.removal.last ≡ v.revision) × (cut.place ≤ place)))
        ⊎ ((is_gone cs v.revision place ≡ false) × ((cut : Cut) → Contains cs cut → cut.removal.last ≡ v.revision → place < cut.place))
        → Stands h cs key place (unless_gone cs place (Some v))
    go (inl g) = rw g.0 (removed v g.1.0 l g.1.1 g.1.2 g.1.3)
    go (inr g) = rw g.0 (stays v l g.1)

pub state_stands : (h : History) (choice : List ℕ) (place : ℕ) (key : ObjectKey) → Stands h (cuts h.removals choice) key place (state h choice place key)
state_stands h choice place key = stands_at h (cuts h.removals choice) key place (latest h.versions key place) (latest_is h.versions key place)

module _ (h : History) (cs : List Cut) (fit : CutsFit h.start h.versions cs) (key : ObjectKey) (place : ℕ) (steps : List Step)
    (order : InOrder h steps) (holds : HoldsWrites h cs key place steps) (low : h.start ≤ place) where
  -- where nothing of the key is written, the snapshot stays
  unwritten : (o : Option Version) → ((step : Step) → Contains steps step → Spares step key) → IsLatest h.versions key h.start o
      → after_all (snapshot_map h) steps key ≡ o
  unwritten o none l = no_write steps (snapshot_map h) key none
      ∙ latest_same h.versions key h.start (latest h.versions key h.start) o fit.rising (latest_is h.versions key h.start) l

  -- a write of the key, against the key's latest version
  against : (v : Version) → IsLatest h.versions key place (Some v) → (u : Step) (left : Option Version) → IsWriteOf h cs u → Writes u key left → step_place u ≤ place
      → (u ≡ Put v) ⊎ ((cut : Cut) × (u ≡ Remove cut) × Contains cs cut × (cut.removal.last ≡ v.revision)) ⊎ (step_place u < v.revision)
  against v l (Put w) left k x b = go (grind arith)
    where
      go : (w.revision ≡ v.revision) ⊎ (w.revision < v.revision) ⊎ (v.revision < w.revision)
          → (Put w ≡ Put v) ⊎ ((cut : Cut) × (Put w ≡ Remove cut) × Contains cs cut × (cut.removal.last ≡ v.revision)) ⊎ (w.revision < v.revision)
      go (inl e) = inl (ap Put (apart (λ z. z.revision) h.versions w v fit.rising k.0 l.0 e))
      go (inr (inl a)) = inr (inr a)
      go (inr (inr a)) = absurd (omega (arith, l.3 w k.0 x.0 b))
  against v l (Remove d) left k x b = go (fit.ends d k)
    where
      go : CutEnds h.start h.versions d → (Remove d ≡ Put v) ⊎ ((cut : Cut) × (Remove d ≡ Remove cut) × Contains cs cut × (cut.removal.last ≡ v.revision)) ⊎ (d.place < v.revision)
      go e = at (e.before v l.0 (l.1 ∙ sym x.0 ∙ sym e.of_key))
        where
          low' : e.version.revision ≤ v.revision
          low' = l.3 e.version e.known (e.of_key ∙ x.0) (omega (arith, e.behind, b))

          at : (v.revision ≤ e.version.revision) ⊎ (d.place < v.revision)
              → (Remove d ≡ Put v) ⊎ ((cut : Cut) × (Remove d ≡ Remove cut) × Contains cs cut × (cut.removal.last ≡ v.revision)) ⊎ (d.place < v.revision)
          at (inl a) = inr (inl (d, refl, k, sym e.of_last ∙ omega (arith, a, low')))
          at (inr a) = inr (inr a)
  against v l (Reply number event at) left k x b = absurd x

  above_start : (u : Step) (left : Option Version) → IsWriteOf h cs u → Writes u key left → h.start < step_place u
  above_start (Put w) left k x = k.1
  above_start (Remove d) left k x = (fit.ends d k).above
  above_start (Reply number event at) left k x = absurd x

  never_written : IsLatest h.versions key place None → (u : Step) (left : Option Version) → IsWriteOf h cs u → Writes u key left → step_place u ≤ place → ⊥
  never_written l (Put w) left k x b = omega (arith, l w k.0 x.0, b)
  never_written l (Remove d) left k x b = go (fit.ends d k)
    where
      go : CutEnds h.start h.versions d → ⊥
      go e = omega (arith, l e.version e.known (e.of_key ∙ x.0), e.behind, b)
  never_written l (Reply number event at) left k x b = absurd x

  after_writes_is : (o : Option Version) → Stands h cs key place o → after_all (snapshot_map h) steps key ≡ o
  after_writes_is o (never l) = unwritten None (λ u c left x. at u left c x) (λ w c e. omega (arith, l w c e))
    where
      at : (u : Step) (left : Option Version) → Contains steps u → Writes u key left → ⊥
      at u left c x = never_written l u left (holds.sound u left c x).0 x (holds.sound u left c x).1
  after_writes_is o (removed v cut l c e b) = go (fit.ends cut c)
    where
      go : CutEnds h.start h.versions cut → after_all (snapshot_map h) steps key ≡ None
      go z = last_write h steps (snapshot_map h) key (Remove cut) None order (holds.full (Remove cut) None c written b) written others
        where
          same : z.version ≡ v
          same = apart (λ y. y.revision) h.versions z.version v fit.rising z.known l.0 (z.of_last ∙ e)

          written : Writes (Remove cut) key None
          written = (sym z.of_key ∙ ap (λ (y : Version). y.key) same ∙ l.1, refl)

          others : (u : Step) (left : Option Version) → Contains steps u → Writes u key left → (u ≡ Remove cut) ⊎ (step_place u < cut.place)
          others u left d x = at (against v l u left (holds.sound u left d x).0 x (holds.sound u left d x).1)
            where
              at : (u ≡ Put v) ⊎ ((other : Cut) × (u ≡ Remove other) × Contains cs other × (other.removal.last ≡ v.revision)) ⊎ (step_place u < v.revision)
                  → (u ≡ Remove cut) ⊎ (step_place u < cut.place)
              at (inl p) = inr (omega (arith, ap step_place p, z.behind, z.of_last, e))
              at (inr (inl p)) = inl (p.1 ∙ ap Remove (fit.one p.0 cut p.2 c (p.3 ∙ sym e)))
              at (inr (inr p)) = inr (omega (arith, p, z.behind, z.of_last, e))
  after_writes_is o (stays v l stay) = go (grind arith)
    where
      go : (h.start < v.revision) ⊎ (v.revision ≤ h.start) → after_all (snapshot_map h) steps key ≡ Some v
      go (inl a) = last_write h steps (snapshot_map h) key (Put v) (Some v) order (holds.full (Put v) (Some v) (l.0, a) (l.1, refl) l.2) (l.1, refl) others
        where
          others : (u : Step) (left : Option Version) → Contains steps u → Writes u key left → (u ≡ Put v) ⊎ (step_place u < v.revision)
          others u left d x = at (against v l u left (holds.sound u left d x).0 x (holds.sound u left d x).1)
            where
              at : (u ≡ Put v) ⊎ ((other : Cut) × (u ≡ Remove other) × Contains cs other × (other.removal.last ≡ v.revision)) ⊎ (step_place u < v.revision)
                  → (u ≡ Put v) ⊎ (step_place u < v.revision)
              at (inl p) = inl p
              at (inr (inl p)) = absurd (omega (arith, stay p.0 p.2 p.3, ap step_place p.1, (holds.sound u left d x).1))
              at (inr (inr p)) = inr p
      go (inr a) = unwritten (Some v) none (l.0, l.1, a, λ w c e b. l.3 w c e (omega (arith, b, low)))
        where
          none : (u : Step) → Contains steps u → Spares u key
          none u d left x = at (against v l u left (holds.sound u left d x).0 x (holds.sound u left d x).1)
            where
              start' : h.start < step_place u
              start' = above_start u left (holds.sound u left d x).0 x

              at : (u ≡ Put v) ⊎ ((other : Cut) × (u ≡ Remove other) × Contains cs other × (other.removal.last ≡ v.revision)) ⊎ (step_place u < v.revision) → ⊥
              at (inl p) = omega (arith, ap step_place p, start', a)
              at (inr (inl p)) = omega (arith, stay p.0 p.2 p.3, ap step_place p.1, (holds.sound u left d x).1)
              at (inr (inr p)) = omega (arith, p, start', a)

-- per key, for any ordered list that holds the key's writes up to the place
pub state_at : (h : History) (choice : List ℕ) → IsReadable h → IsChoice (ranges h) choice → (key : ObjectKey) (place : ℕ) (steps : List Step) → InOrder h steps
    → HoldsWrites h (cuts h.removals choice) key place steps → h.start ≤ place → after_all (snapshot_map h) steps key ≡ state h choice place key
state_at h choice r chosen key place steps order holds low =
    after_writes_is h (cuts h.removals choice) (cuts_fit h choice r chosen) key place steps order holds low (state h choice place key) (state_stands h choice place key)

write_of : (h : History) (n : ℕ) (p : Placement) (u : Step) (key : ObjectKey) (left : Option Version) → IsStep h n p u → Writes u key left → IsWriteOf h (cuts h.removals p.choice) u
write_of h n p (Put v) key left s x = s
write_of h n p (Remove cut) key left s x = s
write_of h n p (Reply number event at) key left s x = absurd x

step_of : (h : History) (n : ℕ) (p : Placement) (u : Step) → IsWriteOf h (cuts h.removals p.choice) u → IsStep h n p u
step_of h n p (Put v) s = s
step_of h n p (Remove cut) s = s
step_of h n p (Reply number event at) s = absurd s

-- the steps of a placement, up to a place
pub holds_up_to : (h : History) (n : ℕ) (p : Placement) (steps : List Step) (key : ObjectKey) (place : ℕ) → AreSteps h n p steps
    → HoldsWrites h (cuts h.removals p.choice) key place (up_to place steps)
holds_up_to h n p steps key place are = record { sound = sound; full = full }
  where
    within : (u : Step) → nat_le (step_place u) place ≡ true → step_place u ≤ place
    within u e = go (leb_tells (step_place u) place)
      where
        go : ((nat_le (step_place u) place ≡ true) × (step_place u ≤ place)) ⊎ ((nat_le (step_place u) place ≡ false) × (place < step_place u)) → step_place u ≤ place
        go (inl w) = w.1
        go (inr w) = absurd (cc (w.0, e))

    passes : (u : Step) → step_place u ≤ place → nat_le (step_place u) place ≡ true
    passes u b = go (leb_tells (step_place u) place)
      where
        go : ((nat_le (step_place u) place ≡ true) × (step_place u ≤ place)) ⊎ ((nat_le (step_place u) place ≡ false) × (place < step_place u)) → nat_le (step_place u) place ≡ true
        go (inl w) = w.0
        go (inr w) = absurd (omega (arith, w.1, b))

    sound : (u : Step) (left : Option Version) → Contains (up_to place steps) u → Writes u key left → IsWriteOf h (cuts h.removals p.choice) u × (step_place u ≤ place)
    sound u left c x = go (in_filter (λ s. nat_le (step_place s) place) steps u c)
      where
        go : Contains steps u × (nat_le (step_place u) place ≡ true) → IsWriteOf h (cuts h.removals p.choice) u × (step_place u ≤ place)
        go w = (write_of h n p u key left (are.sound u w.0) x, within u w.1)

    full : (u : Step) (left : Option Version) → IsWriteOf h (cuts h.removals p.choice) u → Writes u key left → step_place u ≤ place → Contains (up_to place steps) u
    full u left k x b = filter_in (λ s. nat_le (step_place s) place) steps u (are.full u (step_of h n p u k)) (passes u b)

pub state_is : (h : History) (n : ℕ) (p : Placement) (steps : List Step) (place : ℕ) → IsReadable h → IsChoice (ranges h) p.choice → AreSteps h n p steps → h.start ≤ place
    → after_all (snapshot_map h) (up_to place steps) ≡ state h p.choice place
state_is h n p steps place r chosen are low =
    fun_ext (λ key. state_at h p.choice r chosen key place (up_to place steps) (filter_order h (λ s. nat_le (step_place s) place) steps are.order) (holds_up_to h n p steps key place are) low)
