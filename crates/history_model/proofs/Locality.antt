-- Steps are allowed exactly where each making, removal and placed answer is right by itself.
use Rattle.std.proofs.Common.{◌≡◌, ℕ, ◌<◌, ◌≤◌, ◌-◌, ◌⊎◌, List, ◌∷◌, ◌++◌, Option, Some, None, Contains, inl, inr, refl, sym, ap, ◌∙◌, subst, arith}
use mathlib.Core.Path.{fun_ext}
use Rattle.std.proofs.lemmas.List.Elements.{Contains-append_left, Contains-append_right}
use Rattle.base_types.specs.declared.kubernetes.key.ObjectKey.{ObjectKey}
use Rattle.history_model.proofs.CutLemmas.{cut_removal}
use Rattle.history_model.proofs.Fits.{CutEnds, CutsFit, cuts_fit}
use Rattle.history_model.proofs.Members.{here, apart}
use Rattle.history_model.proofs.Splits.{SplitsAt, split_at, runs_each, each_runs, order_front, before_split, behind_split, of_split}
use Rattle.history_model.proofs.StateLaw.{IsWriteOf, state_at}
use Rattle.history_model.proofs.Steps.{Writes, precedes_place, precedes_self}
use Rattle.history_model.proofs.WindowLemmas.{in_window_start}
use Rattle.history_model.proofs.WordLemmas.{IsMadeBy, made_version, word_makes, maker_word, word_removes, removal_word_is, same_making}
use Rattle.history_model.specs.Events.{Event}
use Rattle.history_model.specs.Groups.{Making, IsMaking}
use Rattle.history_model.specs.Histories.{History, Version, ByEvent, IsEvent}
use Rattle.history_model.specs.Judging.{IsJudged}
use Rattle.history_model.specs.Local.{IsLocallyRight}
use Rattle.history_model.specs.Machine.{Step, Put, Remove, Reply, after_all, snapshot_map, step_place, step_rank, Precedes, InOrder, Runs, IsAllowed, MayRemove}
use Rattle.history_model.specs.Making.{HasNoFault}
use Rattle.history_model.specs.Readable.{IsReadable}
use Rattle.history_model.specs.Right.{IsRight}
use Rattle.history_model.specs.Runs.{Placement, IsStep, AreSteps, IsOfFirst, IsPlacedUpTo}
use Rattle.history_model.specs.States.{Cut, cuts, state}
use Rattle.history_model.specs.Words.{Makes, Removes, At, word}

-- a key has one write at a place
one_write : (h : History) (cs : List Cut) → CutsFit h.start h.versions cs → (key : ObjectKey) (a b : Step) (left other : Option Version)
    → IsWriteOf h cs a → IsWriteOf h cs b → Writes a key left → Writes b key other → step_place a ≡ step_place b → a ≡ b
one_write h cs fit key (Put v) (Put w) left other x y k l e = ap Put (apart (λ z. z.revision) h.versions v w fit.rising x.0 y.0 e)
one_write h cs fit key (Put v) (Remove d) left other x y k l e = absurd (at (fit.ends d y))
  where
    at : CutEnds h.start h.versions d → ⊥
    at z = by (z.before v x.0 (k.0 ∙ sym l.0 ∙ sym z.of_key))
      where
        by : (v.revision ≤ z.version.revision) ⊎ (d.place < v.revision) → ⊥
        by (inl a) = omega (arith, a, z.behind, e)
        by (inr a) = omega (arith, a, e)
one_write h cs fit key (Remove d) (Put v) left other x y k l e = absurd (at (fit.ends d x))
  where
    at : CutEnds h.start h.versions d → ⊥
    at z = by (z.before v y.0 (l.0 ∙ sym k.0 ∙ sym z.of_key))
      where
        by : (v.revision ≤ z.version.revision) ⊎ (d.place < v.revision) → ⊥
        by (inl a) = omega (arith, a, z.behind, e)
        by (inr a) = omega (arith, a, e)
one_write h cs fit key (Remove d) (Remove c) left other x y k l e = ap Remove (fit.one d c x y (at (fit.ends d x) (fit.ends c y)))
  where
    at : CutEnds h.start h.versions d → CutEnds h.start h.versions c → d.removal.last ≡ c.removal.last
    at z w = sym z.of_last ∙ by (z.before w.version w.known (w.of_key ∙ l.0 ∙ sym k.0 ∙ sym z.of_key)) (w.before z.version z.known (z.of_key ∙ k.0 ∙ sym l.0 ∙ sym w.of_key)) ∙ w.of_last
      where
        by : (w.version.revision ≤ z.version.revision) ⊎ (d.place < w.version.revision) → (z.version.revision ≤ w.version.revision) ⊎ (c.place < z.version.revision)
            → z.version.revision ≡ w.version.revision
        by (inl a) (inl b) = omega (arith, a, b)
        by (inl a) (inr b) = absurd (omega (arith, b, z.behind, e))
        by (inr a) b = absurd (omega (arith, a, w.behind, e))
one_write h cs fit key (Reply n ev at) b left other x y k l e = absurd x
one_write h cs fit key (Put v) (Reply n ev at) left other x y k l e = absurd y
one_write h cs fit key (Remove d) (Reply n ev at) left other x y k l e = absurd y

module _ (h : History) (n : ℕ) (p : Placement) (r : IsReadable h) (placed : IsPlacedUpTo h n p) (steps : List Step) (are : AreSteps h n p steps)
    (done : List Step) (s : Step) (rest : List Step) (whole : steps ≡ done ++ s ∷ rest) where
  fit : CutsFit h.start h.versions (cuts h.removals p.choice)
  fit = cuts_fit h p.choice r placed.chosen

  order : InOrder h (done ++ s ∷ rest)
  order = subst (λ zs. InOrder h zs) whole are.order

  listed : (u : Step) → Contains (done ++ s ∷ rest) u → Contains steps u
  listed u c = subst (λ zs. Contains zs u) (sym whole) c

  self : Contains steps s
  self = listed s (Contains-append_right done (s ∷ rest) s (here s rest))

  front : (u : Step) → Contains done u → Contains steps u
  front u c = listed u (Contains-append_left done (s ∷ rest) u c)

  write_is : (u : Step) (key : ObjectKey) (left : Option Version) → IsStep h n p u → Writes u key left → IsWriteOf h (cuts h.removals p.choice) u
  write_is (Put v) key left k w = k
  write_is (Remove d) key left k w = k
  write_is (Reply m e at) key left k w = absurd w

  is_step : (u : Step) → IsWriteOf h (cuts h.removals p.choice) u → IsStep h n p u
  is_step (Put v) k = k
  is_step (Remove d) k = k
  is_step (Reply m e at) k = absurd k

  -- before a write of a key, the map has the key's state one place before
  before_write : (key : ObjectKey) (entry : Option Version) → Writes s key entry → IsWriteOf h (cuts h.removals p.choice) s → h.start < step_place s
      → after_all (snapshot_map h) done key ≡ state h p.choice (step_place s - 1) key
  before_write key entry w k low = state_at h p.choice r placed.chosen key (step_place s - 1) done (order_front h done s rest order)
      (record { sound = sound; full = full }) (omega (arith, low))
    where
      sound : (u : Step) (left : Option Version) → Contains done u → Writes u key left → IsWriteOf h (cuts h.removals p.choice) u × (step_place u ≤ step_place s - 1)
      sound u left c x = (of, at (grind arith))
        where
          of : IsWriteOf h (cuts h.removals p.choice) u
          of = write_is u key left (are.sound u (front u c)) x

          before : Precedes h u s
          before = before_split h done s rest u order c

          at : (step_place u ≡ step_place s) ⊎ (step_place u < step_place s) ⊎ (step_place s < step_place u) → step_place u ≤ step_place s - 1
          at (inl e) = absurd (precedes_self h s (subst (λ z. Precedes h z s) (one_write h (cuts h.removals p.choice) fit key u s left entry of k x w e) before))
          at (inr (inl l)) = omega (arith, l)
          at (inr (inr l)) = absurd (omega (arith, l, precedes_place h u s before))

      full : (u : Step) (left : Option Version) → IsWriteOf h (cuts h.removals p.choice) u → Writes u key left → step_place u ≤ step_place s - 1 → Contains done u
      full u left k' x b = at (of_split done s rest u (subst (λ zs. Contains zs u) whole (are.full u (is_step u k'))))
        where
          at : Contains done u ⊎ (s ≡ u) ⊎ Contains rest u → Contains done u
          at (inl c) = c
          at (inr (inl e)) = absurd (omega (arith, b, ap step_place e, low))
          at (inr (inr c)) = absurd (omega (arith, b, precedes_place h s u (behind_split h done s rest u order c), low))

  -- before an answer, the map has each key's state at its place
  before_reply : step_rank s ≡ 1 → h.start ≤ step_place s → after_all (snapshot_map h) done ≡ state h p.choice (step_place s)
  before_reply rank low = fun_ext (λ key. state_at h p.choice r placed.chosen key (step_place s) done (order_front h done s rest order)
      (record { sound = sound key; full = full key }) low)
    where
      sound : (key : ObjectKey) (u : Step) (left : Option Version) → Contains done u → Writes u key left → IsWriteOf h (cuts h.removals p.choice) u × (step_place u ≤ step_place s)
      sound key u left c x = (write_is u key left (are.sound u (front u c)) x, precedes_place h u s (before_split h done s rest u order c))

      low_rank : (key : ObjectKey) (u : Step) (left : Option Version) → Writes u key left → step_rank u ≡ 0
      low_rank key (Put v) left x = refl
      low_rank key (Remove d) left x = refl
      low_rank key (Reply m e at) left x = absurd x

      full : (key : ObjectKey) (u : Step) (left : Option Version) → IsWriteOf h (cuts h.removals p.choice) u → Writes u key left → step_place u ≤ step_place s → Contains done u
      full key u left k' x b = at (of_split done s rest u (subst (λ zs. Contains zs u) whole (are.full u (is_step u k'))))
        where
          rank' : step_rank u ≡ 0
          rank' = low_rank key u left x

          behind : Precedes h s u → ⊥
          behind (inl l) = omega (arith, l, b)
          behind (inr (inl l)) = omega (arith, l.1, rank, rank')
          behind (inr (inr l)) = omega (arith, l.1, rank, rank')

          at : Contains done u ⊎ (s ≡ u) ⊎ Contains rest u → Contains done u
          at (inl c) = c
          at (inr (inl e)) = absurd (omega (arith, ap step_rank e, rank, rank'))
          at (inr (inr c)) = absurd (behind (behind_split h done s rest u order c))

-- a run is right at each place
pub run_is_local : (h : History) (n : ℕ) (p : Placement) (steps : List Step) → IsReadable h → IsPlacedUpTo h n p → AreSteps h n p steps
    → Runs h (IsOfFirst h n) (snapshot_map h) steps → IsLocallyRight h n p
run_is_local h n p steps r placed are runs = record { makings = makings; removals = removals; answers = answers }
  where
    allowed : (s : Step) → Contains steps s → IsOfFirst h n s → (done : List Step) × (rest : List Step) × (steps ≡ done ++ s ∷ rest) × IsAllowed h (after_all (snapshot_map h) done) s
    allowed s c j = go (split_at steps s c)
      where
        go : (done : List Step) × (rest : List Step) × SplitsAt steps done s rest
            → (done : List Step) × (rest : List Step) × (steps ≡ done ++ s ∷ rest) × IsAllowed h (after_all (snapshot_map h) done) s
        go (done, rest, w) = (done, rest, w.whole, runs_each h (IsOfFirst h n) (snapshot_map h) done s rest (subst (λ zs. Runs h (IsOfFirst h n) (snapshot_map h) zs) w.whole runs) j)

    makings : (number : ℕ) (event : Event) (m : Making) → IsJudged h n number → IsEvent h number event → word h number event ≡ Makes m
        → HasNoFault h m (state h p.choice (m.item.revision - 1) m.item.key)
    makings number event m j known e = go (word_makes h number event m r known e)
      where
        go : (v : Version) × IsMadeBy h m v × (m.number ≡ number) × (m.event ≡ event) → HasNoFault h m (state h p.choice (m.item.revision - 1) m.item.key)
        go (v, b, q, x) = at (allowed (Put v) (are.full (Put v) (b.known, b.above)) (m.number, b.maker, subst (λ z. IsJudged h n z) (sym q) j))
          where
            at : (done : List Step) × (rest : List Step) × (steps ≡ done ++ Put v ∷ rest) × IsAllowed h (after_all (snapshot_map h) done) (Put v)
                → HasNoFault h m (state h p.choice (m.item.revision - 1) m.item.key)
            at (done, rest, w, a) = subst (λ z. HasNoFault h m z) same (a m b.making b.maker)
              where
                same : after_all (snapshot_map h) done v.key ≡ state h p.choice (m.item.revision - 1) m.item.key
                same = before_write h n p r placed steps are done (Put v) rest w v.key (Some v) (refl, refl) (b.known, b.above) b.above
                    ∙ ap (λ z. state h p.choice (z - 1) v.key) b.at_revision ∙ ap (state h p.choice (m.item.revision - 1)) b.of_key

    removals : (number : ℕ) (event : Event) (cut : Cut) → IsJudged h n number → IsEvent h number event → word h number event ≡ Removes cut.removal
        → Contains (cuts h.removals p.choice) cut → MayRemove h event cut.removal (state h p.choice (cut.place - 1) cut.removal.key)
    removals number event cut j known e c = go (word_removes h number event cut.removal e)
      where
        go : Contains h.removals cut.removal × (cut.removal.range.event ≡ number) → MayRemove h event cut.removal (state h p.choice (cut.place - 1) cut.removal.key)
        go (l, q) = at (allowed (Remove cut) (are.full (Remove cut) c) (subst (λ z. IsJudged h n z) (sym q) j))
          where
            at : (done : List Step) × (rest : List Step) × (steps ≡ done ++ Remove cut ∷ rest) × IsAllowed h (after_all (snapshot_map h) done) (Remove cut)
                → MayRemove h event cut.removal (state h p.choice (cut.place - 1) cut.removal.key)
            at (done, rest, w, a) = subst (λ z. MayRemove h event cut.removal z) same (a event (subst (λ z. IsEvent h z event) (sym q) known))
              where
                same : after_all (snapshot_map h) done cut.removal.key ≡ state h p.choice (cut.place - 1) cut.removal.key
                same = before_write h n p r placed steps are done (Remove cut) rest w cut.removal.key None (refl, refl) c
                    ((cuts_fit h p.choice r placed.chosen).ends cut c).above

    answers : (number : ℕ) (event : Event) → IsJudged h n number → IsEvent h number event → word h number event ≡ At
        → IsRight h number event (p.at_place number) (state h p.choice (p.at_place number))
    answers number event j known e = at (allowed (Reply number event (p.at_place number)) (are.full (Reply number event (p.at_place number)) (j, known, e, refl)) j)
      where
        at : (done : List Step) × (rest : List Step) × (steps ≡ done ++ Reply number event (p.at_place number) ∷ rest)
            × IsAllowed h (after_all (snapshot_map h) done) (Reply number event (p.at_place number))
            → IsRight h number event (p.at_place number) (state h p.choice (p.at_place number))
        at (done, rest, w, a) = subst (λ z. IsRight h number event (p.at_place number) z)
            (before_reply h n p r placed steps are done (Reply number event (p.at_place number)) rest w refl (in_window_start h number event (p.at_place number) r known (placed.windows number event j known e))) a

-- and where each is right, the machine runs
pub local_is_run : (h : History) (n : ℕ) (p : Placement) (steps : List Step) → IsReadable h → IsPlacedUpTo h n p → AreSteps h n p steps
    → IsLocallyRight h n p → Runs h (IsOfFirst h n) (snapshot_map h) steps
local_is_run h n p steps r placed are right = each_runs h (IsOfFirst h n) (snapshot_map h) steps each
  where
    each : (done : List Step) (s : Step) (rest : List Step) → steps ≡ done ++ s ∷ rest → IsOfFirst h n s → IsAllowed h (after_all (snapshot_map h) done) s
    each done (Put v) rest w j = λ m making maker. go m making maker (are.sound (Put v) (subst (λ zs. Contains zs (Put v)) (sym w) (Contains-append_right done (Put v ∷ rest) (Put v) (here (Put v) rest))))
      where
        go : (m : Making) → IsMaking h m → v.maker ≡ ByEvent m.number → Contains h.versions v × (h.start < v.revision) → HasNoFault h m (after_all (snapshot_map h) done v.key)
        go m making maker (c, low) = at (made_version h v m.number r c maker)
          where
            at : (x : Making) × (x.number ≡ m.number) × IsMadeBy h x v → HasNoFault h m (after_all (snapshot_map h) done v.key)
            at (x, q, b) = subst (λ z. HasNoFault h z (after_all (snapshot_map h) done v.key)) same
                (subst (λ z. HasNoFault h x z) (sym entry) (right.makings x.number x.event x judged b.making.known (maker_word h x v r b)))
              where
                parts : (x.event ≡ m.event) × (x.item ≡ m.item) × (x.created ≡ m.created)
                parts = same_making h x m b.making making q

                same : x ≡ m
                same = λ i. record { number = q i; event = parts.0 i; item = parts.1 i; created = parts.2 i }

                judged : IsJudged h n x.number
                judged = subst (λ z. IsJudged h n z) (cc (j.1, b.maker)) j.2

                entry : after_all (snapshot_map h) done v.key ≡ state h p.choice (x.item.revision - 1) x.item.key
                entry = before_write h n p r placed steps are done (Put v) rest w v.key (Some v) (refl, refl) (c, low) low
                    ∙ ap (λ z. state h p.choice (z - 1) v.key) b.at_revision ∙ ap (state h p.choice (x.item.revision - 1)) b.of_key
    each done (Remove cut) rest w j = λ event known. subst (λ z. MayRemove h event cut.removal z) (sym entry)
        (right.removals cut.removal.range.event event cut j known (removal_word_is h cut.removal event r (cut_removal h.removals p.choice cut listed) known) listed)
      where
        listed : Contains (cuts h.removals p.choice) cut
        listed = are.sound (Remove cut) (subst (λ zs. Contains zs (Remove cut)) (sym w) (Contains-append_right done (Remove cut ∷ rest) (Remove cut) (here (Remove cut) rest)))

        entry : after_all (snapshot_map h) done cut.removal.key ≡ state h p.choice (cut.place - 1) cut.removal.key
        entry = before_write h n p r placed steps are done (Remove cut) rest w cut.removal.key None (refl, refl) listed
            ((cuts_fit h p.choice r placed.chosen).ends cut listed).above
    each done (Reply number event place) rest w j = go (are.sound (Reply number event place) (subst (λ zs. Contains zs (Reply number event place)) (sym w)
        (Contains-append_right done (Reply number event place ∷ rest) (Reply number event place) (here (Reply number event place) rest))))
      where
        go : IsJudged h n number × IsEvent h number event × (word h number event ≡ At) × (place ≡ p.at_place number) → IsRight h number event place (after_all (snapshot_map h) done)
        go (k, known, e, q) = subst (λ z. IsRight h number event place z) (sym entry)
            (subst (λ z. IsRight h number event z (state h p.choice z)) (sym q) (right.answers number event k known e))
          where
            entry : after_all (snapshot_map h) done ≡ state h p.choice place
            entry = before_reply h n p r placed steps are done (Reply number event place) rest w refl
                (omega (arith, in_window_start h number event (p.at_place number) r known (placed.windows number event k known e), q))
