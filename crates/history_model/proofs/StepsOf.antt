-- Every placement has its steps in order.
use Rattle.std.proofs.Common.{◌≡◌, ℕ, ◌<◌, ◌≤◌, ◌⊎◌, List, [], ◌∷◌, ◌++◌, take, slice_get, Option, Some, None, Contains, inl, inr, refl, sym, ap, ◌∙◌, subst, arith}
use Rattle.std.proofs.lemmas.List.Elements.{Contains-append_left, Contains-append_right, Contains-append_cases}
use Rattle.history_model.proofs.CutLemmas.{cut_removal, cuts_apart}
use Rattle.history_model.proofs.Fits.{same_event}
use Rattle.history_model.proofs.Members.{not_in_none, here, there, in_cons, all_at, apart, at_apart, at_in}
use Rattle.history_model.proofs.Sorting.{Ties, IsSortedOf, sorted_of}
use Rattle.history_model.proofs.WordLemmas.{IsMadeBy, made_version, is_at}
use Rattle.base_types.specs.declared.kubernetes.key.ObjectKey.{ObjectKey}
use Rattle.history_model.specs.Events.{Text, Event, Removed}
use Rattle.history_model.specs.Groups.{Making}
use Rattle.history_model.specs.Histories.{History, Version, Removal, Maker, Snapshot, ByEvent, Unknown, IsEvent}
use Rattle.history_model.specs.Incarnations.{IsRemoval}
use Rattle.history_model.specs.Machine.{Step, Put, Remove, Reply, event_line, maker_line}
use Rattle.history_model.specs.Readable.{IsReadable}
use Rattle.history_model.specs.Runs.{Placement, IsStep, AreSteps}
use Rattle.history_model.specs.States.{Cut, cuts}
use Rattle.history_model.specs.Words.{At, word}

lt_cases : (a b : ℕ) → (a < b) ⊎ (b ≤ a)
lt_cases a b = grind arith

puts : (versions : List Version) (start : ℕ) → (steps : List Step) × ((u : Step) → Contains steps u → (v : Version) × (u ≡ Put v) × Contains versions v × (start < v.revision))
    × ((v : Version) → Contains versions v → start < v.revision → Contains steps (Put v))
puts [] start = ([], λ u c. absurd (not_in_none c), λ v c l. absurd (not_in_none c))
puts (x ∷ xs) start = go (puts xs start) (lt_cases start x.revision)
  where
    go : (steps : List Step) × ((u : Step) → Contains steps u → (v : Version) × (u ≡ Put v) × Contains xs v × (start < v.revision))
        × ((v : Version) → Contains xs v → start < v.revision → Contains steps (Put v))
        → (start < x.revision) ⊎ (x.revision ≤ start)
        → (steps : List Step) × ((u : Step) → Contains steps u → (v : Version) × (u ≡ Put v) × Contains (x ∷ xs) v × (start < v.revision))
        × ((v : Version) → Contains (x ∷ xs) v → start < v.revision → Contains steps (Put v))
    go (steps, sound, full) (inl l) = (Put x ∷ steps, λ u c. from u (in_cons (Put x) steps u c), λ v c m. to v m (in_cons x xs v c))
      where
        from : (u : Step) → (Put x ≡ u) ⊎ Contains steps u → (v : Version) × (u ≡ Put v) × Contains (x ∷ xs) v × (start < v.revision)
        from u (inl e) = (x, sym e, here x xs, l)
        from u (inr c) = ((sound u c).0, (sound u c).1, there x (sound u c).0 xs (sound u c).2, (sound u c).3)

        to : (v : Version) → start < v.revision → (x ≡ v) ⊎ Contains xs v → Contains (Put x ∷ steps) (Put v)
        to v m (inl e) = subst (λ z. Contains (Put x ∷ steps) (Put z)) e (here (Put x) steps)
        to v m (inr c) = there (Put x) (Put v) steps (full v c m)
    go (steps, sound, full) (inr l) = (steps, λ u c. ((sound u c).0, (sound u c).1, there x (sound u c).0 xs (sound u c).2, (sound u c).3), λ v c m. to v m (in_cons x xs v c))
      where
        to : (v : Version) → start < v.revision → (x ≡ v) ⊎ Contains xs v → Contains steps (Put v)
        to v m (inl e) = absurd (omega (arith, l, m, ap (λ (z : Version). z.revision) e))
        to v m (inr c) = full v c m

removes : (cs : List Cut) → (steps : List Step) × ((u : Step) → Contains steps u → (cut : Cut) × (u ≡ Remove cut) × Contains cs cut)
    × ((cut : Cut) → Contains cs cut → Contains steps (Remove cut))
removes [] = ([], λ u c. absurd (not_in_none c), λ v c. absurd (not_in_none c))
removes (x ∷ xs) = go (removes xs)
  where
    go : (steps : List Step) × ((u : Step) → Contains steps u → (cut : Cut) × (u ≡ Remove cut) × Contains xs cut) × ((cut : Cut) → Contains xs cut → Contains steps (Remove cut))
        → (steps : List Step) × ((u : Step) → Contains steps u → (cut : Cut) × (u ≡ Remove cut) × Contains (x ∷ xs) cut)
        × ((cut : Cut) → Contains (x ∷ xs) cut → Contains steps (Remove cut))
    go (steps, sound, full) = (Remove x ∷ steps, λ u c. from u (in_cons (Remove x) steps u c), λ v c. to v (in_cons x xs v c))
      where
        from : (u : Step) → (Remove x ≡ u) ⊎ Contains steps u → (cut : Cut) × (u ≡ Remove cut) × Contains (x ∷ xs) cut
        from u (inl e) = (x, sym e, here x xs)
        from u (inr c) = ((sound u c).0, (sound u c).1, there x (sound u c).0 xs (sound u c).2)

        to : (v : Cut) → (x ≡ v) ⊎ Contains xs v → Contains (Remove x ∷ steps) (Remove v)
        to v (inl e) = subst (λ z. Contains (Remove x ∷ steps) (Remove z)) e (here (Remove x) steps)
        to v (inr c) = there (Remove x) (Remove v) steps (full v c)

-- the answers of some events
replies : (h : History) (at_place : ℕ → ℕ) (numbers : List ℕ)
    → (steps : List Step) × ((u : Step) → Contains steps u → (number : ℕ) × (event : Event) × (u ≡ Reply number event (at_place number)) × Contains numbers number × IsEvent h number event × (word h number event ≡ At))
    × ((number : ℕ) (event : Event) → Contains numbers number → IsEvent h number event → word h number event ≡ At → Contains steps (Reply number event (at_place number)))
replies h at_place [] = ([], λ u c. absurd (not_in_none c), λ number event c known e. absurd (not_in_none c))
replies h at_place (x ∷ xs) = go (replies h at_place xs) (slice_get h.events x) refl
  where
    go : (steps : List Step) × ((u : Step) → Contains steps u → (number : ℕ) × (event : Event) × (u ≡ Reply number event (at_place number)) × Contains xs number × IsEvent h number event × (word h number event ≡ At))
        × ((number : ℕ) (event : Event) → Contains xs number → IsEvent h number event → word h number event ≡ At → Contains steps (Reply number event (at_place number)))
        → (o : Option Event) → slice_get h.events x ≡ o
        → (steps : List Step) × ((u : Step) → Contains steps u → (number : ℕ) × (event : Event) × (u ≡ Reply number event (at_place number)) × Contains (x ∷ xs) number × IsEvent h number event × (word h number event ≡ At))
        × ((number : ℕ) (event : Event) → Contains (x ∷ xs) number → IsEvent h number event → word h number event ≡ At → Contains steps (Reply number event (at_place number)))
    go (steps, sound, full) None q = (
      steps,
      λ u c. ((sound u c).0, (sound u c).1, (sound u c).2, there x (sound u c).0 xs (sound u c).3, (sound u c).4, (sound u c).5),
      λ number event c known e. to number event known e (in_cons x xs number c),
    )
      where
        to : (number : ℕ) (event : Event) → IsEvent h number event → word h number event ≡ At → (x ≡ number) ⊎ Contains xs number → Contains steps (Reply number event (at_place number))
        to number event known e (inl p) = let f : slice_get h.events x ≡ Some event = subst (λ z. IsEvent h z event) (sym p) known in absurd (cc (f, q))
        to number event known e (inr c) = full number event c known e
    go (steps, sound, full) (Some event) q = by (is_at (word h x event))
      where
        by : (word h x event ≡ At) ⊎ (word h x event ≡ At → ⊥)
            → (steps : List Step) × ((u : Step) → Contains steps u → (number : ℕ) × (event : Event) × (u ≡ Reply number event (at_place number)) × Contains (x ∷ xs) number × IsEvent h number event × (word h number event ≡ At))
            × ((number : ℕ) (event : Event) → Contains (x ∷ xs) number → IsEvent h number event → word h number event ≡ At → Contains steps (Reply number event (at_place number)))
        by (inl w) = (Reply x event (at_place x) ∷ steps, λ u c. from u (in_cons (Reply x event (at_place x)) steps u c), λ number ev c known e. to number ev known e (in_cons x xs number c))
          where
            from : (u : Step) → (Reply x event (at_place x) ≡ u) ⊎ Contains steps u
                → (number : ℕ) × (event : Event) × (u ≡ Reply number event (at_place number)) × Contains (x ∷ xs) number × IsEvent h number event × (word h number event ≡ At)
            from u (inl e) = (x, event, sym e, here x xs, q, w)
            from u (inr c) = ((sound u c).0, (sound u c).1, (sound u c).2, there x (sound u c).0 xs (sound u c).3, (sound u c).4, (sound u c).5)

            to : (number : ℕ) (ev : Event) → IsEvent h number ev → word h number ev ≡ At → (x ≡ number) ⊎ Contains xs number
                → Contains (Reply x event (at_place x) ∷ steps) (Reply number ev (at_place number))
            to number ev known e (inl p) = subst (λ z. Contains (Reply x event (at_place x) ∷ steps) z) same (here (Reply x event (at_place x)) steps)
              where
                event_same : event ≡ ev
                event_same = same_event h number event ev (subst (λ z. IsEvent h z event) p q) known

                same : Reply x event (at_place x) ≡ Reply number ev (at_place number)
                same = λ i. Reply (p i) (event_same i) (at_place (p i))
            to number ev known e (inr c) = there (Reply x event (at_place x)) (Reply number ev (at_place number)) steps (full number ev c known e)
        by (inr n) = (
          steps,
          λ u c. ((sound u c).0, (sound u c).1, (sound u c).2, there x (sound u c).0 xs (sound u c).3, (sound u c).4, (sound u c).5),
          λ number ev c known e. to number ev known e (in_cons x xs number c),
        )
          where
            to : (number : ℕ) (ev : Event) → IsEvent h number ev → word h number ev ≡ At → (x ≡ number) ⊎ Contains xs number → Contains steps (Reply number ev (at_place number))
            to number ev known e (inl p) = absurd (n (ap (λ z. word h z event) p ∙ ap (word h number) (same_event h number event ev (subst (λ z. IsEvent h z event) p q) known) ∙ e))
            to number ev known e (inr c) = full number ev c known e

-- the line of a removal is that of its event
removal_line : (h : History) (removal : Removal) → IsReadable h → Contains h.removals removal → (event : Event) × IsEvent h removal.range.event event
    × (event_line (slice_get h.events removal.range.event) ≡ event.line) × ((key : ObjectKey) × (uid : Text) × (event.answer ≡ Removed key uid))
removal_line h removal r c = go (r.removals.sound removal c)
  where
    go : IsRemoval h removal → (event : Event) × IsEvent h removal.range.event event
        × (event_line (slice_get h.events removal.range.event) ≡ event.line) × ((key : ObjectKey) × (uid : Text) × (event.answer ≡ Removed key uid))
    go i = (i.behind.event, i.behind.first.known, ap event_line i.behind.first.known, (i.version.key, i.version.uid, i.behind.first.holds))

-- a write's line is not a removal's
other_line : (h : History) (v : Version) (maker : Maker) (removal : Removal) → IsReadable h → Contains h.versions v → v.maker ≡ maker → Contains h.removals removal
    → maker_line h maker ≡ event_line (slice_get h.events removal.range.event) → ⊥
other_line h v maker removal r c e d l = go (removal_line h removal r d)
  where
    go : (event : Event) × IsEvent h removal.range.event event
        × (event_line (slice_get h.events removal.range.event) ≡ event.line) × ((key : ObjectKey) × (uid : Text) × (event.answer ≡ Removed key uid)) → ⊥
    go (event, known, line, answer) = by maker e l
      where
        positive : 0 < event.line
        positive = all_at (λ (x : Event). 0 < x.line) h.events event r.numbered (at_in h.events removal.range.event event known)

        by : (maker : Maker) → v.maker ≡ maker → maker_line h maker ≡ event_line (slice_get h.events removal.range.event) → ⊥
        by Snapshot e l = omega (arith, positive, l, line)
        by Unknown e l = omega (arith, positive, l, line)
        by (ByEvent number) e l = at (made_version h v number r c e)
          where
            at : (m : Making) × (m.number ≡ number) × IsMadeBy h m v → ⊥
            at (m, q, b) = cc (b.making.made, answer.2, same)
              where
                known' : IsEvent h number m.event
                known' = subst (λ z. IsEvent h z m.event) q b.making.known

                lines : m.event.line ≡ event.line
                lines = sym (ap event_line known') ∙ l ∙ line

                numbers : number ≡ removal.range.event
                numbers = at_apart (λ (x : Event). x.line) h.events number removal.range.event m.event event r.lines known' known lines

                same : m.event ≡ event
                same = same_event h removal.range.event m.event event (subst (λ z. IsEvent h z m.event) numbers known') known

ties_same : (h : History) (n : ℕ) (p : Placement) → IsReadable h → (a b : Step) → IsStep h n p a → IsStep h n p b → Ties h a b → a ≡ b
ties_same h n p r (Put v) (Put w) x y t = ap Put (apart (λ z. z.revision) h.versions v w r.versions.rising x.0 y.0 t.0)
ties_same h n p r (Put v) (Remove d) x y t = absurd (other_line h v v.maker d.removal r x.0 refl (cut_removal h.removals p.choice d y) t.2)
ties_same h n p r (Put v) (Reply m e at) x y t = absurd (omega (arith, t.1))
ties_same h n p r (Remove d) (Put v) x y t = absurd (other_line h v v.maker d.removal r y.0 refl (cut_removal h.removals p.choice d x) (sym t.2))
ties_same h n p r (Remove d) (Remove c) x y t = ap Remove (go (removal_line h d.removal r (cut_removal h.removals p.choice d x)) (removal_line h c.removal r (cut_removal h.removals p.choice c y)))
  where
    go : (event : Event) × IsEvent h d.removal.range.event event
        × (event_line (slice_get h.events d.removal.range.event) ≡ event.line) × ((key : ObjectKey) × (uid : Text) × (event.answer ≡ Removed key uid))
        → (event : Event) × IsEvent h c.removal.range.event event
        × (event_line (slice_get h.events c.removal.range.event) ≡ event.line) × ((key : ObjectKey) × (uid : Text) × (event.answer ≡ Removed key uid)) → d ≡ c
    go (e, k, l, a) (f, m, o, b) = cuts_apart h.removals p.choice d c r.removals.rising x y
        (at_apart (λ (z : Event). z.line) h.events d.removal.range.event c.removal.range.event e f r.lines k m (sym l ∙ t.2 ∙ o))
ties_same h n p r (Remove d) (Reply m e at) x y t = absurd (omega (arith, t.1))
ties_same h n p r (Reply m e at) (Put v) x y t = absurd (omega (arith, t.1))
ties_same h n p r (Reply m e at) (Remove d) x y t = absurd (omega (arith, t.1))
ties_same h n p r (Reply m e at) (Reply k f to) x y t = λ i. Reply (numbers i) (events i) (t.0 i)
  where
    numbers : m ≡ k
    numbers = at_apart (λ (z : Event). z.line) h.events m k e f r.lines x.1 y.1 t.2

    events : e ≡ f
    events = same_event h k e f (subst (λ z. IsEvent h z e) numbers x.1) y.1

pub steps_of : (h : History) (n : ℕ) (p : Placement) → IsReadable h → (steps : List Step) × AreSteps h n p steps
steps_of h n p r = go (puts h.versions h.start) (removes (cuts h.removals p.choice)) (replies h p.at_place (take n h.order))
  where
    go : (steps : List Step) × ((u : Step) → Contains steps u → (v : Version) × (u ≡ Put v) × Contains h.versions v × (h.start < v.revision))
        × ((v : Version) → Contains h.versions v → h.start < v.revision → Contains steps (Put v))
        → (steps : List Step) × ((u : Step) → Contains steps u → (cut : Cut) × (u ≡ Remove cut) × Contains (cuts h.removals p.choice) cut)
        × ((cut : Cut) → Contains (cuts h.removals p.choice) cut → Contains steps (Remove cut))
        → (steps : List Step) × ((u : Step) → Contains steps u → (number : ℕ) × (event : Event) × (u ≡ Reply number event (p.at_place number)) × Contains (take n h.order) number × IsEvent h number event × (word h number event ≡ At))
        × ((number : ℕ) (event : Event) → Contains (take n h.order) number → IsEvent h number event → word h number event ≡ At → Contains steps (Reply number event (p.at_place number)))
        → (steps : List Step) × AreSteps h n p steps
    go (ps, ps_sound, ps_full) (rs, rs_sound, rs_full) (as', as_sound, as_full) = at (sorted_of h (ps ++ (rs ++ as')) (λ a b c d t. ties_same h n p r a b (sound a c) (sound b d) t))
      where
        sound : (u : Step) → Contains (ps ++ (rs ++ as')) u → IsStep h n p u
        sound u c = by (Contains-append_cases ps (rs ++ as') u c)
          where
            by_rest : Contains rs u ⊎ Contains as' u → IsStep h n p u
            by_rest (inl d) = subst (λ z. IsStep h n p z) (sym (rs_sound u d).1) (rs_sound u d).2
            by_rest (inr d) = subst (λ z. IsStep h n p z) (sym (as_sound u d).2) ((as_sound u d).3, (as_sound u d).4, (as_sound u d).5, refl)

            by : Contains ps u ⊎ Contains (rs ++ as') u → IsStep h n p u
            by (inl d) = subst (λ z. IsStep h n p z) (sym (ps_sound u d).1) ((ps_sound u d).2, (ps_sound u d).3)
            by (inr d) = by_rest (Contains-append_cases rs as' u d)

        full : (u : Step) → IsStep h n p u → Contains (ps ++ (rs ++ as')) u
        full (Put v) k = Contains-append_left ps (rs ++ as') (Put v) (ps_full v k.0 k.1)
        full (Remove d) k = Contains-append_right ps (rs ++ as') (Remove d) (Contains-append_left rs as' (Remove d) (rs_full d k))
        full (Reply m e place) k = Contains-append_right ps (rs ++ as') (Reply m e place) (Contains-append_right rs as' (Reply m e place)
            (subst (λ z. Contains as' (Reply m e z)) (sym k.3) (as_full m e k.0 k.1 k.2)))

        at : (ys : List Step) × IsSortedOf h (ps ++ (rs ++ as')) ys → (steps : List Step) × AreSteps h n p steps
        at (ys, s) = (ys, record { order = s.order; sound = λ u c. sound u (s.sound u c); full = λ u k. s.full u (full u k) })
