-- Whether a removal may take place doesn't depend on the choice.
use Rattle.std.proofs.Common.{◌≡◌, ℕ, ◌<◌, ◌≤◌, ◌-◌, ◌⊎◌, ◌↔◌, List, Option, Some, None, Contains, inl, inr, refl, sym, ap, ◌∙◌, subst, arith}
use Rattle.base_types.specs.Choices.{IsChoice}
use Rattle.base_types.specs.declared.kubernetes.key.ObjectKey.{ObjectKey}
use Rattle.history_model.proofs.Fits.{CutEnds, CutsFit, cuts_fit}
use Rattle.history_model.proofs.Latest.{latest_same}
use Rattle.history_model.proofs.StateLaw.{Stands, never, removed, stays, state_stands}
use Rattle.history_model.specs.Events.{Event}
use Rattle.history_model.specs.Histories.{History, Version, ranges}
use Rattle.history_model.specs.Machine.{MayRemove, MeetsPreconditions}
use Rattle.history_model.specs.Readable.{IsReadable}
use Rattle.history_model.specs.States.{Cut, cuts, IsLatest, state}

-- a key stands at a place in one way
pub stands_same : (h : History) (cs : List Cut) (key : ObjectKey) (place : ℕ) (a b : Option Version) → CutsFit h.start h.versions cs → Stands h cs key place a → Stands h cs key place b → a ≡ b
stands_same h cs key place a b fit (never l) (never k) = refl
stands_same h cs key place a b fit (never l) (removed v cut k c e p) = refl
stands_same h cs key place a b fit (never l) (stays v k s) = latest_same h.versions key place None (Some v) fit.rising l k
stands_same h cs key place a b fit (removed w cut l c e p) (never k) = refl
stands_same h cs key place a b fit (removed w cut l c e p) (removed v other k d f q) = refl
stands_same h cs key place a b fit (removed w cut l c e p) (stays v k s) = absurd (at (latest_same h.versions key place (Some w) (Some v) fit.rising l k))
  where
    at : Some w ≡ Some v → ⊥
    at x = let y : w ≡ v = cc x in omega (arith, s cut c (e ∙ ap (λ (z : Version). z.revision) y), p)
stands_same h cs key place a b fit (stays w l t) (never k) = latest_same h.versions key place (Some w) None fit.rising l k
stands_same h cs key place a b fit (stays w l t) (removed v cut k d f q) = absurd (at (latest_same h.versions key place (Some w) (Some v) fit.rising l k))
  where
    at : Some w ≡ Some v → ⊥
    at x = let y : w ≡ v = cc x in omega (arith, t cut d (f ∙ ap (λ (z : Version). z.revision) (sym y)), q)
stands_same h cs key place a b fit (stays w l t) (stays v k s) = latest_same h.versions key place (Some w) (Some v) fit.rising l k

-- just before a removal the version that it ends is there
pub before_cut : (h : History) (choice : List ℕ) (cut : Cut) → IsReadable h → IsChoice (ranges h) choice → (c : Contains (cuts h.removals choice) cut)
    → (v : Version) × (state h choice (cut.place - 1) cut.removal.key ≡ Some v) × (v.uid ≡ cut.removal.uid) × (v.revision ≡ cut.removal.last)
before_cut h choice cut r chosen c = go (cuts_fit h choice r chosen)
  where
    go : CutsFit h.start h.versions (cuts h.removals choice)
        → (v : Version) × (state h choice (cut.place - 1) cut.removal.key ≡ Some v) × (v.uid ≡ cut.removal.uid) × (v.revision ≡ cut.removal.last)
    go fit = at (fit.ends cut c)
      where
        at : CutEnds h.start h.versions cut → (v : Version) × (state h choice (cut.place - 1) cut.removal.key ≡ Some v) × (v.uid ≡ cut.removal.uid) × (v.revision ≡ cut.removal.last)
        at z = (
          z.version,
          stands_same h (cuts h.removals choice) cut.removal.key (cut.place - 1) (state h choice (cut.place - 1) cut.removal.key) (Some z.version) fit
              (state_stands h choice (cut.place - 1) cut.removal.key) (stays z.version last stay),
          z.of_uid,
          z.of_last,
        )
          where
            last : IsLatest h.versions cut.removal.key (cut.place - 1) (Some z.version)
            last = (z.known, z.of_key, omega (arith, z.behind), λ w d k l. below w l (z.before w d (k ∙ sym z.of_key)))
              where
                below : (w : Version) → w.revision ≤ cut.place - 1 → (w.revision ≤ z.version.revision) ⊎ (cut.place < w.revision) → w.revision ≤ z.version.revision
                below w l (inl a) = a
                below w l (inr a) = omega (arith, a, l)

            stay : (other : Cut) → Contains (cuts h.removals choice) other → other.removal.last ≡ z.version.revision → cut.place - 1 < other.place
            stay other d e = omega (arith, ap (λ (y : Cut). y.place) (fit.one other cut d c (e ∙ z.of_last)), z.above)

pub removals_are : (h : History) (choice : List ℕ) (event : Event) (cut : Cut) → IsReadable h → IsChoice (ranges h) choice → Contains (cuts h.removals choice) cut
    → MayRemove h event cut.removal (state h choice (cut.place - 1) cut.removal.key) ↔ MeetsPreconditions h event cut.removal cut.removal.last
removals_are h choice event cut r chosen c = go (before_cut h choice cut r chosen c)
  where
    go : (v : Version) × (state h choice (cut.place - 1) cut.removal.key ≡ Some v) × (v.uid ≡ cut.removal.uid) × (v.revision ≡ cut.removal.last)
        → MayRemove h event cut.removal (state h choice (cut.place - 1) cut.removal.key) ↔ MeetsPreconditions h event cut.removal cut.removal.last
    go (v, e, u, l) = (λ a. subst (λ n. MeetsPreconditions h event cut.removal n) l (at a).1, λ a. subst (λ z. MayRemove h event cut.removal z) (sym e) (u, subst (λ n. MeetsPreconditions h event cut.removal n) (sym l) a))
      where
        at : MayRemove h event cut.removal (state h choice (cut.place - 1) cut.removal.key) → MayRemove h event cut.removal (Some v)
        at a = subst (λ z. MayRemove h event cut.removal z) e a
