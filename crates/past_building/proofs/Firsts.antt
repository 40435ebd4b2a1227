-- Whether an incarnation is the first with its uid, as versions are put behind others.
use Rattle.std.proofs.Common.{◌≡◌, ◌≢◌, ℕ, ◌<◌, ◌≤◌, ◌⊎◌, inl, inr, ⊎_elim, List, [], ◌∷◌, ◌++◌, sym, ap, ◌∙◌, arith}
use Rattle.std.specs.Prelude.{◌↔◌, AllPairs, Contains}
use Rattle.history_model.specs.Histories as past
use Rattle.history_model.specs.Incarnations.{IsFirstWithUid}
use Rattle.history_model.proofs.Members.{apart}
use Rattle.std.proofs.lemmas.Bool.{cases_lt}
use Rattle.std.proofs.lemmas.List.Elements.{Contains-append_cases, Contains-append_left, Contains-push_cases}

-- versions of greater revisions don't matter
pub first_later : (versions more : List past.Version) (v : past.Version) → ((w : past.Version) → Contains more w → v.revision ≤ w.revision)
    → IsFirstWithUid versions v ↔ IsFirstWithUid (versions ++ more) v
first_later versions more v later = (
  (λ first. λ w between w_in w_key w_uid b_in b_key below under. ⊎_elim
      (λ b_before. ⊎_elim
      (λ w_before. first w between w_before w_key w_uid b_before b_key below under)
      (λ w_after. absurd (let up = later w w_after in omega arith))
      (Contains-append_cases versions more w w_in))
      (λ b_after. absurd (let up = later between b_after in omega arith))
      (Contains-append_cases versions more between b_in)),
  (λ first. λ w between w_in w_key w_uid b_in b_key below under.
      first w between (Contains-append_left versions more w w_in) w_key w_uid (Contains-append_left versions more between b_in) b_key below under),
)

-- a version that continues its key's latest one
pub first_continued : (versions : List past.Version) (p v : past.Version) → AllPairs (λ a b. a.revision < b.revision) versions → Contains versions p
    → p.key ≡ v.key → p.uid ≡ v.uid → p.revision < v.revision → ((w : past.Version) → Contains versions w → w.key ≡ v.key → w.revision ≤ p.revision)
    → IsFirstWithUid versions p ↔ IsFirstWithUid (versions ++ v ∷ []) v
first_continued versions p v rising p_in same_key same_uid below greatest = (
  (λ first. λ w between w_in w_key w_uid b_in b_key lower under.
      let b_before : Contains versions between = among between b_in under in
      let w_before : Contains versions w = among w w_in (omega arith) in
      at_or_below first w between w_before w_key w_uid b_before b_key lower (greatest between b_before b_key)),
  (λ first. λ w between w_in w_key w_uid b_in b_key lower under.
      first w between (Contains-append_left versions (v ∷ []) w w_in) (w_key ∙ same_key) (w_uid ∙ same_uid)
      (Contains-append_left versions (v ∷ []) between b_in) (b_key ∙ same_key) lower (omega arith) ∙ sym same_uid),
)
  where
    below_or_at : (a b : ℕ) → a ≤ b → (a < b) ⊎ (a ≡ b)
    below_or_at a b upto = ⊎_elim (λ lt. inl lt) (λ ge. inr (omega arith)) (cases_lt a b)

    among : (w : past.Version) → Contains (versions ++ v ∷ []) w → w.revision < v.revision → Contains versions w
    among w w_in under = ⊎_elim (λ before. before) (λ is. absurd (let e = ap (λ (x : past.Version). x.revision) is in omega arith)) (Contains-push_cases versions v w w_in)

    at_or_below : IsFirstWithUid versions p → (w between : past.Version) → Contains versions w → w.key ≡ v.key → w.uid ≡ v.uid → Contains versions between → between.key ≡ v.key
        → w.revision < between.revision → between.revision ≤ p.revision → between.uid ≡ v.uid
    at_or_below first w between w_in w_key w_uid b_in b_key lower upto = ⊎_elim
        (λ under. first w between w_in (w_key ∙ sym same_key) (w_uid ∙ sym same_uid) b_in (b_key ∙ sym same_key) lower under ∙ same_uid)
        (λ is. ap (λ (x : past.Version). x.uid) (apart (λ (x : past.Version). x.revision) versions between p rising b_in p_in is) ∙ same_uid)
        (below_or_at between.revision p.revision upto)

-- a version of a uid that its key never had
pub first_new : (versions : List past.Version) (v : past.Version) → ((w : past.Version) → Contains versions w → w.revision < v.revision)
    → ((w : past.Version) → Contains versions w → w.key ≡ v.key → w.uid ≡ v.uid → ⊥) → IsFirstWithUid (versions ++ v ∷ []) v
first_new versions v below never = λ w between w_in w_key w_uid b_in b_key lower under. ⊎_elim
    (λ before. absurd (never w before w_key w_uid))
    (λ is. absurd (let e = ap (λ (x : past.Version). x.revision) is in omega arith))
    (Contains-push_cases versions v w w_in)

-- a version of a uid that its key had before another one
pub not_first : (versions : List past.Version) (p v w : past.Version) → AllPairs (λ a b. a.revision < b.revision) versions → Contains versions p → p.key ≡ v.key → p.uid ≢ v.uid
    → p.revision < v.revision → Contains versions w → w.key ≡ v.key → w.uid ≡ v.uid → w.revision ≤ p.revision → IsFirstWithUid (versions ++ v ∷ []) v → ⊥
not_first versions p v w rising p_in p_key p_uid below w_in w_key w_uid upto first = ⊎_elim
    (λ under. p_uid (first w p (Contains-append_left versions (v ∷ []) w w_in) w_key w_uid (Contains-append_left versions (v ∷ []) p p_in) p_key under below))
    (λ ge. p_uid (ap (λ (x : past.Version). x.uid) (apart (λ (x : past.Version). x.revision) versions p w rising p_in w_in (omega arith)) ∙ w_uid))
    (cases_lt w.revision p.revision)
