-- What one bound leaves of one range, and of all choices.
use Rattle.std.proofs.Common.{◌≡◌, ℕ, zero, suc, ◌+◌, ◌<◌, ◌≤◌, List, [], ◌∷◌, length, get_or, set, take, All, min, max, arith, subst, sym}
use Rattle.std.proofs.lemmas.List.Elements.{All-more, All-take}
use Rattle.base_types.proofs.Quantifiers.{All-fewer, All-last}
use Rattle.base_types.specs.declared.verdict.claim.Bound.{Bound}
use Rattle.base_types.specs.declared.verdict.claim.Range.{Range}
use Rattle.base_types.specs.Choices.{IsChoice, Meets, MeetsAll}
use Rattle.place_choice.specs.Room.{Narrows}

-- a range that is cut at both sides has the places that it had, within the cuts
pub record IsCut (old new : Range) (low high : ℕ) : Type 0 where
  pub from : new.low ≡ max old.low low
  pub to : new.high ≡ min old.high high

-- the place that a choice gives the range lies within the cuts
abbrev pub LiesWithin : ℕ → ℕ → List ℕ → ℕ → Type 0
LiesWithin low high choice k = (low ≤ get_or choice k 0) × (get_or choice k 0 ≤ high)

pub IsChoice-cut : (ranges : List Range) (choice : List ℕ) (k : ℕ) (d new : Range) (low high : ℕ) → k < length ranges → IsCut (get_or ranges k d) new low high
    → IsChoice (set ranges k new) choice → IsChoice ranges choice × LiesWithin low high choice k
IsChoice-cut [] choice k d new low high within cut chosen = absurd (omega arith)
IsChoice-cut (r ∷ rs) [] zero d new low high within cut chosen = absurd chosen
IsChoice-cut (r ∷ rs) [] (suc k) d new low high within cut chosen = absurd chosen
IsChoice-cut (r ∷ rs) (x ∷ xs) zero d new low high within cut chosen = (((omega arith, omega arith), chosen.1), (omega arith, omega arith))
IsChoice-cut (r ∷ rs) (x ∷ xs) (suc k) d new low high within cut chosen =
    let rest = IsChoice-cut rs xs k d new low high (omega arith) cut chosen.1 in ((chosen.0, rest.0), rest.1)

pub IsChoice-uncut : (ranges : List Range) (choice : List ℕ) (k : ℕ) (d new : Range) (low high : ℕ) → k < length ranges → IsCut (get_or ranges k d) new low high
    → IsChoice ranges choice → LiesWithin low high choice k → IsChoice (set ranges k new) choice
IsChoice-uncut [] choice k d new low high within cut chosen lies = absurd (omega arith)
IsChoice-uncut (r ∷ rs) [] zero d new low high within cut chosen lies = absurd chosen
IsChoice-uncut (r ∷ rs) [] (suc k) d new low high within cut chosen lies = absurd chosen
IsChoice-uncut (r ∷ rs) (x ∷ xs) zero d new low high within cut chosen lies = ((omega arith, omega arith), chosen.1)
IsChoice-uncut (r ∷ rs) (x ∷ xs) (suc k) d new low high within cut chosen lies =
    (chosen.0, IsChoice-uncut rs xs k d new low high (omega arith) cut chosen.1 lies)

-- a choice has a place in each range
pub IsChoice-at : (ranges : List Range) (choice : List ℕ) (k : ℕ) (d : Range) → k < length ranges → IsChoice ranges choice → LiesWithin (get_or ranges k d).low (get_or ranges k d).high choice k
IsChoice-at [] choice k d within chosen = absurd (omega arith)
IsChoice-at (r ∷ rs) [] k d within chosen = absurd chosen
IsChoice-at (r ∷ rs) (x ∷ xs) zero d within chosen = chosen.0
IsChoice-at (r ∷ rs) (x ∷ xs) (suc k) d within chosen = IsChoice-at rs xs k d (omega arith) chosen.1

-- the next bound narrows what the earlier ones left
pub Narrows-more : (ranges left : List Range) (bounds : List Bound) (i : ℕ) (b : Bound) (d new : Range) → i < length bounds → b ≡ get_or bounds i b → b.range < length left
    → IsCut (get_or left b.range d) new b.low b.high → Narrows ranges left (take i bounds) → Narrows ranges (set left b.range new) (take (i + 1) bounds)
Narrows-more ranges left bounds i b d new within is inside cut narrows = λ choice. (
  λ chosen.
      let apart = IsChoice-cut left choice b.range d new b.low b.high inside cut chosen in
      let before = (narrows choice).0 apart.0 in
      (before.0, All-more (Meets choice) bounds i b within before.1 (subst (Meets choice) is apart.1)),
  λ both.
      let before = All-fewer (Meets choice) bounds i within both.1 in
      let last : Meets choice b = subst (Meets choice) (sym is) (All-last (Meets choice) bounds i b within both.1) in
      IsChoice-uncut left choice b.range d new b.low b.high inside cut ((narrows choice).1 (both.0, before)) last,
)

-- where the cuts cross, no choice meets the bounds
pub none_from_crossed : (ranges left : List Range) (bounds : List Bound) (i : ℕ) (b : Bound) (d : Range) → i < length bounds → b ≡ get_or bounds i b → b.range < length left
    → min (get_or left b.range d).high b.high < max (get_or left b.range d).low b.low → Narrows ranges left (take i bounds)
    → (choice : List ℕ) → IsChoice ranges choice → MeetsAll choice bounds → ⊥
none_from_crossed ranges left bounds i b d within is inside crossed narrows choice chosen met =
    let upto : All (Meets choice) (take i bounds) = All-take (Meets choice) i bounds met in
    let in_left = (narrows choice).1 (chosen, upto) in
    let place = IsChoice-at left choice b.range d inside in_left in
    let last : Meets choice b = subst (Meets choice) (sym is) (met i b within) in
    omega arith
