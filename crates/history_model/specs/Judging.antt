-- The order of judgement.
use Rattle.std.specs.Prelude.{◌≡◌, ◌<◌, ℕ, ◌<ℤ◌, ◌⊎◌, Bool, true, false, length, take, AllPairs, Contains}
use Rattle.history_model.specs.Events.{Event, is_checkpoint}
use Rattle.history_model.specs.Histories.{History, IsEvent}

abbrev pub PrecedesByKind : Bool → Bool → Event → Event → Type 0
PrecedesByKind false false a b = (a.hi <ℤ b.hi) ⊎ ((a.hi ≡ b.hi) × (a.line < b.line))
PrecedesByKind false true a b = Unit {0}
PrecedesByKind true false a b = ⊥
PrecedesByKind true true a b = a.line < b.line

-- the events of the log by the end of their time, then by line; the checkpoints behind them
abbrev pub IsJudgedBefore : Event → Event → Type 0
IsJudgedBefore a b = PrecedesByKind (is_checkpoint a) (is_checkpoint b) a b

-- the list has the numbers of all events, in the order of judgement
pub record IsOrder (h : History) : Type 0 where
  pub known : (number : ℕ) → Contains h.order number → number < length h.events
  pub full : (number : ℕ) → number < length h.events → Contains h.order number
  pub sorted : AllPairs (λ a b. (x y : Event) → IsEvent h a x → IsEvent h b y → IsJudgedBefore x y) h.order

-- the first event in the order of judgement of which this holds
pub record IsFirst (h : History) (Holds : Event → Type 0) (number : ℕ) (event : Event) : Type 0 where
  pub known : IsEvent h number event
  pub holds : Holds event
  pub none_before : (n : ℕ) (other : Event) → IsEvent h n other → Holds other → IsJudgedBefore other event → ⊥

-- one of the first n events in the order of judgement
abbrev pub IsJudged : History → ℕ → ℕ → Type 0
IsJudged h n number = Contains (take n h.order) number
