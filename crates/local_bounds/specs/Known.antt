-- The history of which the past, the clouds and the selectors are known.
use Rattle.std.specs.Prelude.{◌≡◌, ◌↔◌, ℕ, Bool}
use Rattle.base_types.specs.declared.kubernetes.key.ObjectKey.{ObjectKey}
use Rattle.clouds.specs.Clouds as cloud
use Rattle.clouds.specs.Writes.{Writes}
use Rattle.history_model.specs.Clouds.{IsClouded}
use Rattle.history_model.specs.Events.{Event}
use Rattle.history_model.specs.Histories.{History}
use Rattle.history_model.specs.Readable.{IsReadable}
use Rattle.history_model.specs.Windows.{low_end, high_end}
use Rattle.object_past.specs.Past.{Recorded, HasPast}
use Rattle.write_groups.specs.declared.window.Window.{Window}

-- the past is that of the history, which is one of its log
pub record IsPastOf (past : Recorded) (h : History) : Type 0 where
  pub recorded : HasPast past h
  pub readable : IsReadable h

-- the clouds are those of the history
abbrev pub HasClouds : Writes → History → Type 0
HasClouds writes h = (key : ObjectKey) (place : ℕ) → cloud.IsClouded writes key place ↔ IsClouded h key place

-- the selectors are those of the history's lists
abbrev pub HasSelectors : (ℕ → ℕ → Bool) → History → Type 0
HasSelectors listable h = (event tree : ℕ) → listable event tree ≡ h.listable event tree

pub record IsKnownBy (past : Recorded) (writes : Writes) (h : History) : Type 0 where
  pub of_past : IsPastOf past h
  pub clouds : HasClouds writes h

-- the ends of the event's window
pub record IsWindowOf (h : History) (event : Event) (window : Window) : Type 0 where
  pub from : window.low ≡ low_end h event
  pub to : window.high ≡ high_end h event
