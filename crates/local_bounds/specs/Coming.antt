-- The versions that have their revisions in a window.
use Rattle.std.specs.Prelude.{◌≡◌, ◌≤◌, ℕ, Option, Some, None, Contains}
use Rattle.base_types.specs.declared.kubernetes.key.ObjectKey.{ObjectKey}
use Rattle.history_model.specs.Histories.{History, Version}

-- the key's last version in the window, if there is one
abbrev pub IsComer : History → ObjectKey → ℕ → ℕ → Option Version → Type 0
IsComer h key low high None = (w : Version) → Contains h.versions w → w.key ≡ key → low ≤ w.revision → w.revision ≤ high → ⊥
IsComer h key low high (Some v) = Contains h.versions v × (v.key ≡ key) × (low ≤ v.revision) × (v.revision ≤ high)
    × ((w : Version) → Contains h.versions w → w.key ≡ key → w.revision ≤ high → w.revision ≤ v.revision)
